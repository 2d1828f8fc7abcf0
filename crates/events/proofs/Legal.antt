-- A legal recording stays legal with one more entry that no refusal keeps out.
use Rattle.std.proofs.Common.{◌≡◌, ◌≢◌, ◌⊎◌, inl, inr, ℕ, ◌+◌, ◌<◌, ◌≤◌, Bool, true, false, cond, ◌||◌, ◌&&◌}
use Rattle.std.proofs.Common.{◌==◌, None, List, [], ◌∷◌, ◌++◌, length, refl, sym, ◌∙◌, ap, subst, arith}
use Rattle.std.proofs.Common.{length-append}
use Rattle.std.specs.Prelude.{nat_lt, nat_le, count_by, sum_by}
use Rattle.std.proofs.lemmas.Bool.{eqb-false}
use Rattle.std.proofs.lemmas.Bool.Decides.{nat_tests, eqb_tells}
use Rattle.std.proofs.lemmas.List.Elements.{All-push}
use Rattle.std.proofs.lemmas.List.Sums.{sum_by_push}
use Rattle.events.specs.Operation.{Operation}
use Rattle.events.specs.History.{History, IsLegal, IsWellFormed, IsInOrder, KeepsLimits, response_of}
use Rattle.events.specs.History.{is_insert, stream_of, count_of, with_entry}
use Rattle.events.specs.Session.{received, passes, first_refusal}
use Rattle.events.specs.declared.TheConstants.{MOST_ENTRIES, MOST_INSERTS, MOST_NAMES, MOST_PLACES}
use Rattle.events.specs.declared.entry.Entry.{Entry}
use Rattle.events.specs.declared.entry.Body.{Body}
use Rattle.events.specs.declared.entry.Body.TheVariants.{Recv}
use Rattle.events.proofs.Streams.{stream_of-own, stream_of-other}
use Rattle.events.proofs.Refusals.{IsTaken, is_taken}

-- where a list with one more element is cut
cut_push : {X : Type 0} (xs : List X) (x : X) (earlier later : List X) (y : X)
    → xs ++ x ∷ [] ≡ earlier ++ y ∷ later →
    ((earlier ≡ xs) × (y ≡ x)) ⊎ ((rest : List X) × (xs ≡ earlier ++ y ∷ rest))
cut_push [] x [] later y e = inl (refl, cc)
cut_push [] x (z ∷ []) later y e = absurd cc
cut_push [] x (z ∷ w ∷ earlier) later y e = absurd cc
cut_push (a ∷ xs) x [] later y e = let h : a ≡ y = cc in inr (xs, ap (λ z. z ∷ xs) h)
cut_push {X} (a ∷ xs) x (z ∷ earlier) later y e =
    let h : a ≡ z = cc in
    let t : xs ++ x ∷ [] ≡ earlier ++ y ∷ later = cc in
    go h (cut_push xs x earlier later y t)
  where
    go : a ≡ z → ((earlier ≡ xs) × (y ≡ x)) ⊎ ((rest : List X) × (xs ≡ earlier ++ y ∷ rest)) →
        ((z ∷ earlier ≡ a ∷ xs) × (y ≡ x)) ⊎ ((rest : List X) × (a ∷ xs ≡ (z ∷ earlier) ++ y ∷ rest))
    go h (inl w) = inl ((λ i. sym h i ∷ w.0 i), w.1)
    go h (inr w) = inr (w.0, (λ i. h i ∷ w.1 i))

or-false : (a b : Bool) → (a || b) ≡ false → (a ≡ false) × (b ≡ false)
or-false true b e = absurd cc
or-false false b e = (refl, e)

inserts-few : (b : Bool) (n most : ℕ) → (b && nat_le most n) ≡ false → n ≤ most → n + cond b 1 0 ≤ most
inserts-few true n most e le = grind (arith, nat_tests)
inserts-few false n most e le = omega arith

limits_more : (bodies : List Body) (b : Body) → KeepsLimits bodies
    → nat_le MOST_ENTRIES (length bodies) ≡ false
    → (is_insert b && nat_le MOST_INSERTS (count_by is_insert bodies)) ≡ false →
    nat_lt MOST_NAMES (length (response_of b)) ≡ false
    → nat_lt MOST_PLACES (sum_by (λ b. length (response_of b)) bodies + length (response_of b)) ≡ false
    → KeepsLimits (bodies ++ b ∷ [])
limits_more bodies b h entries inserts names places = record {
  entries = let few : length bodies < MOST_ENTRIES = grind (arith, nat_tests) in
      omega (arith, few, length-append bodies (b ∷ []));
  inserts =
      subst (λ (n : ℕ). n ≤ MOST_INSERTS) (sym (sum_by_push (λ b. cond (is_insert b) 1 0) bodies b))
      (inserts-few (is_insert b) (count_by is_insert bodies) MOST_INSERTS inserts h.inserts);
  names = All-push (λ b. length (response_of b) ≤ MOST_NAMES) bodies b h.names (grind (arith, nat_tests));
  places =
      subst (λ (n : ℕ). n ≤ MOST_PLACES) (sym (sum_by_push (λ b. length (response_of b)) bodies b))
      (grind (arith, nat_tests));
}

-- the test of the operation that an entry receives
passes_of : (test : Operation → Bool) (b : Body) (seen : Operation) → b ≡ Recv seen
    → passes test (received b) ≡ false → test seen ≡ false
passes_of test b seen is e = ap (λ (b : Body). passes test (received b)) (sym is) ∙ e

pub legal_more : (h : History) (e : Entry) → IsLegal h → IsWellFormed e.body
    → first_refusal h.replicas h.entries e ≡ None → IsLegal (with_entry h e)
legal_more h e legal well none =
    let taken : IsTaken h.replicas h.entries e = is_taken h.replicas h.entries e none in
    let replica : ((nat_le h.replicas e.replica) ≡ false)
    × (passes (λ o. nat_le h.replicas o.replica) (received e.body) ≡ false) =
    or-false (nat_le h.replicas e.replica) (passes (λ o. nat_le h.replicas o.replica) (received e.body))
    taken.replica in
    let known : e.replica < h.replicas = grind (arith, nat_tests, replica.0) in
    record {
      some_replica = legal.some_replica;
      few_replicas = legal.few_replicas;
      replica_known = All-push (λ (e : Entry). e.replica < h.replicas) h.entries e legal.replica_known known;
      well_formed = All-push (λ (e : Entry). IsWellFormed e.body) h.entries e legal.well_formed well;
      limits = λ r. limits r taken (eqb_tells e.replica r);
      receipts =
          λ earlier later x split. receipts earlier x taken replica.1
          (cut_push h.entries e earlier later x split);
    }
  where
    limits : (r : ℕ) → IsTaken h.replicas h.entries e → (((e.replica == r) ≡ true) × (e.replica ≡ r))
        ⊎ (((e.replica == r) ≡ false) × (e.replica ≢ r)) → KeepsLimits (stream_of r (h.entries ++ e ∷ []))
    limits r taken (inl q) =
        let S : List Body = stream_of e.replica h.entries in
        let own : stream_of e.replica (h.entries ++ e ∷ []) ≡ S ++ e.body ∷ [] =
        stream_of-own e.replica h.entries e refl in
        let kept : KeepsLimits (S ++ e.body ∷ []) =
        limits_more S e.body (legal.limits e.replica) taken.entries_full taken.inserts_full taken.long
        taken.places_full in
        subst (λ (r : ℕ). KeepsLimits (stream_of r (h.entries ++ e ∷ []))) q.1
        (subst KeepsLimits (sym own) kept)
    limits r taken (inr q) = subst KeepsLimits (sym (stream_of-other r h.entries e q.1)) (legal.limits r)

    receipts : (earlier : List Entry) (x : Entry) → IsTaken h.replicas h.entries e
        → passes (λ o. nat_le h.replicas o.replica) (received e.body) ≡ false →
        ((earlier ≡ h.entries) × (x ≡ e)) ⊎ ((rest : List Entry) × (h.entries ≡ earlier ++ x ∷ rest))
        → IsInOrder h.replicas earlier x
    receipts earlier x taken known (inl w) =
        let here : IsInOrder h.replicas h.entries e = λ seen is.
        let below : nat_le h.replicas seen.replica ≡ false =
        passes_of (λ o. nat_le h.replicas o.replica) e.body seen is known in
        let other : (seen.replica == e.replica) ≡ false =
        passes_of (λ o. o.replica == e.replica) e.body seen is taken.own in
        let there : nat_lt (count_of seen.replica h.entries) seen.n ≡ false =
        passes_of (λ o. nat_lt (count_of o.replica h.entries) o.n) e.body seen is taken.early in
        (grind (arith, nat_tests), eqb-false seen.replica e.replica other, grind (arith, nat_tests)) in
        subst (λ (es : List Entry). IsInOrder h.replicas es x) (sym w.0)
        (subst (λ (y : Entry). IsInOrder h.replicas h.entries y) (sym w.1) here)
    receipts earlier x taken known (inr w) = legal.receipts earlier w.0 x w.1
