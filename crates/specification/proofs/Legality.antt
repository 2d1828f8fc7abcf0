-- Whether a recording is legal is computed: by its numbers, by each entry, by each replica's stream, and by
-- going along the entries with those before each. A replica that the recording doesn't have has no stream.
use Rattle.std.proofs.Common.{◌≡◌, ◌≢◌, ℕ, ◌<◌, ◌≤◌, ◌⊎◌, inl, inr, Bool, true, List, [], ◌∷◌, ◌++◌, length}
use Rattle.std.proofs.Common.{refl, sym, ◌∙◌, arith, ap, subst, append_assoc, append-nil}
use Rattle.std.specs.Prelude.{◌^◌, All, not, ◌&&◌, ◌==◌, nat_lt, nat_le, count_by, sum_by}
use Rattle.std.specs.List.{list_all}
use Rattle.std.proofs.lemmas.Bool.{cases_lt, leb-true, ltb-true, and_parts}
use Rattle.std.proofs.lemmas.Bool.Decides.{Decides-not, Decides-eqb}
use Rattle.events.specs.Names.{NameBytes, IsName, is_name_byte}
use Rattle.events.specs.History.{History, stream, count_of, is_insert, response_of, IsWellFormed, KeepsLimits}
use Rattle.events.specs.History.{IsInOrder, IsLegal}
use Rattle.events.specs.Operations.{numbers_from}
use Rattle.events.specs.declared.TheConstants.{MOST_REPLICAS, MOST_ENTRIES, MOST_INSERTS, MOST_NAMES}
use Rattle.events.specs.declared.TheConstants.{MOST_PLACES}
use Rattle.events.specs.declared.entry.Entry.{Entry}
use Rattle.events.specs.declared.entry.Body.{Body}
use Rattle.events.specs.declared.entry.Body.TheVariants.{Ins, Del, Read, View, Recv}
use Rattle.specification.proofs.Members.{All-from_members}
use Rattle.specification.proofs.OperationNames.{In-numbers_from, stream_of-none}
use Rattle.specification.proofs.Tests.{Decides-each}

-- a list of which each member passes
all_passing : {X : Type 0} (test : X → Bool) (P : X → Type 0) → ((x : X) → test x ≡ true → P x)
    → (xs : List X) → list_all test xs ≡ true → All P xs
all_passing test P each xs e =
    All-from_members P xs
    (λ x i. each x ((Decides-each test (λ y. test y ≡ true) (λ y. (λ h. h, λ h. h)) xs).0 e x i))

abbrev is_name : NameBytes → Bool
is_name a = nat_le 1 (length a) && (nat_le (length a) 32 && list_all is_name_byte a)

name-from : (a : NameBytes) → is_name a ≡ true → IsName a
name-from a e =
    let p : (nat_le 1 (length a) ≡ true) × ((nat_le (length a) 32 && list_all is_name_byte a) ≡ true) =
    and_parts _ _ e in
    let q : (nat_le (length a) 32 ≡ true) × (list_all is_name_byte a ≡ true) = and_parts _ _ p.1 in
    record { some_byte = leb-true 1 (length a) p.0; few_bytes = leb-true (length a) 32 q.0; each_byte = q.1 }

abbrev is_well_formed : Body → Bool
is_well_formed (Ins name at w) = is_name name && (nat_lt at (2 ^ 32) && list_all is_name w)
is_well_formed (Del name w) = is_name name && list_all is_name w
is_well_formed (Read w) = list_all is_name w
is_well_formed (View w) = list_all is_name w
is_well_formed (Recv seen) = nat_lt seen.replica (2 ^ 32) && (nat_le 1 seen.n && nat_lt seen.n (2 ^ 32))

well_formed-from : (b : Body) → is_well_formed b ≡ true → IsWellFormed b
well_formed-from (Ins name at w) e =
    let p : (is_name name ≡ true) × ((nat_lt at (2 ^ 32) && list_all is_name w) ≡ true) = and_parts _ _ e in
    let q : (nat_lt at (2 ^ 32) ≡ true) × (list_all is_name w ≡ true) = and_parts _ _ p.1 in
    (name-from name p.0, ltb-true at (2 ^ 32) q.0, all_passing is_name IsName name-from w q.1)
well_formed-from (Del name w) e =
    let p : (is_name name ≡ true) × (list_all is_name w ≡ true) = and_parts _ _ e in
    (name-from name p.0, all_passing is_name IsName name-from w p.1)
well_formed-from (Read w) e = all_passing is_name IsName name-from w e
well_formed-from (View w) e = all_passing is_name IsName name-from w e
well_formed-from (Recv seen) e =
    let p : (nat_lt seen.replica (2 ^ 32) ≡ true) × ((nat_le 1 seen.n && nat_lt seen.n (2 ^ 32)) ≡ true) =
    and_parts _ _ e in
    let q : (nat_le 1 seen.n ≡ true) × (nat_lt seen.n (2 ^ 32) ≡ true) = and_parts _ _ p.1 in
    (ltb-true seen.replica (2 ^ 32) p.0, leb-true 1 seen.n q.0, ltb-true seen.n (2 ^ 32) q.1)

abbrev keeps_limits : List Body → Bool
keeps_limits bs =
    nat_le (length bs) MOST_ENTRIES && (nat_le (count_by is_insert bs) MOST_INSERTS
    && (list_all (λ b. nat_le (length (response_of b)) MOST_NAMES) bs && nat_le
    (sum_by (λ b. length (response_of b)) bs) MOST_PLACES))

limits-from : (bs : List Body) → keeps_limits bs ≡ true → KeepsLimits bs
limits-from bs e =
    let p : (nat_le (length bs) MOST_ENTRIES ≡ true) × _ = and_parts _ _ e in
    let q : (nat_le (count_by is_insert bs) MOST_INSERTS ≡ true) × _ = and_parts _ _ p.1 in
    let r : (list_all (λ b. nat_le (length (response_of b)) MOST_NAMES) bs ≡ true)
    × (nat_le (sum_by (λ b. length (response_of b)) bs) MOST_PLACES ≡ true) = and_parts _ _ q.1 in
    record {
      entries = leb-true (length bs) MOST_ENTRIES p.0;
      inserts = leb-true (count_by is_insert bs) MOST_INSERTS q.0;
      names = all_passing (λ b. nat_le (length (response_of b)) MOST_NAMES)
          (λ b. length (response_of b) ≤ MOST_NAMES) (λ b. leb-true (length (response_of b)) MOST_NAMES) bs
          r.0;
      places = leb-true (sum_by (λ b. length (response_of b)) bs) MOST_PLACES r.1;
    }

abbrev is_in_order_by : ℕ → List Entry → ℕ → Body → Bool
is_in_order_by replicas earlier r (Ins name at w) = true
is_in_order_by replicas earlier r (Del name w) = true
is_in_order_by replicas earlier r (Read w) = true
is_in_order_by replicas earlier r (View w) = true
is_in_order_by replicas earlier r (Recv seen) =
    nat_lt seen.replica replicas && (not (seen.replica == r) && nat_le seen.n (count_of seen.replica earlier))

in_order-from : (replicas : ℕ) (earlier : List Entry) (e : Entry)
    → is_in_order_by replicas earlier e.replica e.body ≡ true → IsInOrder replicas earlier e
in_order-from replicas earlier e t seen is = go e.body is t
  where
    go : (b : Body) → b ≡ Recv seen → is_in_order_by replicas earlier e.replica b ≡ true
        → (seen.replica < replicas) × (seen.replica ≢ e.replica) × (seen.n ≤ count_of seen.replica earlier)
    go b q t =
        let u : is_in_order_by replicas earlier e.replica (Recv seen) ≡ true =
        subst (λ b. is_in_order_by replicas earlier e.replica b ≡ true) q t in
        let p : (nat_lt seen.replica replicas ≡ true)
        × ((not (seen.replica == e.replica) && nat_le seen.n (count_of seen.replica earlier)) ≡ true) =
        and_parts _ _ u in
        let r : (not (seen.replica == e.replica) ≡ true)
        × (nat_le seen.n (count_of seen.replica earlier) ≡ true) = and_parts _ _ p.1 in (
          ltb-true seen.replica replicas p.0,
          (Decides-not (seen.replica == e.replica) (Decides-eqb seen.replica e.replica)).0 r.0,
          leb-true seen.n (count_of seen.replica earlier) r.1,
        )

-- each entry after those before it
abbrev are_in_order : ℕ → List Entry → List Entry → Bool
are_in_order replicas before [] = true
are_in_order replicas before (e ∷ es) =
    is_in_order_by replicas before e.replica e.body && are_in_order replicas (before ++ e ∷ []) es

receipts-from : (replicas : ℕ) (before es : List Entry) → are_in_order replicas before es ≡ true →
    (earlier later : List Entry) (e : Entry) → es ≡ earlier ++ e ∷ later
    → IsInOrder replicas (before ++ earlier) e
receipts-from replicas before [] t [] later e is = absurd Prim.cc
receipts-from replicas before [] t (x ∷ earlier) later e is = absurd Prim.cc
receipts-from replicas before (x ∷ es) t [] later e is =
    let head : x ≡ e = Prim.cc in
    let p : (is_in_order_by replicas before x.replica x.body ≡ true) × _ = and_parts _ _ t in
    subst (λ bs. IsInOrder replicas bs e) (sym (append-nil before))
    (subst (λ y. IsInOrder replicas before y) head (in_order-from replicas before x p.0))
receipts-from replicas before (x ∷ es) t (y ∷ earlier) later e is =
    let head : x ≡ y = Prim.cc in
    let tail : es ≡ earlier ++ e ∷ later = Prim.cc in
    let p : _ × (are_in_order replicas (before ++ x ∷ []) es ≡ true) = and_parts _ _ t in
    let rest : IsInOrder replicas ((before ++ x ∷ []) ++ earlier) e =
    receipts-from replicas (before ++ x ∷ []) es p.1 earlier later e tail in
    subst (λ bs. IsInOrder replicas bs e) (append_assoc before (x ∷ []) earlier
    ∙ ap (λ z. before ++ z ∷ earlier) head) rest

abbrev is_known : History → Entry → Bool
is_known h e = nat_lt e.replica h.replicas && is_well_formed e.body

abbrev has_legal_streams : History → Bool
has_legal_streams h = list_all (λ r. keeps_limits (stream h r)) (numbers_from 0 h.replicas)

abbrev has_legal_entries : History → Bool
has_legal_entries h =
    list_all (is_known h) h.entries && (has_legal_streams h && are_in_order h.replicas [] h.entries)

abbrev pub is_legal : History → Bool
is_legal h = nat_le 1 h.replicas && (nat_le h.replicas MOST_REPLICAS && has_legal_entries h)

limits-of : (h : History) → All (λ e. e.replica < h.replicas) h.entries → has_legal_streams h ≡ true → (r : ℕ)
    → KeepsLimits (stream h r)
limits-of h known t r = go (cases_lt r h.replicas)
  where
    go : (r < h.replicas) ⊎ (h.replicas ≤ r) → KeepsLimits (stream h r)
    go (inl lt) =
        limits-from (stream h r)
        ((Decides-each (λ r. keeps_limits (stream h r)) (λ r. keeps_limits (stream h r) ≡ true)
        (λ r. (λ e. e, λ e. e)) (numbers_from 0 h.replicas)).0 t r
        (In-numbers_from 0 h.replicas r (omega arith) (omega arith)))
    go (inr le) =
        subst (λ bs. KeepsLimits bs) (sym (stream_of-none h.replicas r h.entries known le))
        (limits-from [] refl)

pub legal-from : (h : History) → is_legal h ≡ true → IsLegal h
legal-from h t =
    let one : (nat_le 1 h.replicas ≡ true)
    × ((nat_le h.replicas MOST_REPLICAS && has_legal_entries h) ≡ true) = and_parts _ _ t in
    let two : (nat_le h.replicas MOST_REPLICAS ≡ true) × (has_legal_entries h ≡ true) = and_parts _ _ one.1 in
    let three : (list_all (is_known h) h.entries ≡ true)
    × ((has_legal_streams h && are_in_order h.replicas [] h.entries) ≡ true) = and_parts _ _ two.1 in
    let four : (has_legal_streams h ≡ true) × (are_in_order h.replicas [] h.entries ≡ true) =
    and_parts _ _ three.1 in
    let known : All (λ e. e.replica < h.replicas) h.entries =
    all_passing (is_known h) (λ e. e.replica < h.replicas)
    (λ e p. ltb-true e.replica h.replicas (and_parts _ _ p).0) h.entries three.0 in
    record {
      some_replica = leb-true 1 h.replicas one.0;
      few_replicas = leb-true h.replicas MOST_REPLICAS two.0;
      replica_known = known;
      well_formed =
          all_passing (is_known h) (λ e. IsWellFormed e.body)
          (λ e p. well_formed-from e.body (and_parts _ _ p).1) h.entries three.0;
      limits = limits-of h known four.0;
      receipts = λ earlier later e is. receipts-from h.replicas [] h.entries four.1 earlier later e is;
    }
