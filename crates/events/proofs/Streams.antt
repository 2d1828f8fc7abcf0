-- Streams of a list of entries with one more at its end, and how many entries all replicas have together.
use Rattle.std.proofs.Common.{◌≡◌, ◌≢◌, ℕ, zero, suc, ◌+◌, ◌*◌, ◌<◌, ◌≤◌, false, cond, ◌==◌, List, [], ◌∷◌}
use Rattle.std.proofs.Common.{◌++◌, length, map, refl, ◌∙◌, ap, arith, eq-eqb}
use Rattle.std.specs.Prelude.{All, filter, count_by, nat_lt}
use Rattle.std.proofs.lemmas.Bool.{ne_eqb, lt-ltb}
use Rattle.std.proofs.lemmas.Bool.Decides.{nat_tests}
use Rattle.std.proofs.lemmas.List.Elements.{filter-append}
use Rattle.std.proofs.lemmas.List.{map-append, length-map}
use Rattle.std.proofs.lemmas.List.Sums.{sum_by-cons, length-filter}
use Rattle.events.specs.History.{History, IsLegal, stream_of}
use Rattle.events.specs.declared.TheConstants.{MOST_REPLICAS, MOST_ENTRIES}
use Rattle.events.specs.declared.entry.Entry.{Entry}

pub stream_of-append : (r : ℕ) (xs ys : List Entry)
    → stream_of r (xs ++ ys) ≡ stream_of r xs ++ stream_of r ys
stream_of-append r xs ys =
    ap (map (λ (e : Entry). e.body)) (filter-append (λ (e : Entry). e.replica == r) xs ys)
    ∙ map-append (λ (e : Entry). e.body) (filter (λ (e : Entry). e.replica == r) xs)
    (filter (λ (e : Entry). e.replica == r) ys)

pub own_stream : (r : ℕ) (e : Entry) → e.replica ≡ r → stream_of r (e ∷ []) ≡ e.body ∷ []
own_stream r e h = ap (λ b. map (λ (e : Entry). e.body) (cond b (e ∷ []) [])) (eq-eqb e.replica r h)

other_stream : (r : ℕ) (e : Entry) → e.replica ≢ r → stream_of r (e ∷ []) ≡ []
other_stream r e h = ap (λ b. map (λ (e : Entry). e.body) (cond b (e ∷ []) [])) (ne_eqb e.replica r h)

-- one more entry of r is one more body of its stream
pub stream_of-own : (r : ℕ) (xs : List Entry) (e : Entry) → e.replica ≡ r
    → stream_of r (xs ++ e ∷ []) ≡ stream_of r xs ++ e.body ∷ []
stream_of-own r xs e h = stream_of-append r xs (e ∷ []) ∙ ap (λ bs. stream_of r xs ++ bs) (own_stream r e h)

pub append-nil : {X : Type 0} (xs : List X) → xs ++ [] ≡ xs
append-nil [] = refl
append-nil (x ∷ xs) = ap (λ l. x ∷ l) (append-nil xs)

-- one more entry of another replica changes nothing
pub stream_of-other : (r : ℕ) (xs : List Entry) (e : Entry) → e.replica ≢ r
    → stream_of r (xs ++ e ∷ []) ≡ stream_of r xs
stream_of-other r xs e h =
    stream_of-append r xs (e ∷ []) ∙ ap (λ bs. stream_of r xs ++ bs) (other_stream r e h)
    ∙ append-nil (stream_of r xs)

-- a replica that no entry has has no stream
pub stream_of-none : (r : ℕ) (xs : List Entry) → All (λ (e : Entry). e.replica ≢ r) xs → stream_of r xs ≡ []
stream_of-none r [] h = refl
stream_of-none r (e ∷ xs) h =
    let none : stream_of r xs ≡ [] = stream_of-none r xs (λ k d lt. h (suc k) d (omega arith)) in
    let first : (e.replica == r) ≡ false = ne_eqb e.replica r (h 0 e (omega arith)) in
    ap (λ b. map (λ (e : Entry). e.body) (cond b (e ∷ filter (λ (e : Entry). e.replica == r) xs)
    (filter (λ (e : Entry). e.replica == r) xs))) first ∙ none

-- entries of replicas below r + 1 are those of replicas below r and those of r
one_step : (a r : ℕ) → cond (nat_lt a (r + 1)) 1 0 ≡ cond (nat_lt a r) 1 0 + cond (a == r) 1 0
one_step a r = grind (arith, nat_tests)

below_step : (r : ℕ) (xs : List Entry) → count_by (λ (e : Entry). nat_lt e.replica (r + 1)) xs
    ≡ count_by (λ (e : Entry). nat_lt e.replica r) xs + count_by (λ (e : Entry). e.replica == r) xs
below_step r [] = refl
below_step r (e ∷ xs) =
    omega (
      arith,
      below_step r xs,
      one_step e.replica r,
      sum_by-cons (λ (e : Entry). cond (nat_lt e.replica (r + 1)) 1 0) e xs,
      sum_by-cons (λ (e : Entry). cond (nat_lt e.replica r) 1 0) e xs,
      sum_by-cons (λ (e : Entry). cond (e.replica == r) 1 0) e xs,
    )

none_below : (xs : List Entry) → count_by (λ (e : Entry). nat_lt e.replica 0) xs ≡ 0
none_below [] = refl
none_below (e ∷ xs) =
    let first : Path ℕ (cond (nat_lt e.replica 0) 1 0) 0 = grind (arith, nat_tests) in
    omega (arith, none_below xs, first, sum_by-cons (λ (e : Entry). cond (nat_lt e.replica 0) 1 0) e xs)

below_few : (r most : ℕ) (xs : List Entry) → ((q : ℕ) → length (stream_of q xs) ≤ most)
    → count_by (λ (e : Entry). nat_lt e.replica r) xs ≤ r * most
below_few zero most xs few = omega (arith, none_below xs)
below_few (suc r) most xs few =
    let own : length (stream_of r xs) ≡ count_by (λ (e : Entry). e.replica == r) xs =
    length-map (filter (λ (e : Entry). e.replica == r) xs) (λ (e : Entry). e.body)
    ∙ length-filter (λ (e : Entry). e.replica == r) xs in
    let next : Path ℕ (count_by (λ (e : Entry). nat_lt e.replica (suc r)) xs)
    (count_by (λ (e : Entry). nat_lt e.replica (r + 1)) xs) =
    ap (λ n. count_by (λ (e : Entry). nat_lt e.replica n) xs) (omega arith) in
    omega (arith, below_few r most xs few, few r, own, next, below_step r xs)

all_below : (r : ℕ) (xs : List Entry) → All (λ (e : Entry). e.replica < r) xs
    → count_by (λ (e : Entry). nat_lt e.replica r) xs ≡ length xs
all_below r [] h = refl
all_below r (e ∷ xs) h =
    let first : Path ℕ (cond (nat_lt e.replica r) 1 0) 1 =
    ap (λ b. cond b 1 0) (lt-ltb e.replica r (h 0 e (omega arith))) in
    omega (
      arith,
      all_below r xs (λ k d lt. h (suc k) d (omega arith)),
      first,
      sum_by-cons (λ (e : Entry). cond (nat_lt e.replica r) 1 0) e xs,
    )

-- the entries of all replicas together
pub entries_few : (h : History) → IsLegal h → length h.entries ≤ MOST_REPLICAS * MOST_ENTRIES
entries_few h legal =
    let all : count_by (λ (e : Entry). nat_lt e.replica h.replicas) h.entries ≡ length h.entries =
    all_below h.replicas h.entries legal.replica_known in
    let few : count_by (λ (e : Entry). nat_lt e.replica h.replicas) h.entries ≤ h.replicas * MOST_ENTRIES =
    below_few h.replicas MOST_ENTRIES h.entries (λ q. (legal.limits q).entries) in
    let replicas : h.replicas ≤ MOST_REPLICAS = legal.few_replicas in
    omega arith
