-- The least of a list of offers, and what one more call does to a run of the one-thread bound.
use Rattle.std.proofs.Common.{◌≡◌, ℕ, ◌+◌, ◌<◌, ◌≤◌, min, Bool, true, false, List, [], ◌∷◌, ◌++◌, sym, refl}
use Rattle.std.proofs.Common.{ap, subst, arith, ◌∙◌, if◌then◌else◌}
use Rattle.std.specs.Prelude.{nat_lt, Some, None, length}
use Rattle.std.proofs.lemmas.Bool.{lt-ltb, le-ltb}
use Rattle.std.specs.List.{range_with_len}
use mathlib.Core.Logic.{dite}
use native.Mathlib.Decide.{ℕ_discrete, dec_le}
use Rattle.shared_bound.specs.declared.TheConstants.{NO_OFFER}
use Rattle.shared_bound.specs.Bound.{BoundState, BoundCall, claim, look, offer, fresh, bound_after}
use Rattle.shared_bound.specs.Bound.{bound_after_all, offers, sources_given, with_source}
use Rattle.shared_bound.specs.Seats.{least_offer}
use Rattle.shared_bound.specs.Rule.{times}
use Rattle.shared_bound.proofs.Totals.{times_here, times_there}

pub least_offer_le_none : (xs : List ℕ) → least_offer xs ≤ NO_OFFER
least_offer_le_none [] = omega arith
least_offer_le_none (x ∷ xs) = let h = least_offer_le_none xs in omega arith

below_one : (x : ℕ) (ys : List ℕ) → 0 < times x ys → least_offer ys ≤ x
below_one x [] h = absurd (omega arith)
below_one x (y ∷ ys) h =
    dite (ℕ_discrete y x) (λ same. omega arith) (λ other. let a = times_there x y ys other in
    let b = below_one x ys (omega arith) in omega arith)

below_all : (k : ℕ) (ys : List ℕ) → k ≤ NO_OFFER → ((y : ℕ) → 0 < times y ys → k ≤ y) → k ≤ least_offer ys
below_all k [] top h = top
below_all k (y ∷ ys) top h =
    let a = times_here y ys in
    let here = h y (omega arith) in
    let there = below_all k ys top (λ z l. h z (omega arith)) in
    omega arith

least_under : (xs ys : List ℕ) → ((x : ℕ) → times x xs ≡ times x ys) → least_offer xs ≤ least_offer ys
least_under xs ys h =
    below_all (least_offer xs) ys (least_offer_le_none xs)
    (λ y l. below_one y xs (let a = h y in omega arith))

-- two lists with the same numbers have the same least
pub same_least : (xs ys : List ℕ) → ((x : ℕ) → times x xs ≡ times x ys) → least_offer xs ≡ least_offer ys
same_least xs ys h =
    let a = least_under xs ys h in
    let b = least_under ys xs (λ x. sym (h x)) in
    omega arith

-- a run leaves the least of its offers
least_of_run : (n : ℕ) (s : BoundState) (calls : List BoundCall) → s.least ≤ NO_OFFER
    → (bound_after_all n s calls).least ≡ min s.least (least_offer (offers calls))
least_of_run n s [] top = omega arith
least_of_run n s (claim ∷ calls) top = least_of_run n (bound_after n s claim) calls top
least_of_run n s (look ∷ calls) top = least_of_run n s calls top
least_of_run n s (offer x ∷ calls) top =
    let h : (bound_after_all n (bound_after n s (offer x)) calls).least
    ≡ min (min s.least x) (least_offer (offers calls)) =
    least_of_run n (bound_after n s (offer x)) calls (omega arith) in omega arith

pub leaves_least : (n : ℕ) (calls : List BoundCall) → (bound_after_all n fresh calls).least
    ≡ least_offer (offers calls)
leaves_least n calls = let h = least_of_run n fresh calls (omega arith) in
    let top = least_offer_le_none (offers calls) in omega arith

-- one call more
pub run-append : (n : ℕ) (s : BoundState) (calls : List BoundCall) (call : BoundCall)
    → bound_after_all n s (calls ++ call ∷ []) ≡ bound_after n (bound_after_all n s calls) call
run-append n s [] call = refl
run-append n s (c ∷ calls) call = run-append n (bound_after n s c) calls call

pub times-offers : (x : ℕ) (calls more : List BoundCall) → times x (offers (calls ++ more))
    ≡ times x (offers calls) + times x (offers more)
times-offers x [] more = omega arith
times-offers x (claim ∷ calls) more = times-offers x calls more
times-offers x (look ∷ calls) more = times-offers x calls more
times-offers x (offer y ∷ calls) more = let h = times-offers x calls more in omega arith

-- a claim raises the sources given out until all are
claim_gives : (n c : ℕ) → (if nat_lt (min c n) n then min c n + 1 else min c n) ≡ min (c + 1) n
claim_gives n c = dite (dec_le n c)
    (λ full. let past : nat_lt (min c n) n ≡ false = le-ltb (min c n) n (omega arith) in
    ap (λ (b : Bool). if b then min c n + 1 else min c n) past ∙ omega arith)
    (λ left. let below : nat_lt (min c n) n ≡ true = lt-ltb (min c n) n (omega arith) in
    ap (λ (b : Bool). if b then min c n + 1 else min c n) below ∙ omega arith)

abbrev state : ℕ → ℕ → BoundState
state given least = record { given = given; least = least }

-- where the calls lead, and where they lead with one more
module _ (n : ℕ) (calls : List BoundCall) where
  pub leads_claim : (c m : ℕ) → bound_after_all n fresh calls ≡ state (min c n) m
      → bound_after_all n fresh (calls ++ claim ∷ []) ≡ state (min (c + 1) n) m
  leads_claim c m e =
      run-append n fresh calls claim
      ∙ (ap (λ s. bound_after n s claim) e ∙ ap (λ (given : ℕ). state given m) (claim_gives n c))

  pub leads_look : (given m : ℕ) → bound_after_all n fresh calls ≡ state given m
      → bound_after_all n fresh (calls ++ look ∷ []) ≡ state given m
  leads_look given m e = run-append n fresh calls look ∙ e

  pub leads_offer : (given m x : ℕ) → bound_after_all n fresh calls ≡ state given m
      → bound_after_all n fresh (calls ++ offer x ∷ []) ≡ state given (min m x)
  leads_offer given m x e = run-append n fresh calls (offer x) ∙ ap (λ s. bound_after n s (offer x)) e

-- what the claims of a run are given, in order
module _ (n : ℕ) where
  -- one claim of a run
  claim_below : (s : BoundState) (calls : List BoundCall) → s.given < n
      → sources_given n s (claim ∷ calls) ≡ s.given ∷ sources_given n (state (s.given + 1) s.least) calls
  claim_below s calls below =
      ap (λ (b : Bool). with_source (if b then Some s.given else None)
      (sources_given n (state (if b then s.given + 1 else s.given) s.least) calls)) (lt-ltb s.given n below)

  claim_past : (s : BoundState) (calls : List BoundCall) → n ≤ s.given
      → sources_given n s (claim ∷ calls) ≡ sources_given n s calls
  claim_past s calls past =
      ap (λ (b : Bool). with_source (if b then Some s.given else None)
      (sources_given n (state (if b then s.given + 1 else s.given) s.least) calls)) (le-ltb s.given n past)

  -- the claims of a run are given the next sources, in order
  sources_in_order : (s : BoundState) (calls : List BoundCall)
      → sources_given n s calls ≡ range_with_len s.given (length (sources_given n s calls))
  sources_in_order s [] = refl
  sources_in_order s (look ∷ calls) = sources_in_order s calls
  sources_in_order s (offer x ∷ calls) = sources_in_order (bound_after n s (offer x)) calls
  sources_in_order s (claim ∷ calls) = dite (dec_le n s.given)
      (λ past. subst (λ xs. xs ≡ range_with_len s.given (length xs)) (sym (claim_past s calls past))
      (sources_in_order s calls))
      (λ left. subst (λ xs. xs ≡ range_with_len s.given (length xs)) (sym (claim_below s calls (omega arith)))
      (ap (λ (xs : List ℕ). s.given ∷ xs) (sources_in_order (state (s.given + 1) s.least) calls)))

  -- as many sources are given out as claims were given one
  given_more : (s : BoundState) (calls : List BoundCall) → (bound_after_all n s calls).given
      ≡ s.given + length (sources_given n s calls)
  given_more s [] = omega arith
  given_more s (look ∷ calls) = given_more s calls
  given_more s (offer x ∷ calls) = given_more (bound_after n s (offer x)) calls
  given_more s (claim ∷ calls) = dite (dec_le n s.given)
      (λ past.
      let same : bound_after n s claim ≡ s =
      ap (λ (b : Bool). state (if b then s.given + 1 else s.given) s.least) (le-ltb s.given n past) in
      ap (λ t. (bound_after_all n t calls).given) same
      ∙ (given_more s calls ∙ ap (λ xs. s.given + length xs) (sym (claim_past s calls past))))
      (λ left.
      let below : s.given < n = omega arith in
      let up : bound_after n s claim ≡ state (s.given + 1) s.least =
      ap (λ (b : Bool). state (if b then s.given + 1 else s.given) s.least) (lt-ltb s.given n below) in
      let rest = given_more (state (s.given + 1) s.least) calls in
      let long = ap length (claim_below s calls below) in
      ap (λ t. (bound_after_all n t calls).given) up ∙ omega arith)

  pub sources_of_run : (calls : List BoundCall) (count : ℕ) → (bound_after_all n fresh calls).given ≡ count
      → sources_given n fresh calls ≡ range_with_len 0 count
  sources_of_run calls count e = let more = given_more fresh calls in
      let long : length (sources_given n fresh calls) ≡ count = omega arith in
      sources_in_order fresh calls ∙ ap (range_with_len 0) long
