-- The rule after one seat's knowledge changes with the words, and totals where knowledge is cut in two or
-- joined.
use Rattle.std.proofs.Common.{◌≡◌, ◌≢◌, ℕ, ◌+◌, ◌^◌, ◌<◌, ◌≤◌, min, true, false, List, [], ◌∷◌, ◌++◌, length}
use Rattle.std.proofs.Common.{get_or, set, sym, ◌∙◌, subst, ⊎_elim, arith, length-set, get_or-set_other}
use Rattle.std.proofs.Common.{get_or-set_same, true≢false}
use Rattle.std.specs.List.{range_with_len}
use mathlib.Core.Option.{some}
use lib.ListN.{get_elem?}
use Rattle.atomic_table.specs.Table.{State, keeps, stepped}
use Rattle.atomic_table.proofs.Lists.{at_set}
use Rattle.shared_bound.specs.declared.rule.Knowledge.{Knowledge}
use Rattle.shared_bound.specs.Bound.{BoundCall, fresh, bound_after_all, offers}
use Rattle.shared_bound.specs.Rule.{total, times, Knows, Kept, Holds}
use Rattle.shared_bound.specs.Steps.{nobody}
use Rattle.shared_bound.proofs.Totals.{total_set, total-append}

pub off : false ≡ true → ⊥
off e = true≢false (sym e)

-- what is known stays so while claims only grow and the least offer only falls
still_knows : (n c m c' m' : ℕ) (k : Knowledge) → c ≤ c' → m' ≤ m → Knows n c m k → Knows n c' m' k
still_knows n c m c' m' k more less knows =
    let low = knows.lowered in
    record {
      bounded = knows.bounded;
      ended = λ h. let e = knows.ended h in omega arith;
      finished = λ h. let e = knows.finished h in omega arith;
      lowered = omega arith;
      nothing = knows.nothing;
    }

pub each_set : (n c m : ℕ) (seats : List Knowledge) (id : ℕ) (l : Knowledge) → Knows n c m l
    → ((j : ℕ) (u : Knowledge) → j ≢ id → get_elem? seats j ≡ some u → Knows n c m u)
    → (j : ℕ) (u : Knowledge) → get_elem? (set seats id l) j ≡ some u → Knows n c m u
each_set n c m seats id l mine others j u e =
    ⊎_elim
    (λ (t : (j ≡ id) × (l ≡ u)). subst (Knows n c m) t.1 mine)
    (λ (t : (j ≢ id) × (get_elem? seats j ≡ some u)). others j u t.0 t.1)
    (at_set seats id j l u e)

-- one seat's knowledge becomes l as the words become c' and m', and the history goes on
pub record Changes (n c m c' m' : ℕ) (seats : List Knowledge) (history : List BoundCall) (k l : Knowledge) :
    Type 0 where
  pub later : List BoundCall
  pub leads : bound_after_all n fresh later ≡ record { given = min c' n; least = m' }
  pub grows : c ≤ c'
  pub falls : m' ≤ m
  pub parts : l.parts ≡ k.parts
  pub within : c' + k.past ≤ n + total (λ (u : Knowledge). u.past) seats + l.past
  pub given : (x : ℕ) → times x l.claimed + times x (range_with_len 0 (min c n))
      ≡ times x k.claimed + times x (range_with_len 0 (min c' n))
  pub told : (x : ℕ) → times x l.offered + times x (offers history)
      ≡ times x k.offered + times x (offers later)
  pub knows : Knows n c' m' l

pub changed : (n c m c' m' : ℕ) (seats : List Knowledge) (id : ℕ) (k l : Knowledge) (h : Kept n c m seats)
    → get_elem? seats id ≡ some k
    → Changes n c m c' m' seats h.history k l → Kept n c' m' (set seats id l)
changed n c m c' m' seats id k l h at change =
    let grows = change.grows in
    let falls = change.falls in
    let parts = change.parts in
    let within = change.within in
    record {
      history = change.later;
      leads = change.leads;
      whole = let a = total_set (λ (u : Knowledge). u.parts) seats id k l at in let b = h.whole in
          omega arith;
      within = let a = total_set (λ (u : Knowledge). u.past) seats id k l at in omega arith;
      given = λ x. let a = total_set (λ (u : Knowledge). times x u.claimed) seats id k l at in
          let b = h.given x in let d = change.given x in omega arith;
      told = λ x. let a = total_set (λ (u : Knowledge). times x u.offered) seats id k l at in
          let b = h.told x in let d = change.told x in omega arith;
      each = each_set n c' m' seats id l change.knows
          (λ j u _ e. still_knows n c m c' m' u grows falls (h.each j u e));
    }

-- a total after a cut, where the two parts have what the whole had
pub cut : (f : Knowledge → ℕ) (seats : List Knowledge) (id : ℕ) (k l r : Knowledge)
    → get_elem? seats id ≡ some k → f l + f r ≡ f k → total f (set seats id l ++ r ∷ []) ≡ total f seats
cut f seats id k l r at e = let a = total_set f seats id k l at in
    let b = total-append f (set seats id l) (r ∷ []) in omega arith

-- a total after two are joined
pub put : (f : Knowledge → ℕ) (seats : List Knowledge) (id other : ℕ) (k l b : Knowledge)
    → get_elem? seats id ≡ some k → get_elem? (set seats id b) other ≡ some l → f b ≡ f k + f l → f nobody ≡ 0
    → total f (set (set seats id b) other nobody) ≡ total f seats
put f seats id other k l b at there both none = let a = total_set f seats id k b at in
    let d = total_set f (set seats id b) other l nobody there in omega arith

-- the rule at the words after a step, where these are c' and m'
made : (n i x c' m' : ℕ) (words : List ℕ) (seats : List Knowledge) → n < 2 ^ 32 → length words ≡ 2
    → get_or (set words i x) 0 0 ≡ c' → get_or (set words i x) 1 0 ≡ m' → Kept n c' m' seats
    → (n < 2 ^ 32) × (length (set words i x) ≡ 2)
    × Kept n (get_or (set words i x) 0 0) (get_or (set words i x) 1 0) seats
made n i x c' m' words seats small two a b h = (
  small,
  length-set words i x ∙ two,
  subst (λ (z : ℕ × ℕ). Kept n z.0 z.1 seats) (λ j. (sym a j, sym b j)) h,
)

module _ {S : Type 0} (n : ℕ) where
  abbrev pub claims : State S Knowledge → ℕ
  claims s = get_or s.words 0 0

  abbrev pub best : State S Knowledge → ℕ
  best s = get_or s.words 1 0

  -- the word of claims becomes c'
  pub counted : (s : State S Knowledge) (h : Holds n s) (id : ℕ) (slots : List (ℕ × S)) (l : Knowledge)
      (c' : ℕ) → Kept n c' (best s) (set s.views id l) → Holds n (stepped s 0 c' id slots l keeps)
  counted s h id slots l c' kept = let two = h.1 in
      made n 0 c' c' (best s) s.words (set s.views id l) h.0 two
      (get_or-set_same s.words 0 c' 0 (omega arith))
      (get_or-set_other s.words 0 1 c' 0 (λ e. omega arith)) kept

  -- the least offer becomes m'
  pub lowered : (s : State S Knowledge) (h : Holds n s) (id : ℕ) (slots : List (ℕ × S)) (l : Knowledge)
      (m' : ℕ) → Kept n (claims s) m' (set s.views id l) → Holds n (stepped s 1 m' id slots l keeps)
  lowered s h id slots l m' kept = let two = h.1 in
      made n 1 m' (claims s) m' s.words (set s.views id l) h.0 two
      (get_or-set_other s.words 1 0 m' 0 (λ e. omega arith))
      (get_or-set_same s.words 1 m' 0 (omega arith)) kept
