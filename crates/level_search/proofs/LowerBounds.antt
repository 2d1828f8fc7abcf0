-- Along a walk the levels rise by one at most with each step; so a cycle through level 0 is no shorter than the
-- way up to where it comes back from.
use Rattle.std.proofs.Common.{◌≡◌, ℕ, zero, suc, ◌+◌, ◌<◌, ◌≤◌, ◌⊎◌, inl, inr, List, slice_index, subst, arith}
use Rattle.std.proofs.lemmas.Bool.{cases_eq}
use Rattle.list_search.specs.Walks.{HasCycle, Walk}
use Rattle.level_search.specs.LowerBounds.{AreLowerBounds, IsEntered, level, rank, RisesByOne}
use Rattle.level_search.specs.declared.lower_bounds.levels.Levels.{Levels}

-- a lower entry holds too
pub entered-lower : (rows : List (List ℕ)) (g : Levels) (old new l : ℕ) → new ≤ old → IsEntered rows g old l
    → IsEntered rows g new l
entered-lower rows g old new l falls entered p q x y lt first second here =
    elim (entered p q x y lt first second here) [
      | inl both ↦ inl both
      | inr far ↦ inr (omega arith)
    ]

module _ (rows : List (List ℕ)) (g : Levels) (entry : ℕ) (rises : (l : ℕ) → RisesByOne rows g l)
    (entered : (l : ℕ) → IsEntered rows g entry l) where
  walk-level : (s n x : ℕ) → Walk rows s n x → level g x ≤ level g s + n
  walk-level s zero x same = subst (λ y. level g x ≤ level g y + 0) same (omega arith)
  walk-level s (suc n) x (c, walk, before) =
      let to = walk-level s n c walk in
      let on = rises before.list before.place before.later c x before.in_order before.first before.second in
      omega arith

  -- a walk from level 0 to level 0 is long, or the rank does not fall
  walk-rank : (s n x : ℕ) → level g s ≡ 0 → Walk rows s n x → level g x ≡ 0
      → (entry + 1 ≤ n) ⊎ (rank g s ≤ rank g x)
  walk-rank s zero x low same here = inr (subst (λ y. rank g y ≤ rank g x) same (omega arith))
  walk-rank s (suc n) x low (c, walk, before) here =
      elim (entered before.list before.place before.later c x before.in_order before.first before.second here) [
        | inl both ↦ elim (walk-rank s n c low walk both.0) [
          | inl long ↦ inl (omega arith)
          | inr up ↦ inr (let more = both.1 in omega arith)
        ]
        | inr far ↦ inl (let to = walk-level s n c walk in omega arith)
      ]

  pub cycle-long : (s n : ℕ) → level g s ≡ 0 → HasCycle rows s n → entry + 1 ≤ n
  cycle-long s zero low cycle = absurd (let one = cycle.0 in omega arith)
  cycle-long s (suc n) low (some, (c, walk, before)) =
      elim (entered before.list before.place before.later c s before.in_order before.first before.second low) [
        | inl both ↦ elim (walk-rank s n c low walk both.0) as (λ _. entry + 1 ≤ suc n) [
          | inl long ↦ omega arith
          | inr up ↦ absurd (let more = both.1 in omega arith)
        ]
        | inr far ↦ (let to = walk-level s n c walk in omega arith)
      ]

  -- so the bounds at level 0 hold
  pub bounds-hold : (bounds : List ℕ) (bound : ℕ) → bound ≤ entry + 1
      → ((x : ℕ) → slice_index bounds x ≤ bound)
      → ((x : ℕ) → 0 < level g x → slice_index bounds x ≡ 0) → AreLowerBounds rows bounds
  bounds-hold bounds bound most low others s n cycle = elim (cases_eq (level g s) 0) [
    | inl here ↦ (let long = cycle-long s n here cycle in let one = low s in omega arith)
    | inr above ↦ (let none = others s (omega arith) in omega arith)
  ]
