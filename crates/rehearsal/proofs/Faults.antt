-- What the foremost of several faults says of each.
use Rattle.std.proofs.Common.{◌≡◌, ℕ, ◌+◌, ◌<◌, inl, inr, Bool, true, false, cond, Option, Some, None, List}
use Rattle.std.proofs.Common.{[], ◌∷◌, ◌++◌, map, Bor, refl, sym, ap, ◌∙◌, subst}
use Rattle.std.specs.Prelude.{◌⊎◌, nat_lt, fold, Contains}
use Rattle.std.proofs.lemmas.List.{map-append}
use Rattle.std.proofs.lemmas.List.Sums.{fold-append}
use Rattle.specification.proofs.Members.{In}
use Rattle.rehearsal.specs.Foremost.{rank, foremost_of, foremost_of_all}
use Rattle.rehearsal.specs.declared.fault.RehearsalFault.{RehearsalFault}

choose-none : (b : Bool) (x y : RehearsalFault) → cond b (Some x) (Some y) ≡ None → ⊥
choose-none true x y e = cc
choose-none false x y e = cc

choose-either : (b : Bool) (x y f : RehearsalFault) → cond b (Some x) (Some y) ≡ Some f
    → (Some x ≡ Some f) ⊎ (Some y ≡ Some f)
choose-either true x y f e = inl e
choose-either false x y f e = inr e

-- none is answered where neither is one
pub foremost-none : (a b : Option RehearsalFault) → foremost_of a b ≡ None → (a ≡ None) × (b ≡ None)
foremost-none None b e = (refl, e)
foremost-none (Some x) None e = absurd cc
foremost-none (Some x) (Some y) e = absurd (choose-none (nat_lt (rank x) (rank y)) y x e)

-- what is answered is one of the two
pub foremost-either : (a b : Option RehearsalFault) (f : RehearsalFault) → foremost_of a b ≡ Some f
    → (a ≡ Some f) ⊎ (b ≡ Some f)
foremost-either None b f e = inr e
foremost-either (Some x) None f e = inl e
foremost-either (Some x) (Some y) f e =
    elim (choose-either (nat_lt (rank x) (rank y)) y x f e) [ inl b ↦ inr b | inr a ↦ inl a ]

all-from : (first : Option RehearsalFault) (faults : List (Option RehearsalFault)) (f : RehearsalFault)
    → fold foremost_of first faults ≡ Some f
    → (first ≡ Some f) ⊎ In (Some f) faults
all-from first [] f e = inl e
all-from first (a ∷ faults) f e = elim (all-from (foremost_of first a) faults f e) [
  | inl one ↦ elim (foremost-either first a f one) [ inl b ↦ inl b | inr b ↦ inr (inl (sym b)) ]
  | inr later ↦ inr (inr later)
]

none-from : (first : Option RehearsalFault) (faults : List (Option RehearsalFault))
    → fold foremost_of first faults ≡ None
    → (first ≡ None) × ((a : Option RehearsalFault) → In a faults → a ≡ None)
none-from first [] e = (e, λ a i. absurd i)
none-from first (b ∷ faults) e =
    let rest = none-from (foremost_of first b) faults e in
    let both = foremost-none first b rest.0 in
    (both.0, λ a i. elim i [ inl here ↦ here ∙ both.1 | inr later ↦ rest.1 a later ])

-- what is answered of all is one of them
pub foremost-among : (faults : List (Option RehearsalFault)) (f : RehearsalFault)
    → foremost_of_all faults ≡ Some f → In (Some f) faults
foremost-among faults f e = elim (all-from None faults f e) [ inl none ↦ absurd cc | inr i ↦ i ]

-- none is answered where none of them is one
pub foremost-of-none : (faults : List (Option RehearsalFault)) → foremost_of_all faults ≡ None
    → (a : Option RehearsalFault) → In a faults → a ≡ None
foremost-of-none faults e = (none-from None faults e).1

-- one more
pub foremost-more : (faults : List (Option RehearsalFault)) (a : Option RehearsalFault)
    → foremost_of_all (faults ++ a ∷ []) ≡ foremost_of (foremost_of_all faults) a
foremost-more faults a = fold-append foremost_of None faults (a ∷ [])
