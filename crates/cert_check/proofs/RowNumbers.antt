-- The numbers of the elements that have a depth: one more, and all taken back.
use Rattle.std.proofs.Common.{◌≡◌, ℕ, ◌+◌, ◌<◌, ◌≤◌, ◌⊎◌, inl, inr, List, [], ◌∷◌, ◌++◌, length, set, get_or}
use Rattle.std.proofs.Common.{sym, ◌∙◌, ap, subst, arith, get_or-set_same, get_or-set_other}
use Rattle.std.specs.Prelude.{◌↔◌, All, Contains, slice_index}
use Rattle.std.proofs.lemmas.Bool.{cases_lt}
use Rattle.std.proofs.lemmas.List.{length-set, get_or_default}
use Rattle.std.proofs.lemmas.List.Elements.{All-get_or, Contains-append_left, Contains-push}
use Rattle.std.proofs.lemmas.List.Elements.{Contains-push_cases}
use native.Mathlib.Decide.{ℕ_discrete}
use Rattle.events.specs.Names.{NameBytes}
use Rattle.bit_tables.specs.Rule.{HaveDepths}
use Rattle.cert_check.specs.Noted.{Holds}
use Rattle.cert_check.specs.RowDepths.{IsUnset, IsWritten}
use Rattle.cert_check.specs.declared.row_depths.RowDepths.{RowDepths}
use Rattle.cert_check.proofs.NotedNames.{hold_none}

-- at first no name is noted, and no number
pub hold-fresh : (names : List NameBytes) (unset : ℕ) (row : RowDepths) → IsUnset (length names) unset row
    → Holds names unset [] row.depths.items
hold-fresh names unset row is = hold_none names unset row.depths.items is.size (λ i lt. is.depths i 0 lt)

pub none-noted : (count unset : ℕ) (row : RowDepths) → IsUnset count unset row
    → HaveDepths row.depths.items unset row.noted.items
none-noted count unset row is x =
    subst (λ (l : List ℕ). Contains l x
    ↔ ((x < length row.depths.items) × (slice_index row.depths.items x < unset))) (sym is.noted) (
      λ c. absurd (let none = c.1 in omega arith),
      λ p. absurd (let e : slice_index row.depths.items x ≡ unset = is.depths x 0 p.0 in let lt = p.1 in
          omega arith),
    )

-- one depth more
pub depths-more : (depths noted after : List ℕ) (unset n value : ℕ) → value < unset
    → IsWritten depths unset n value after → HaveDepths depths unset noted
    → HaveDepths after unset (noted ++ n ∷ [])
depths-more depths noted after unset n value below new has x =
    subst (λ (l : List ℕ). Contains (noted ++ n ∷ []) x ↔ ((x < length l) × (slice_index l x < unset)))
    (sym new.written) (go (ℕ_discrete x n))
  where
    long : length (set depths n value) ≡ length depths
    long = length-set depths n value

    go : Dec (x ≡ n) → Contains (noted ++ n ∷ []) x
        ↔ ((x < length (set depths n value)) × (slice_index (set depths n value) x < unset))
    go (yes e) =
        let here : slice_index (set depths n value) x ≡ value =
        ap (slice_index (set depths n value)) e ∙ get_or-set_same depths n value 0 new.within in (
          λ c. (omega (arith, e, long, new.within), omega (arith, here, below)),
          λ p. subst (λ m. Contains (noted ++ n ∷ []) m) (sym e) (Contains-push noted n),
        )
    go (no other) =
        let same : slice_index (set depths n value) x ≡ slice_index depths x =
        get_or-set_other depths n x value 0 other in (
          λ c. elim (Contains-push_cases noted n x c) [
            | inl old ↦ let p = (has x).0 old in (omega (arith, long, p.0), omega (arith, same, p.1))
            | inr e ↦ absurd (other (sym e))
          ],
          λ p. Contains-append_left noted (n ∷ []) x ((has x).1 (
            (let lt = p.0 in omega (arith, long, lt)),
            (let lt = p.1 in omega (arith, same, lt)),
          )),
        )

-- from the place i on the list has x
abbrev pub IsAmongLast : ℕ → List ℕ → ℕ → Type 0
IsAmongLast i numbers x = (k : ℕ) × (i ≤ k) × (k < length numbers) × (get_or numbers k x ≡ x)

-- each depth is unset, or is yet to be taken back
abbrev pub AreLeft : ℕ → List ℕ → ℕ → List ℕ → Type 0
AreLeft i noted unset depths =
    (x : ℕ) → x < length depths → (slice_index depths x ≡ unset) ⊎ IsAmongLast i noted x

pub left-first : (depths noted : List ℕ) (unset : ℕ) → HaveDepths depths unset noted
    → All (λ d. d ≤ unset) depths → AreLeft 0 noted unset depths
left-first depths noted unset has most x within = elim (cases_lt (slice_index depths x) unset) [
  | inl low ↦ let c = (has x).1 (within, low) in inr (c.0, omega arith, c.1, c.2)
  | inr high ↦
      inl (let le : slice_index depths x ≤ unset = All-get_or (λ d. d ≤ unset) depths x 0 within most in
      omega arith)
]

pub left-next : (depths noted : List ℕ) (unset i : ℕ) → i < length noted → get_or noted i 0 < length depths
    → AreLeft i noted unset depths → AreLeft (i + 1) noted unset (set depths (get_or noted i 0) unset)
left-next depths noted unset i inside within left x low =
    go (ℕ_discrete x n) (left x (omega (arith, low, length-set depths n unset)))
  where
    n : ℕ
    n = get_or noted i 0

    go : Dec (x ≡ n) → (slice_index depths x ≡ unset) ⊎ IsAmongLast i noted x
        → (slice_index (set depths n unset) x ≡ unset) ⊎ IsAmongLast (i + 1) noted x
    go (yes e) s = inl (ap (slice_index (set depths n unset)) e ∙ get_or-set_same depths n unset 0 within)
    go (no other) (inl was) = inl (get_or-set_other depths n x unset 0 other ∙ was)
    go (no other) (inr p) = elim (ℕ_discrete p.0 i) [
      | yes first ↦
          let at : get_or noted i x ≡ x = ap (λ k. get_or noted k x) (sym first) ∙ p.3 in
          absurd (other (sym at ∙ get_or_default noted i x 0 inside))
      | no later ↦ inr (p.0, (let le = p.1 in omega arith), p.2, p.3)
    ]

pub left-none : (depths noted : List ℕ) (unset i : ℕ) → length noted ≤ i → AreLeft i noted unset depths
    → All (λ d. d ≡ unset) depths
left-none depths noted unset i all left x d within =
    get_or_default depths x d 0 within ∙ elim (left x within) [
      | inl is ↦ is
      | inr p ↦ absurd (let le = p.1 in let lt = p.2 in omega arith)
    ]
