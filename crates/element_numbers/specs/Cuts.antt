-- Rows that are kept one after the other in one list, with the place where each ends.
use Rattle.std.specs.Prelude.{◌≡◌, ℕ, zero, suc, slice_index, ◌-◌, ◌≤◌, List, [], ◌∷◌, length, take, drop}
use Rattle.element_numbers.specs.declared.rows.Rows.{Rows}

-- a list cut at these ends, the first row of which begins at `from`
abbrev pub cut : {X : Type 0} → ℕ → List ℕ → List X → List (List X)
cut from [] xs = []
cut from (e ∷ es) xs = take (e - from) xs ∷ cut e es (drop (e - from) xs)

-- the ends do not fall, and the last is the end of the list
abbrev pub AreEnds : {X : Type 0} → ℕ → List ℕ → List X → Type 0
AreEnds from [] xs = length xs ≡ 0
AreEnds from (e ∷ es) xs = (from ≤ e) × (e - from ≤ length xs) × AreEnds e es (drop (e - from) xs)

-- where row l begins: where the one before it ends
abbrev pub begin_of : ℕ → List ℕ → ℕ → ℕ
begin_of from ends zero = from
begin_of from ends (suc l) = slice_index ends l

abbrev pub rows_of : {X : Type 0} → Rows X → List (List X)
rows_of t = cut 0 t.ends.items t.items.items

abbrev pub IsCut : {X : Type 0} → Rows X → Type 0
IsCut t = AreEnds 0 t.ends.items t.items.items
