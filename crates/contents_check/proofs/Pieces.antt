-- What is made of each number of a range.
use Rattle.std.proofs.Common.{◌≡◌, ℕ, zero, suc, ◌+◌, ◌<◌, List, [], ◌∷◌, length, refl, ap, subst, arith}
use Rattle.std.specs.Prelude.{slice_index_or}
use Rattle.std.specs.List.{AllZip, range_with_len}

-- what holds of each number of a range and what is made of it, place by place, holds at each place
pub zip-at : {Y : Type 0} (R : ℕ → Y → Type 0) (first count : ℕ) (ys : List Y)
    → AllZip R (range_with_len first count) ys
    → (n : ℕ) (d : Y) → n < length ys → R (first + n) (slice_index_or ys n d)
zip-at R first zero [] h n d within = absurd (omega (arith, within))
zip-at R first zero (y ∷ ys) h n d within = absurd h
zip-at R first (suc count) [] h n d within = absurd h
zip-at R first (suc count) (y ∷ ys) h zero d within = subst (λ m. R m y) (omega arith) h.0
zip-at R first (suc count) (y ∷ ys) h (suc n) d within =
    subst (λ m. R m (slice_index_or ys n d)) (omega arith)
    (zip-at R (first + 1) count ys h.1 n d (omega (arith, within)))

-- and as many things are made as there are numbers
pub zip-count : {Y : Type 0} (R : ℕ → Y → Type 0) (first count : ℕ) (ys : List Y)
    → AllZip R (range_with_len first count) ys → length ys ≡ count
zip-count R first zero [] h = refl
zip-count R first zero (y ∷ ys) h = absurd h
zip-count R first (suc count) [] h = absurd h
zip-count R first (suc count) (y ∷ ys) h = ap suc (zip-count R (first + 1) count ys h.1)
