-- A list copied place by place, and mapped.
use Rattle.std.proofs.Common.{◌≡◌, ℕ, ◌+◌, ◌<◌, Some, None, List, [], ◌∷◌, ◌++◌, map, take, get_or, length}
use Rattle.std.proofs.Common.{sym, ◌∙◌, ap, arith}
use Rattle.std.specs.Prelude.{slice_get}
use Rattle.std.proofs.lemmas.List.{take_more, map-append}
use Rattle.std.proofs.lemmas.Option.{slice_get_within, slice_get-get_or, get_or_from_slice_get}

pub copied_more : {X : Type 0} (xs ys zs : List X) (i : ℕ) (x : X) → slice_get xs i ≡ Some x → ys ≡ take i xs
    → zs ≡ ys ++ x ∷ [] → zs ≡ take (i + 1) xs
copied_more xs ys zs i x at so_far more =
    more ∙ ap (λ l. l ++ x ∷ []) so_far
    ∙ ap (λ y. take i xs ++ y ∷ []) (sym (get_or_from_slice_get xs i x x at))
    ∙ sym (take_more xs i x (slice_get_within xs i x at))

pub mapped_more : {X Y : Type 0} (f : X → Y) (xs : List X) (ys zs : List Y) (i : ℕ) (d : X) (y : Y)
    → i < length xs → f (get_or xs i d) ≡ y → ys ≡ map f (take i xs)
    → zs ≡ ys ++ y ∷ [] → zs ≡ map f (take (i + 1) xs)
mapped_more f xs ys zs i d y lt is so_far more =
    more ∙ ap (λ l. l ++ y ∷ []) so_far ∙ ap (λ z. map f (take i xs) ++ z ∷ []) (sym is)
    ∙ sym (ap (map f) (take_more xs i d lt) ∙ map-append f (take i xs) (get_or xs i d ∷ []))

pub some_within : {X : Type 0} (xs : List X) (i : ℕ) → i < length xs → slice_get xs i ≡ None → ⊥
some_within [] i lt none = let n : i < 0 = lt in absurd (omega arith)
some_within (x ∷ xs) i lt none = let some = slice_get-get_or (x ∷ xs) i x lt in absurd Prim.cc
