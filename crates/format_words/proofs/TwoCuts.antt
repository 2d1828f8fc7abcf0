-- Two ways to take an item out of a list.
use Rattle.std.proofs.Common.{◌≡◌, ◌<◌, List, [], ◌∷◌, ◌++◌, length, refl, sym, ap, ◌∙◌, arith}

-- the longer front has the item that stands after the shorter
pub inner : {X : Type 0} (xs ys : List X) (x y : X) (ms ns : List X) → xs ++ x ∷ ms ≡ ys ++ y ∷ ns
    → length xs < length ys → (between : List X) × (ys ≡ xs ++ x ∷ between)
inner xs [] x y ms ns is h = absurd (omega arith)
inner [] (z ∷ ys) x y ms ns is h = (ys, cc)
inner (w ∷ xs) (z ∷ ys) x y ms ns is h =
    let head : w ≡ z = cc in
    let tail : xs ++ x ∷ ms ≡ ys ++ y ∷ ns = cc in
    let p = inner xs ys x y ms ns tail (omega arith) in
    (p.0, ap (λ v. v ∷ ys) (sym head) ∙ ap (λ l. w ∷ l) p.1)

-- fronts of one length are the same
pub same-cut : {X : Type 0} (xs ys : List X) (x y : X) (ms ns : List X) → xs ++ x ∷ ms ≡ ys ++ y ∷ ns
    → length xs ≡ length ys → (xs ≡ ys) × (x ≡ y) × (ms ≡ ns)
same-cut [] [] x y ms ns is h = (refl, cc, cc)
same-cut [] (z ∷ ys) x y ms ns is h = absurd (omega arith)
same-cut (w ∷ xs) [] x y ms ns is h = absurd (omega arith)
same-cut (w ∷ xs) (z ∷ ys) x y ms ns is h =
    let head : w ≡ z = cc in
    let tail : xs ++ x ∷ ms ≡ ys ++ y ∷ ns = cc in
    let p = same-cut xs ys x y ms ns tail (omega arith) in
    (ap (λ v. v ∷ xs) head ∙ ap (λ l. z ∷ l) p.0, p.1, p.2)
