-- One spot more.
use Rattle.std.proofs.Common.{◌≡◌, ◌≢◌, ℕ, ◌<◌, List, [], ◌∷◌, ◌++◌, Vec, Global, length, get_or, set, map}
use Rattle.std.proofs.Common.{sym, ap, subst, ◌∙◌, get_or-set_same, get_or-set_other}
use Rattle.std.proofs.lemmas.List.{map-set, get_or-map, length-map}

abbrev pub items_of : {X : Type 0} → Vec X Global → List X
items_of v = v.items

-- a push at one place
pub pushed_here : {X : Type 0} (lists : List (Vec X Global)) (y : ℕ) (v w : Vec X Global) (q : X)
    → y < length lists → v ≡ get_or lists y v → w.items ≡ v.items ++ q ∷ []
    → get_or (map items_of (set lists y w)) y [] ≡ get_or (map items_of lists) y [] ++ q ∷ []
pushed_here {X} lists y v w q within is pushed =
    let place : y < length (map items_of lists) =
    subst (λ n. y < n) (sym (length-map lists items_of)) within in
    let here : get_or (map items_of lists) y [] ≡ v.items =
    get_or-map items_of lists y v [] within ∙ ap items_of (sym is) in
    ap (λ l. get_or l y []) (map-set items_of lists y w)
    ∙ get_or-set_same (map items_of lists) y w.items [] place ∙ pushed ∙ ap (λ l. l ++ q ∷ []) (sym here)

-- at the others nothing changes
pub pushed_other : {X : Type 0} (lists : List (Vec X Global)) (y : ℕ) (w : Vec X Global) (x : ℕ) → x ≢ y
    → get_or (map items_of (set lists y w)) x [] ≡ get_or (map items_of lists) x []
pushed_other {X} lists y w x other =
    ap (λ l. get_or l x []) (map-set items_of lists y w)
    ∙ get_or-set_other (map items_of lists) y x w.items [] other
