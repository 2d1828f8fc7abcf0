-- The spots of an element in two lists one after the other, how many they are, and one of them by its place.
use Rattle.std.proofs.Common.{◌≡◌, ℕ, suc, ◌+◌, ◌<◌, ◌≤◌, Bool, true, false, cond, eqb, Some, List, [], ◌∷◌}
use Rattle.std.proofs.Common.{◌++◌, length, take, drop, get_or, slice_get, refl, sym, ap, ◌∙◌, arith}
use Rattle.std.proofs.Common.{append_assoc, length-append, eq-eqb}
use Rattle.std.proofs.lemmas.List.{take_more, take-append-drop, length-take-le, append-nil}
use Rattle.events.proofs.Places.{slice_get-first, slice_get-last}
use Rattle.order_graph.specs.Lists.{row}
use Rattle.order_graph.specs.Spots.{spots_in, spots_from, spots_of}
use Rattle.order_graph.specs.declared.spot.Spot.{Spot}
use Rattle.order_graph.proofs.Adding.{in_push, one_more_list}

cond-append : (b : Bool) (a : Spot) (xs ys : List Spot) → cond b (a ∷ (xs ++ ys)) (xs ++ ys)
    ≡ cond b (a ∷ xs) xs ++ ys
cond-append true a xs ys = refl
cond-append false a xs ys = refl

pub in-append : (list p : ℕ) (xs ys : List ℕ) (x : ℕ) → spots_in list p (xs ++ ys) x
    ≡ spots_in list p xs x ++ spots_in list (p + length xs) ys x
in-append list p [] ys x = ap (λ n. spots_in list n ys x) (let e : p ≡ p + 0 = omega arith in e)
in-append list p (z ∷ xs) ys x =
    let first : Spot = record { list = list; place = p } in
    let rest : spots_in list (p + 1) (xs ++ ys) x ≡ spots_in list (p + 1) xs x
    ++ spots_in list (p + suc (length xs)) ys x =
    in-append list (p + 1) xs ys x ∙ ap (λ n. spots_in list (p + 1) xs x ++ spots_in list n ys x)
    (let e : p + 1 + length xs ≡ p + suc (length xs) = omega arith in e) in
    ap (λ (l : List Spot). cond (eqb z x) (first ∷ l) l) rest
    ∙ cond-append (eqb z x) first (spots_in list (p + 1) xs x) (spots_in list (p + suc (length xs)) ys x)

pub from-append : (n : ℕ) (rs ss : List (List ℕ)) (x : ℕ) → spots_from n (rs ++ ss) x
    ≡ spots_from n rs x ++ spots_from (n + length rs) ss x
from-append n [] ss x = ap (λ m. spots_from m ss x) (let e : n ≡ n + 0 = omega arith in e)
from-append n (r ∷ rs) ss x =
    ap (λ l. spots_in n 0 r x ++ l) (from-append (n + 1) rs ss x
    ∙ ap (λ m. spots_from (n + 1) rs x ++ spots_from m ss x)
    (let e : n + 1 + length rs ≡ n + suc (length rs) = omega arith in e))
    ∙ sym (append_assoc (spots_in n 0 r x) (spots_from (n + 1) rs x) (spots_from (n + suc (length rs)) ss x))

-- what stands behind the first list
get-behind : (xs ys : List Spot) (i : ℕ) → slice_get (xs ++ ys) (length xs + i) ≡ slice_get ys i
get-behind [] ys i = ap (slice_get ys) (let e : 0 + i ≡ i = omega arith in e)
get-behind (x ∷ xs) ys i =
    ap (slice_get (x ∷ (xs ++ ys))) (let e : suc (length xs) + i ≡ suc (length xs + i) = omega arith in e)
    ∙ get-behind xs ys i

-- one place more of a row
pub one-more_place : (list : ℕ) (r : List ℕ) (j x : ℕ) → j < length r
    → spots_in list 0 (take (j + 1) r) x ≡ spots_in list 0 (take j r) x
    ++ cond (eqb (get_or r j 0) x) ((record { list = list; place = j }) ∷ []) []
one-more_place list r j x low =
    ap (λ l. spots_in list 0 l x) (take_more r j 0 low) ∙ in_push list 0 (take j r) (get_or r j 0) x
    ∙ ap (λ n. spots_in list 0 (take j r) x ++ cond {A = List Spot} (eqb (get_or r j 0) x)
    ((record { list = list; place = n }) ∷ []) [])
    (let e : 0 + length (take j r) ≡ j = omega (arith, length-take-le j r, low) in e)

-- how many spots there are with one place more
pub count-more : (list : ℕ) (row : List ℕ) (j x : ℕ) → j < length row → get_or row j 0 ≡ x
    → length (spots_in list 0 (take (j + 1) row) x) ≡ length (spots_in list 0 (take j row) x) + 1
count-more list row j x low here =
    let spot : Spot = record { list = list; place = j } in
    let more : spots_in list 0 (take (j + 1) row) x ≡ spots_in list 0 (take j row) x ++ spot ∷ [] =
    one-more_place list row j x low
    ∙ ap (λ b. spots_in list 0 (take j row) x ++ cond {A = List Spot} b (spot ∷ []) [])
    (eq-eqb (get_or row j 0) x here) in
    ap (λ (l : List Spot). length l) more ∙ length-append (spots_in list 0 (take j row) x) (spot ∷ [])

pub count-same : (list : ℕ) (row : List ℕ) (j x : ℕ) → j < length row → eqb (get_or row j 0) x ≡ false
    → length (spots_in list 0 (take (j + 1) row) x) ≡ length (spots_in list 0 (take j row) x)
count-same list row j x low other =
    let spot : Spot = record { list = list; place = j } in
    let more : spots_in list 0 (take (j + 1) row) x ≡ spots_in list 0 (take j row) x ++ [] =
    one-more_place list row j x low
    ∙ ap (λ b. spots_in list 0 (take j row) x ++ cond {A = List Spot} b (spot ∷ []) []) other in
    ap (λ (l : List Spot). length l) (more ∙ append-nil (spots_in list 0 (take j row) x))

-- x stands at place j of the row: its spot has as many before it as stand before that place
pub spot-there : (list : ℕ) (r : List ℕ) (j x : ℕ) → j < length r → get_or r j 0 ≡ x
    → slice_get (spots_in list 0 r x) (length (spots_in list 0 (take j r) x))
    ≡ Some (record { list = list; place = j })
spot-there list r j x low here =
    let spot : Spot = record { list = list; place = j } in
    let before : List Spot = spots_in list 0 (take j r) x in
    let more : spots_in list 0 (take (j + 1) r) x ≡ before ++ spot ∷ [] =
    one-more_place list r j x low
    ∙ ap (λ b. before ++ cond {A = List Spot} b (spot ∷ []) []) (eq-eqb (get_or r j 0) x here) in
    let whole : spots_in list 0 r x ≡ (before ++ spot ∷ []) ++ spots_in list (0 + length (take (j + 1) r))
    (drop (j + 1) r) x =
    ap (λ l. spots_in list 0 l x) (sym (take-append-drop (j + 1) r))
    ∙ in-append list 0 (take (j + 1) r) (drop (j + 1) r) x
    ∙ ap (λ l. l ++ spots_in list (0 + length (take (j + 1) r)) (drop (j + 1) r) x) more in
    ap (λ l. slice_get l (length before)) whole
    ∙ slice_get-first (before ++ spot ∷ []) (spots_in list (0 + length (take (j + 1) r)) (drop (j + 1) r) x)
    (length before) spot (slice_get-last before spot)

-- a spot of one list is one of all lists, behind those of the lists before
pub spot-of_list : (rows : List (List ℕ)) (l x left : ℕ) (spot : Spot) → l < length rows
    → slice_get (spots_in l 0 (row rows l) x) left ≡ Some spot
    → slice_get (spots_of rows x) (length (spots_from 0 (take l rows) x) + left) ≡ Some spot
spot-of_list rows l x left spot within got =
    let before : List Spot = spots_from 0 (take l rows) x in
    let here : List Spot = spots_in l 0 (row rows l) x in
    let rest : List Spot = spots_from (0 + length (take (l + 1) rows)) (drop (l + 1) rows) x in
    let whole : spots_of rows x ≡ (before ++ here) ++ rest =
    ap (λ rs. spots_from 0 rs x) (sym (take-append-drop (l + 1) rows))
    ∙ from-append 0 (take (l + 1) rows) (drop (l + 1) rows) x
    ∙ ap (λ s. s ++ rest) (sym (one_more_list rows l x within)) in
    ap (λ s. slice_get s (length before + left)) whole
    ∙ slice_get-first (before ++ here) rest (length before + left) spot (get-behind before here left ∙ got)

-- the first lists have no more spots than all
pub front-few : (rows : List (List ℕ)) (n x : ℕ)
    → length (spots_from 0 (take n rows) x) ≤ length (spots_of rows x)
front-few rows n x =
    let front : List Spot = spots_from 0 (take n rows) x in
    let rest : List Spot = spots_from (0 + length (take n rows)) (drop n rows) x in
    let whole : spots_of rows x ≡ front ++ rest =
    ap (λ rs. spots_from 0 rs x) (sym (take-append-drop n rows))
    ∙ from-append 0 (take n rows) (drop n rows) x in
    omega (arith, ap (λ (l : List Spot). length l) whole, length-append front rest)
