-- Spots of one more place, and of one more list.
use Rattle.std.proofs.Common.{◌≡◌, ◌≢◌, ℕ, suc, ◌+◌, ◌<◌, ◌≤◌, Bool, true, false, cond, eqb, List, [], ◌∷◌}
use Rattle.std.proofs.Common.{◌++◌, length, get_or, set, map, take, slice_get, sum_by, Vec, Global, refl, sym}
use Rattle.std.proofs.Common.{ap, ◌∙◌, subst, arith, inl, inr, add-zero, append_assoc, get_or-set_same}
use Rattle.std.proofs.Common.{get_or-set_other, length-append}
use Rattle.std.specs.Prelude.{All}
use Rattle.std.proofs.lemmas.Bool.Decides.{eqb_tells}
use Rattle.std.proofs.lemmas.List.{map-set, get_or-map, append-nil, length-map, take_more, length-take-le}
use Rattle.std.proofs.lemmas.List.Sums.{sum_by-cons}
use Rattle.order_graph.specs.Lists.{row, Stands}
use Rattle.order_graph.specs.Spots.{spots_in, spots_from, spots_of}
use Rattle.order_graph.specs.declared.spot.Spot.{Spot}
use Rattle.order_graph.proofs.AllSpots.{spots_sound}

abbrev pub items_of : {X : Type 0} → Vec X Global → List X
items_of v = v.items

cond_append : (b : Bool) (a : Spot) (xs ys : List Spot) → cond b (a ∷ (xs ++ ys)) (xs ++ ys)
    ≡ cond b (a ∷ xs) xs ++ ys
cond_append true a xs ys = refl
cond_append false a xs ys = refl

pub in_push : (list p : ℕ) (xs : List ℕ) (y x : ℕ)
    → spots_in list p (xs ++ y ∷ []) x ≡ spots_in list p xs x
    ++ cond (eqb y x) ((record { list = list; place = p + length xs }) ∷ []) []
in_push list p [] y x =
    ap (λ n. cond {A = List Spot} (eqb y x) ((record { list = list; place = n }) ∷ []) []) (sym (add-zero p))
in_push list p (z ∷ zs) y x =
    let last : ℕ → List Spot =
    λ n. cond {A = List Spot} (eqb y x) ((record { list = list; place = n }) ∷ []) [] in
    let rest : spots_in list (p + 1) (zs ++ y ∷ []) x ≡ spots_in list (p + 1) zs x
    ++ last (p + suc (length zs)) =
    in_push list (p + 1) zs y x ∙ ap (λ n. spots_in list (p + 1) zs x ++ last n)
    (let e : p + 1 + length zs ≡ p + suc (length zs) = omega arith in e) in
    ap (λ (l : List Spot). cond {A = List Spot} (eqb z x) ((record { list = list; place = p }) ∷ l) l) rest
    ∙ cond_append (eqb z x) (record { list = list; place = p }) (spots_in list (p + 1) zs x)
    (last (p + suc (length zs)))

pub from_push : (n : ℕ) (rs : List (List ℕ)) (r : List ℕ) (x : ℕ)
    → spots_from n (rs ++ r ∷ []) x ≡ spots_from n rs x ++ spots_in (n + length rs) 0 r x
from_push n [] r x = append-nil (spots_in n 0 r x) ∙ ap (λ m. spots_in m 0 r x) (sym (add-zero n))
from_push n (q ∷ qs) r x =
    ap (λ l. spots_in n 0 q x ++ l) (from_push (n + 1) qs r x
    ∙ ap (λ m. spots_from (n + 1) qs x ++ spots_in m 0 r x) (let e : n + 1 + length qs ≡ n + suc (length qs) =
    omega arith in e))
    ∙ sym (append_assoc (spots_in n 0 q x) (spots_from (n + 1) qs x) (spots_in (n + suc (length qs)) 0 r x))

-- a push at one place
pub pushed_at : {X : Type 0} (lists : List (Vec X Global)) (y : ℕ) (v w : Vec X Global) (q : X)
    → y < length lists → v ≡ get_or lists y v
    → w.items ≡ v.items ++ q ∷ [] → (x : ℕ) → x < length lists
    → get_or (map items_of (set lists y w)) x [] ≡ get_or (map items_of lists) x []
    ++ cond (eqb y x) (q ∷ []) []
pushed_at {X} lists y v w q within is pushed x inside =
    let both : get_or (map items_of (set lists y w)) x [] ≡ get_or (set (map items_of lists) y w.items) x [] =
    ap (λ l. get_or l x []) (map-set items_of lists y w) in
    elim (eqb_tells y x) [
      | inl h ↦
          let place : y < length (map items_of lists) =
          subst (λ n. y < n) (sym (length-map lists items_of)) within in
          let here : get_or (map items_of lists) y [] ≡ v.items =
          get_or-map items_of lists y v [] within ∙ ap items_of (sym is) in
          both ∙ ap (λ i. get_or (set (map items_of lists) y w.items) i []) (sym h.1)
          ∙ get_or-set_same (map items_of lists) y w.items [] place ∙ pushed
          ∙ ap (λ l. l ++ q ∷ []) (sym here) ∙ ap (λ i. get_or (map items_of lists) i [] ++ q ∷ []) h.1
          ∙ ap (λ (b : Bool). get_or (map items_of lists) x [] ++ cond {A = List X} b (q ∷ []) []) (sym h.0)
      | inr h ↦
          let other : x ≢ y = λ e. h.1 (sym e) in
          both ∙ get_or-set_other (map items_of lists) y x w.items [] other
          ∙ sym (append-nil (get_or (map items_of lists) x []))
          ∙ ap (λ (b : Bool). get_or (map items_of lists) x [] ++ cond {A = List X} b (q ∷ []) []) (sym h.0)
    ]

-- how many spots there are
cond_length : (b : Bool) (a : Spot) (xs : List Spot) → length (cond b (a ∷ xs) xs) ≤ length xs + 1
cond_length true a xs = omega arith
cond_length false a xs = omega arith

pub length_in : (list p : ℕ) (r : List ℕ) (x : ℕ) → length (spots_in list p r x) ≤ length r
length_in list p [] x = omega arith
length_in list p (y ∷ ys) x =
    let rest = length_in list (p + 1) ys x in
    let one = cond_length (eqb y x) (record { list = list; place = p }) (spots_in list (p + 1) ys x) in
    omega arith

pub length_from : (n : ℕ) (rows : List (List ℕ)) (x : ℕ)
    → length (spots_from n rows x) ≤ sum_by (λ r. length r) rows
length_from n [] x = omega arith
length_from n (r ∷ rs) x =
    let rest = length_from (n + 1) rs x in
    let one = length_in n 0 r x in
    let whole : length (spots_in n 0 r x ++ spots_from (n + 1) rs x)
    ≡ length (spots_in n 0 r x) + length (spots_from (n + 1) rs x) =
    length-append (spots_in n 0 r x) (spots_from (n + 1) rs x) in
    let total : sum_by (λ (l : List ℕ). length l) (r ∷ rs) ≡ length r + sum_by (λ (l : List ℕ). length l) rs =
    sum_by-cons (λ (l : List ℕ). length l) r rs in
    omega arith

-- what is no element has none
pub no_spots_past : (rows : List (List ℕ)) (elements x : ℕ) → ((l : ℕ) → All (λ x. x < elements) (row rows l))
    → elements ≤ x → spots_of rows x ≡ []
no_spots_past rows elements x known past = go (spots_of rows x) refl
  where
    go : (spots : List Spot) → spots_of rows x ≡ spots → spots_of rows x ≡ []
    go [] e = e
    go (q ∷ qs) e =
        let stands : Stands rows q.list q.place x = spots_sound rows x 0 q (ap (λ l. slice_get l 0) e) in
        let below = known q.list q.place 0 stands.within in
        absurd (let here = stands.here in omega arith)

-- one list more
pub one_more_list : (rows : List (List ℕ)) (l x : ℕ) → l < length rows
    → spots_from 0 (take l rows) x ++ spots_in l 0 (row rows l) x ≡ spots_from 0 (take (l + 1) rows) x
one_more_list rows l x within =
    let front : l ≡ 0 + length (take l rows) = omega (arith, length-take-le l rows) in
    ap (λ n. spots_from 0 (take l rows) x ++ spots_in n 0 (row rows l) x) front
    ∙ sym (from_push 0 (take l rows) (row rows l) x)
    ∙ ap (λ rs. spots_from 0 rs x) (sym (take_more rows l [] within))
