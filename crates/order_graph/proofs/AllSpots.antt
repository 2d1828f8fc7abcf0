-- The spots of an element are the places where it stands.
use Rattle.std.proofs.Common.{◌≡◌, ℕ, zero, suc, ◌+◌, ◌<◌, ◌⊎◌, Bool, true, false, cond, eqb, Some, List, []}
use Rattle.std.proofs.Common.{◌∷◌, ◌++◌, length, get_or, slice_get, refl, sym, ap, subst, arith, inl, inr}
use Rattle.std.proofs.Common.{eq-eqb}
use Rattle.std.proofs.lemmas.Bool.{eqb-true}
use Rattle.std.proofs.lemmas.Option.{same_Some, none-some}
use Rattle.order_graph.specs.Lists.{Stands}
use Rattle.order_graph.specs.Spots.{spots_in, spots_from, spots_of}
use Rattle.order_graph.specs.declared.spot.Spot.{Spot}

-- one of these spots is this place of this list
pub record IsAmong (spots : List Spot) (list place : ℕ) : Type 0 where
  pub at : ℕ
  pub spot : Spot
  pub get : slice_get spots at ≡ Some spot
  pub list_is : spot.list ≡ list
  pub place_is : spot.place ≡ place

among_there : (b : Bool) (first : Spot) (rest : List Spot) (list place : ℕ) → IsAmong rest list place
    → IsAmong (cond b (first ∷ rest) rest) list place
among_there true first rest list place h =
    record { at = suc h.at; spot = h.spot; get = h.get; list_is = h.list_is; place_is = h.place_is }
among_there false first rest list place h = h

among_here : (b : Bool) (first : Spot) (rest : List Spot) → b ≡ true
    → IsAmong (cond b (first ∷ rest) rest) first.list first.place
among_here true first rest e = record { at = zero; spot = first; get = refl; list_is = refl; place_is = refl }
among_here false first rest e = absurd (cc)

get_left : (xs ys : List Spot) (i : ℕ) (q : Spot) → slice_get xs i ≡ Some q → slice_get (xs ++ ys) i ≡ Some q
get_left [] ys i q e = absurd (none-some q e)
get_left (x ∷ xs) ys zero q e = e
get_left (x ∷ xs) ys (suc i) q e = get_left xs ys i q e

among_left : (xs ys : List Spot) (list place : ℕ) → IsAmong xs list place → IsAmong (xs ++ ys) list place
among_left xs ys list place h =
    record {
      at = h.at;
      spot = h.spot;
      get = get_left xs ys h.at h.spot h.get;
      list_is = h.list_is;
      place_is = h.place_is;
    }

among_right : (xs ys : List Spot) (list place : ℕ) → IsAmong ys list place → IsAmong (xs ++ ys) list place
among_right [] ys list place h = h
among_right (x ∷ xs) ys list place h =
    let rest = among_right xs ys list place h in
    record {
      at = suc rest.at;
      spot = rest.spot;
      get = rest.get;
      list_is = rest.list_is;
      place_is = rest.place_is;
    }

pub in_complete : (list place : ℕ) (r : List ℕ) (x j : ℕ) → j < length r → get_or r j 0 ≡ x
    → IsAmong (spots_in list place r x) list (place + j)
in_complete list place [] x j inside here = absurd (omega arith)
in_complete list place (y ∷ ys) x zero inside here =
    subst (λ n. IsAmong (spots_in list place (y ∷ ys) x) list n) (omega arith)
    (among_here (eqb y x) (record { list = list; place = place }) (spots_in list (place + 1) ys x)
    (eq-eqb y x here))
in_complete list place (y ∷ ys) x (suc j) inside here =
    subst (λ n. IsAmong (spots_in list place (y ∷ ys) x) list n) (omega arith)
    (among_there (eqb y x) (record { list = list; place = place }) (spots_in list (place + 1) ys x) list
    (place + 1 + j)
    (in_complete list (place + 1) ys x j (omega arith) here))

pub from_complete : (n : ℕ) (rows : List (List ℕ)) (x l p : ℕ) → Stands rows l p x
    → IsAmong (spots_from n rows x) (n + l) p
from_complete n [] x l p h = absurd (let inside : p < 0 = h.within in omega arith)
from_complete n (r ∷ rs) x zero p h =
    subst (λ m. IsAmong (spots_from n (r ∷ rs) x) m p) (omega arith)
    (among_left (spots_in n 0 r x) (spots_from (n + 1) rs x) n p
    (subst (λ m. IsAmong (spots_in n 0 r x) n m) (omega arith) (in_complete n 0 r x p h.within h.here)))
from_complete n (r ∷ rs) x (suc l) p h =
    subst (λ m. IsAmong (spots_from n (r ∷ rs) x) m p) (omega arith)
    (among_right (spots_in n 0 r x) (spots_from (n + 1) rs x) (n + 1 + l) p
    (from_complete (n + 1) rs x l p (record { within = h.within; here = h.here })))

pub spots_complete : (rows : List (List ℕ)) (x l p : ℕ) → Stands rows l p x → IsAmong (spots_of rows x) l p
spots_complete rows x l p h =
    subst (λ m. IsAmong (spots_of rows x) m p) (omega arith) (from_complete 0 rows x l p h)

-- what stands at a place of a list of spots that begins with a test
get_if : (b : Bool) (first q : Spot) (rest : List Spot) (i : ℕ)
    → slice_get (cond b (first ∷ rest) rest) i ≡ Some q
    → ((b ≡ true) × (first ≡ q)) ⊎ ((j : ℕ) × (slice_get rest j ≡ Some q))
get_if true first q rest zero e = inl (refl, same_Some first q e)
get_if true first q rest (suc i) e = inr (i, e)
get_if false first q rest i e = inr (i, e)

pub get_either : (xs ys : List Spot) (i : ℕ) (q : Spot) → slice_get (xs ++ ys) i ≡ Some q
    → (slice_get xs i ≡ Some q) ⊎ ((j : ℕ) × (slice_get ys j ≡ Some q))
get_either [] ys i q e = inr (i, e)
get_either (x ∷ xs) ys zero q e = inl e
get_either (x ∷ xs) ys (suc i) q e = get_either xs ys i q e

-- a spot that is place `at` of this list
pub record IsIn (list place : ℕ) (r : List ℕ) (x : ℕ) (q : Spot) : Type 0 where
  pub at : ℕ
  pub within : at < length r
  pub here : get_or r at 0 ≡ x
  pub list_is : q.list ≡ list
  pub place_is : q.place ≡ place + at

pub in_sound : (list place : ℕ) (r : List ℕ) (x i : ℕ) (q : Spot)
    → slice_get (spots_in list place r x) i ≡ Some q → IsIn list place r x q
in_sound list place [] x i q e = absurd (none-some q e)
in_sound list place (y ∷ ys) x i q e =
    elim (get_if (eqb y x) (record { list = list; place = place }) q (spots_in list (place + 1) ys x) i e) [
      | inl h ↦ record {
        at = 0;
        within = omega arith;
        here = eqb-true y x h.0;
        list_is = ap (λ (z : Spot). z.list) (sym h.1);
        place_is = let same : q.place ≡ place = ap (λ (z : Spot). z.place) (sym h.1) in omega arith;
      }
      | inr h ↦
          let rest = in_sound list (place + 1) ys x h.0 q h.1 in
          record {
            at = suc rest.at;
            within = let w = rest.within in omega arith;
            here = rest.here;
            list_is = rest.list_is;
            place_is = let w = rest.place_is in omega arith;
          }
    ]

pub record IsFrom (n : ℕ) (rows : List (List ℕ)) (x : ℕ) (q : Spot) : Type 0 where
  pub at : ℕ
  pub list_is : q.list ≡ n + at
  pub stands : Stands rows at q.place x

pub from_sound : (n : ℕ) (rows : List (List ℕ)) (x i : ℕ) (q : Spot)
    → slice_get (spots_from n rows x) i ≡ Some q → IsFrom n rows x q
from_sound n [] x i q e = absurd (none-some q e)
from_sound n (r ∷ rs) x i q e =
    elim (get_either (spots_in n 0 r x) (spots_from (n + 1) rs x) i q e) [
      | inl h ↦
          let here = in_sound n 0 r x i q h in
          let place : q.place ≡ here.at = let w = here.place_is in omega arith in
          record {
            at = 0;
            list_is = let w = here.list_is in omega arith;
            stands = record {
              within = subst (λ p. p < length r) (sym place) here.within;
              here = subst (λ p. get_or r p 0 ≡ x) (sym place) here.here;
            };
          }
      | inr h ↦
          let rest = from_sound (n + 1) rs x h.0 q h.1 in
          record {
            at = suc rest.at;
            list_is = let w = rest.list_is in omega arith;
            stands = record { within = rest.stands.within; here = rest.stands.here };
          }
    ]

pub spots_sound : (rows : List (List ℕ)) (x i : ℕ) (q : Spot) → slice_get (spots_of rows x) i ≡ Some q
    → Stands rows q.list q.place x
spots_sound rows x i q e =
    let from = from_sound 0 rows x i q e in
    let list : q.list ≡ from.at = let w = from.list_is in omega arith in
    subst (λ l. Stands rows l q.place x) (sym list) from.stands
