-- One name more is noted, or cannot be.
use Rattle.std.proofs.Common.{◌≡◌, ◌≢◌, ℕ, zero, suc, ◌+◌, ◌<◌, inl, inr, Some, None, List, [], ◌∷◌, ◌++◌}
use Rattle.std.proofs.Common.{map, length, set, refl, sym, ◌∙◌, ap, subst, arith, get_or-set_same}
use Rattle.std.proofs.Common.{get_or-set_other, add-zero}
use Rattle.std.specs.Prelude.{slice_get, slice_index, replicate}
use Rattle.std.proofs.lemmas.List.{length-set, map-append}
use Rattle.std.proofs.lemmas.Option.{slice_get_within}
use native.Mathlib.Decide.{ℕ_discrete}
use Rattle.events.specs.Names.{NameBytes}
use Rattle.specification.specs.Elements.{number_in}
use Rattle.specification.proofs.Members.{In, Once, In-append_left, In-append_right, In-from_place, In-map}
use Rattle.specification.proofs.Members.{Once-middle}
use Rattle.element_numbers.proofs.NameNumbers.{number-at, number-some, Once-front}
use Rattle.cert_check.proofs.ValueTests.{In-push}
use Rattle.cert_check.specs.Noted.{Noted, Holds, CanBeNoted, placed_from}

pub one_place : (names : List NameBytes) (a : NameBytes) (i j : ℕ) → Once names → slice_get names i ≡ Some a
    → slice_get names j ≡ Some a → i ≡ j
one_place names a i j once p q =
    let e : Some i ≡ Some j = sym (number-at names i a once p) ∙ number-at names j a once q in Prim.cc

abbrev name_of : Noted → NameBytes
name_of p = p.0

pub noted_name : (a : NameBytes) (ps : List Noted) → In a (map name_of ps) → (d : ℕ) × In (a, d) ps
noted_name a [] i = absurd i
noted_name a (p ∷ ps) (inl e) = (p.1, inl (let f : a ≡ p.0 = e in ap (λ (z : NameBytes). (z, p.1)) f))
noted_name a (p ∷ ps) (inr i) = let r = noted_name a ps i in (r.0, inr r.1)

pub Once-push : {X : Type 0} (xs : List X) (x : X) → Once xs → (In x xs → ⊥) → Once (xs ++ x ∷ [])
Once-push [] x once none = (λ i. i, tt)
Once-push (y ∷ ys) x once none = (
  λ i. elim (In-push y x ys i) [ inl j ↦ once.0 j | inr e ↦ none (inl (sym e)) ],
  Once-push ys x once.1 (λ i. none (inr i)),
)

-- a prefix of what can be noted can be noted
pub can_front : (names : List NameBytes) (ps qs : List Noted) → CanBeNoted names (ps ++ qs)
    → CanBeNoted names ps
can_front names ps qs can = record {
  elements = λ p i. can.elements p (In-append_left p ps qs i);
  once = Once-front (map name_of ps) (map name_of qs) (subst Once (map-append name_of ps qs) can.once);
}

-- a name that is no element's
pub none_unknown : (names : List NameBytes) (ps : List Noted) (a : NameBytes) (v : ℕ) → Once names
    → number_in names a ≡ None → CanBeNoted names (ps ++ (a, v) ∷ []) → ⊥
none_unknown names ps a v once none can =
    let s = number-some names a once
    (can.elements (a, v) (In-append_right (a, v) ps ((a, v) ∷ []) (inl refl))) in
    let bad : None ≡ Some s.0 = sym none ∙ s.2 in Prim.cc

module _ (names : List NameBytes) (unset : ℕ) (ps : List Noted) (values : List ℕ) (once : Once names)
    (holds : Holds names unset ps values)
    (a : NameBytes) (n v : ℕ) (at : slice_get names n ≡ Some a) where
  -- a name that has a value
  pub none_twice : slice_index values n ≢ unset → CanBeNoted names (ps ++ (a, v) ∷ []) → ⊥
  none_twice has can =
      let i : In a (map name_of ps) = In-map name_of (a, slice_index values n) ps (holds.others a n at has) in
      Once-middle a (map name_of ps) [] (subst Once (map-append name_of ps ((a, v) ∷ [])) can.once)
      (In-append_left a (map name_of ps) [] i)

  module _ (free : slice_index values n ≡ unset) (below : v < unset) where
    new_name : In a (map name_of ps) → ⊥
    new_name i =
        let p = noted_name a ps i in
        let h = holds.here (a, p.0) n p.1 at in
        let lt : p.0 < unset = h.1 in
        let e : slice_index values n ≡ p.0 = h.0 in
        omega arith

    within : n < length values
    within = omega (arith, slice_get_within names n a at, holds.size)

    pub hold_more : Holds names unset (ps ++ (a, v) ∷ []) (set values n v)
    hold_more = record {
      size = length-set values n v ∙ holds.size;
      can = record {
        elements =
            λ p i. elim (In-push p (a, v) ps i) [
              | inl j ↦ holds.can.elements p j
              | inr e ↦
                  subst (λ (z : NameBytes). In z names) (sym (ap name_of e)) (In-from_place names n a at)
            ];
        once = subst Once (sym (map-append name_of ps ((a, v) ∷ [])))
            (Once-push (map name_of ps) a holds.can.once new_name);
      };
      here = λ p i j place. elim (In-push p (a, v) ps j) [
        | inl k ↦ old p i k place
        | inr e ↦
            new p i e place
      ];
      others = λ b i place has. other b i place has (ℕ_discrete i n);
    }
      where
        old : (p : Noted) (i : ℕ) → In p ps → slice_get names i ≡ Some p.0
            → (slice_index (set values n v) i ≡ p.1) × (p.1 < unset)
        old p i k place = go (ℕ_discrete i n)
          where
            go : Dec (i ≡ n) → (slice_index (set values n v) i ≡ p.1) × (p.1 < unset)
            go (yes e) =
                let f : Some p.0 ≡ Some a = sym place ∙ ap (slice_get names) e ∙ at in
                let g : p.0 ≡ a = Prim.cc in
                absurd (new_name (subst (λ (z : NameBytes). In z (map name_of ps)) g (In-map name_of p ps k)))
            go (no m) = let h = holds.here p i k place in (get_or-set_other values n i v 0 m ∙ h.0, h.1)

        new : (p : Noted) (i : ℕ) → p ≡ (a, v) → slice_get names i ≡ Some p.0
            → (slice_index (set values n v) i ≡ p.1) × (p.1 < unset)
        new p i e place =
            let there : slice_get names i ≡ Some a = place ∙ ap (λ (q : Noted). Some q.0) e in
            let same : i ≡ n = one_place names a i n once there at in
            let val : p.1 ≡ v = ap (λ (q : Noted). q.1) e in (
              ap (λ m. slice_index (set values n v) m) same ∙ get_or-set_same values n v 0 within ∙ sym val,
              omega arith,
            )

        other : (b : NameBytes) (i : ℕ) → slice_get names i ≡ Some b → slice_index (set values n v) i ≢ unset
            → Dec (i ≡ n) → In (b, slice_index (set values n v) i) (ps ++ (a, v) ∷ [])
        other b i place has (yes e) =
            let f : Some b ≡ Some a = sym place ∙ ap (slice_get names) e ∙ at in
            let g : b ≡ a = Prim.cc in
            let w : slice_index (set values n v) i ≡ v =
            ap (λ m. slice_index (set values n v) m) e ∙ get_or-set_same values n v 0 within in
            let both : (b, slice_index (set values n v) i) ≡ (a, v) =
            ap (λ (z : NameBytes). (z, slice_index (set values n v) i)) g ∙ ap (λ (m : ℕ). (a, m)) w in
            In-append_right (b, slice_index (set values n v) i) ps ((a, v) ∷ []) (inl both)
        other b i place has (no m) =
            let w : slice_index (set values n v) i ≡ slice_index values i =
            get_or-set_other values n i v 0 m in
            let k : In (b, slice_index values i) ps = holds.others b i place (λ e. has (w ∙ e)) in
            In-append_left (b, slice_index (set values n v) i) ps ((a, v) ∷ [])
            (subst (λ (m : ℕ). In (b, m) ps) (sym w) k)

-- nothing is noted yet
pub hold_none : (names : List NameBytes) (unset : ℕ) (values : List ℕ) → length values ≡ length names
    → ((i : ℕ) → i < length values → slice_index values i ≡ unset) → Holds names unset [] values
hold_none names unset values size all = record {
  size = size;
  can = record { elements = λ p i. absurd i; once = tt };
  here = λ p i j place. absurd j;
  others = λ a i place has. absurd (has (all i (omega (arith, slice_get_within names i a place, size))));
}

-- the places of more names
pub placed-append : (i : ℕ) (xs ys : List NameBytes) → placed_from i (xs ++ ys)
    ≡ placed_from i xs ++ placed_from (i + length xs) ys
placed-append i [] ys = ap (λ n. placed_from n ys) (sym (add-zero i))
placed-append i (a ∷ xs) ys =
    let e : i + 1 + length xs ≡ i + suc (length xs) = omega arith in
    ap (λ ps. (a, i) ∷ ps) (placed-append (i + 1) xs ys
    ∙ ap (λ n. placed_from (i + 1) xs ++ placed_from n ys) e)

-- as many of one value
pub all_the_same : (n x i : ℕ) → i < n → slice_index (replicate n x) i ≡ x
all_the_same zero x i lt = absurd (omega arith)
all_the_same (suc n) x zero lt = refl
all_the_same (suc n) x (suc i) lt = all_the_same n x i (omega arith)

pub hold_unset : (names : List NameBytes) (unset n : ℕ) (values : List ℕ) → n ≡ length names
    → values ≡ replicate n unset → length values ≡ n → Holds names unset [] values
hold_unset names unset n values count is size =
    hold_none names unset values (size ∙ count)
    (λ i lt. ap (λ (l : List ℕ). slice_index l i) is ∙ all_the_same n unset i (omega (arith, size)))
