-- The number of an element is that of its name among all; so a row has it where the response has the name.
use Rattle.std.proofs.Common.{◌≡◌, ℕ, suc, ◌+◌, ◌-◌, ◌<◌, ◌≤◌, Option, Some, None, List, [], ◌∷◌, length}
use Rattle.std.proofs.Common.{take, drop, refl, sym, ◌∙◌, ap, subst, arith}
use Rattle.std.specs.Prelude.{slice_get, option_map, unwrap_or}
use Rattle.std.proofs.lemmas.Option.{slice_get-map, same_Some}
use Rattle.std.proofs.lemmas.List.{drop-drop, drop-map, length-map, take-append-drop, take-map}
use Rattle.events.specs.Names.{NameBytes}
use Rattle.specification.specs.Elements.{number_in, numbers_in}
use Rattle.specification.proofs.Members.{In, Once, In-append_right, place_of_In}
use Rattle.visibility.proofs.Lanes.{slice_get-there}
use Rattle.element_numbers.proofs.Copying.{before-end}
use Rattle.element_numbers.proofs.NameNumbers.{number-at}
use Rattle.contents_check.specs.declared.element.Element.{Element}
use Rattle.contents_check.specs.declared.elements.Elements.{Elements}
use Rattle.contents_check.specs.Known.{number_of, element_names, AreNumbered}
use Rattle.contents_check.proofs.Noting.{in_drop, number_within}
use Rattle.contents_check.proofs.Fronts.{In-take}

once-of : (xs : List NameBytes)
    → ((i j : ℕ) (a : NameBytes) → slice_get xs i ≡ Some a → slice_get xs j ≡ Some a → i ≡ j) → Once xs
once-of [] one = tt
once-of (x ∷ xs) one = (
  (λ i. let p = place_of_In xs x i in absurd (omega (arith, one 0 (suc p.0) x refl p.2))),
  once-of xs (λ i j a p q. omega (arith, one (suc i) (suc j) a p q)),
)

pub name_at : (elements : Elements) (i : ℕ) (a : NameBytes) → slice_get (element_names elements) i ≡ Some a
    → (x : Element) × (slice_get elements.list.items i ≡ Some x) × (x.name ≡ a)
name_at elements i a at =
    go (slice_get elements.list.items i) refl
    (sym (slice_get-map (λ (x : Element). x.name) elements.list.items i) ∙ at)
  where
    go : (o : Option Element) → slice_get elements.list.items i ≡ o
        → option_map (λ (x : Element). x.name) o ≡ Some a → (x : Element)
        × (slice_get elements.list.items i ≡ Some x) × (x.name ≡ a)
    go None e q = absurd cc
    go (Some x) e q = (x, e, same_Some x.name a q)

module _ (elements : Elements) (numbers : AreNumbered elements) where
  pub names-differ : Once (element_names elements)
  names-differ = once-of (element_names elements) (λ i j a p q.
      let x = name_at elements i a p in
      let y = name_at elements j a q in
      same_Some i j (sym (numbers.numbered i x.0 x.1) ∙ ap (number_of elements) (x.2 ∙ sym y.2)
      ∙ numbers.numbered j y.0 y.1))

  pub number-among : (a : NameBytes) (i : ℕ) → number_of elements a ≡ Some i
      → number_in (element_names elements) a ≡ Some i
  number-among a i number =
      let x = numbers.listed a i number in
      number-at (element_names elements) i a names-differ
      (slice_get-map (λ (x : Element). x.name) elements.list.items i
      ∙ ap (option_map (λ (x : Element). x.name)) x.1 ∙ ap Some x.2)

  -- what a row has at a place
  pub row-at : (w : List NameBytes) (k : ℕ) (a : NameBytes) (i : ℕ) → slice_get w k ≡ Some a
      → number_of elements a ≡ Some i → slice_get (numbers_in (element_names elements) w) k ≡ Some i
  row-at w k a i at number =
      slice_get-map (λ b. unwrap_or (number_in (element_names elements) b) (length (element_names elements)))
      w k
      ∙ ap (option_map
      (λ b. unwrap_or (number_in (element_names elements) b) (length (element_names elements)))) at
      ∙ ap (λ n. Some (unwrap_or n (length (element_names elements)))) (number-among a i number)

  -- the number of a name that an element has is an element's
  pub number-few : (w : List NameBytes) (i n : ℕ) → slice_get (numbers_in (element_names elements) w) i
      ≡ Some n
      → ((a : NameBytes) → In a (take (i + 1) w) → (k : ℕ) × (number_of elements a ≡ Some k))
      → n < length elements.list.items
  number-few w i n at known =
      let t = slice_get-there w i (before-end (element_names elements) w i n at) in
      let k = known t.0 (In-take w i (i + 1) t.0 t.1 (omega arith)) in
      let same : k.0 ≡ n = same_Some k.0 n (sym (row-at w i t.0 k.0 t.1 k.1) ∙ at) in
      omega (arith, number_within elements numbers t.0 k.0 k.1, same)

  -- the number at a place of the row is that of the name there
  pub gone-number : (last : List NameBytes) (row : List ℕ) (j n : ℕ)
      → row ≡ numbers_in (element_names elements) last → j < length last
      → ((a : NameBytes) → In a (drop j last) → (i : ℕ) × (number_of elements a ≡ Some i))
      → slice_get row j ≡ Some n
      → (a : NameBytes) × (slice_get last j ≡ Some a) × (number_of elements a ≡ Some n)
  gone-number last row j n is inside known at =
      let t = slice_get-there last j inside in
      let k = known t.0 (in_drop [] last j t.0 t.1) in
      let same : k.0 ≡ n =
      same_Some k.0 n (sym (ap (λ l. slice_get l j) is ∙ row-at last j t.0 k.0 t.1 k.1) ∙ at) in
      (t.0, t.1, k.1 ∙ ap (λ m. Some m) same)

pub row-length : (elements : Elements) (last : List NameBytes) (row : List ℕ)
    → row ≡ numbers_in (element_names elements) last → length row ≡ length last
row-length elements last row is =
    ap (λ l. length l) is
    ∙ length-map last
    (λ b. unwrap_or (number_in (element_names elements) b) (length (element_names elements)))

-- a run of numbers is that of the names
pub run-numbers : (names last w : List NameBytes) (numbers : List ℕ) (i j run : ℕ)
    → numbers ≡ numbers_in names last → take run (drop i w) ≡ take run (drop j last)
    → take run (drop j numbers) ≡ numbers_in names (take run (drop i w))
run-numbers names last w numbers i j run is same =
    let number = λ (a : NameBytes). unwrap_or (number_in names a) (length names) in
    ap (λ l. take run (drop j l)) is ∙ ap (take run) (drop-map number j last)
    ∙ take-map number run (drop j last) ∙ ap (numbers_in names) (sym same)

-- what stands after a later place stands after an earlier one
pub later-drop : (w : List NameBytes) (j k : ℕ) (a : NameBytes) → j ≤ k → In a (drop k w) → In a (drop j w)
later-drop w j k a le i =
    let place : k ≡ j + (k - j) = omega (arith, le) in
    let there : In a (drop (k - j) (drop j w)) =
    subst (λ (l : List NameBytes). In a l) (ap (λ m. drop m w) place ∙ sym (drop-drop (k - j) j w)) i in
    subst (λ (l : List NameBytes). In a l) (take-append-drop (k - j) (drop j w))
    (In-append_right a (take (k - j) (drop j w)) (drop (k - j) (drop j w)) there)
