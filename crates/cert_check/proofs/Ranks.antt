-- An order of the elements by the places of its names.
use Rattle.std.proofs.Common.{◌≡◌, ℕ, zero, suc, ◌+◌, ◌<◌, ◌≤◌, inl, inr, Some, List, [], ◌∷◌, map, length}
use Rattle.std.proofs.Common.{refl, sym, ◌∙◌, ap, subst, arith, add-zero, zero-add}
use Rattle.std.specs.Prelude.{unwrap_or, slice_get, slice_index, IsPermutation}
use Rattle.events.specs.Names.{NameBytes}
use Rattle.specification.specs.Elements.{numbers_in}
use Rattle.specification.specs.Orders.{IsSubsequence}
use Rattle.specification.proofs.Members.{In, Before, Once, In-map, Once-bounded, decide_In, Before-cases}
use Rattle.specification.proofs.Members.{Before-first, Before-second}
use Rattle.specification.proofs.Permutations.{permutation_of_members, In-permutation, In-permutation_back}
use Rattle.specification.proofs.Permutations.{Once-permutation}
use Rattle.specification.proofs.Subsequences.{Before-subsequence, subsequence_of_pairs}
use Rattle.specification.proofs.Numbers.{number, number-rises}
use Rattle.specification.proofs.Shown.{same_name}
use Rattle.element_numbers.proofs.NameNumbers.{number-some}
use Rattle.cert_check.proofs.Listed.{In-map_back, Before-map, Before-map_back, number_of_member}
use Rattle.cert_check.specs.Noted.{Noted, Holds, CanBeNoted, placed_from}
use Rattle.cert_check.specs.Values.{IsRising}

pub names_of_placed : (i : ℕ) (order : List NameBytes) → map (λ (p : Noted). p.0) (placed_from i order)
    ≡ order
names_of_placed i [] = refl
names_of_placed i (a ∷ order) = ap (λ l. a ∷ l) (names_of_placed (i + 1) order)

pub placed_at : (i : ℕ) (order : List NameBytes) (p : ℕ) (a : NameBytes) → slice_get order p ≡ Some a
    → In (a, i + p) (placed_from i order)
placed_at i [] p a at = absurd Prim.cc
placed_at i (b ∷ order) zero a at =
    inl (let e : b ≡ a = Prim.cc in ap (λ (z : NameBytes). (z, i + 0)) (sym e)
    ∙ ap (λ (n : ℕ). (b, n)) (add-zero i))
placed_at i (b ∷ order) (suc p) a at =
    let e : i + 1 + p ≡ i + suc p = omega arith in
    inr (subst (λ (n : ℕ). In (a, n) (placed_from (i + 1) order)) e (placed_at (i + 1) order p a at))

-- a permutation can be noted, and what is as long and can be noted is one
pub can_permutation : (names order : List NameBytes) → Once names → IsPermutation names order
    → CanBeNoted names (placed_from 0 order)
can_permutation names order once perm = record {
  elements =
      λ p i. In-permutation_back names order p.0 perm (subst (λ l. In p.0 l) (names_of_placed 0 order)
      (In-map (λ (q : Noted). q.0) p (placed_from 0 order) i));
  once = subst Once (sym (names_of_placed 0 order)) (Once-permutation same_name names order perm once);
}

pub permutation_noted : (names order : List NameBytes) → Once names → length order ≡ length names
    → CanBeNoted names (placed_from 0 order) → IsPermutation names order
permutation_noted names order once size can =
    permutation_of_members names order once once_order (λ z i. all z i (decide_In same_name z order)) only
  where
    once_order : Once order
    once_order = subst Once (names_of_placed 0 order) can.once

    only : (z : NameBytes) → In z order → In z names
    only z i =
        let s = In-map_back (λ (q : Noted). q.0) z (placed_from 0 order)
        (subst (λ l. In z l) (sym (names_of_placed 0 order)) i) in
        subst (λ a. In a names) s.2 (can.elements s.0 s.1)

    all : (z : NameBytes) → In z names → Dec (In z order) → In z order
    all z i (yes j) = j
    all z i (no n) =
        let le : length (z ∷ order) ≤ length names =
        Once-bounded (z ∷ order) names (n, once_order) (λ y k. elim k [
          | inl e ↦
              subst (λ a. In a names) (sym e) i
          | inr j ↦ only y j
        ]) in
        absurd (omega arith)

-- the value of an element is its place in the order
module _ (names order : List NameBytes) (ranks : List ℕ) (unset : ℕ) (once : Once names)
    (perm : IsPermutation names order) (holds : Holds names unset (placed_from 0 order) ranks) where
  once_order : Once order
  once_order = Once-permutation same_name names order perm once

  pub rank_is : (a : NameBytes) → In a names → slice_index ranks (number names a) ≡ number order a
  rank_is a i =
      let s = number-some order a once_order (In-permutation names order a perm i) in
      let there : In {X = Noted} (a, s.0) (placed_from 0 order) =
      subst (λ (n : ℕ). In {X = Noted} (a, n) (placed_from 0 order)) (zero-add s.0)
      (placed_at 0 order s.0 a s.1) in
      let h = holds.here (a, s.0) (number names a) there (number_of_member names a once i) in
      h.0 ∙ sym (ap (λ o. unwrap_or o (length order)) s.2)

  module _ (w : List NameBytes) (once_w : Once w) (known : (a : NameBytes) → In a w → In a names) where
    abbrev value : NameBytes → ℕ
    value a = slice_index ranks (number names a)

    pub follows_from_rising : IsRising (map (slice_index ranks) (numbers_in names w)) → IsSubsequence w order
    follows_from_rising rising =
        subsequence_of_pairs same_name w order once_w once_order
        (λ a i. In-permutation names order a perm (known a i)) pairs
      where
        pairs : (a b : NameBytes) → Before a b w → Before a b order
        pairs a b h =
            let ia : In a names = known a (Before-first a b w h) in
            let ib : In b names = known b (Before-second a b w h) in
            let lt : value a < value b =
            rising (value a) (value b) (Before-map (slice_index ranks) (number names a) (number names b)
            (numbers_in names w) (Before-map (number names) a b w h)) in
            let ra : value a ≡ number order a = rank_is a ia in
            let rb : value b ≡ number order b = rank_is b ib in
            elim (Before-cases a b order (In-permutation names order a perm ia)
            (In-permutation names order b perm ib)) [
              | inl k ↦ k
              | inr (inl e) ↦
                  absurd (let same : number order a ≡ number order b = ap (number order) e in omega arith)
              | inr (inr k) ↦
                  absurd (let more : number order b < number order a = number-rises order once_order b a k in
                  omega arith)
            ]

    pub rising_from_follows : IsSubsequence w order → IsRising (map (slice_index ranks) (numbers_in names w))
    rising_from_follows sub c d h =
        let s = Before-map_back (slice_index ranks) c d (numbers_in names w) h in
        let r = Before-map_back (number names) s.0 s.1 w s.2 in
        let lt : number order r.0 < number order r.1 =
        number-rises order once_order r.0 r.1 (Before-subsequence r.0 r.1 w order sub r.2) in
        let ra : value r.0 ≡ number order r.0 = rank_is r.0 (known r.0 (Before-first r.0 r.1 w r.2)) in
        let rb : value r.1 ≡ number order r.1 = rank_is r.1 (known r.1 (Before-second r.0 r.1 w r.2)) in
        let ea : value r.0 ≡ c = ap (slice_index ranks) r.3 ∙ s.3 in
        let eb : value r.1 ≡ d = ap (slice_index ranks) r.4 ∙ s.4 in
        omega arith
