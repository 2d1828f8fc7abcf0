-- The layer rule of either version as a rule on all responses that asks nothing of the elements numbered
-- below a first one.
use Rattle.std.proofs.Common.{◌≡◌, ◌≢◌, ℕ, true, ◌+◌, ◌-◌, ◌<◌, ◌≤◌, inl, inr, Some, List, [], ◌∷◌, ◌++◌, map}
use Rattle.std.proofs.Common.{refl, sym, ◌∙◌, ap, subst, arith}
use Rattle.std.specs.Prelude.{All, AllPairs, Contains, filter, slice_get, bytes_eq}
use Rattle.std.specs.List.{list_any}
use Rattle.std.proofs.lemmas.Slice.Eq.{bytes_eq-Decides}
use Rattle.events.specs.Names.{NameBytes}
use Rattle.specification.specs.Responses.{Responses, Returned, AreProper, HasInOrder}
use Rattle.specification.specs.LayerRule.{Row, row_names, depth_in, MeetsLayerRule, MeetsRuleOf}
use Rattle.specification.specs.LayerRule.{elements_from, narrowed}
use Rattle.specification.specs.Versions.{Version, one, two}
use Rattle.specification.proofs.Members.{In, Before, Once, In-map, In-append_left, In-append_right}
use Rattle.specification.proofs.Members.{In-append_cases, In-split, Once-middle, In-from_Contains}
use Rattle.specification.proofs.Members.{Contains-from_In, All-member, All-from_members, Before-from_places}
use Rattle.specification.proofs.Members.{places_of_Before, Before-first, Before-second, In-from_place}
use Rattle.specification.proofs.Numbers.{number, number-rises}
use Rattle.specification.proofs.Shown.{names-elements, elements-once}
use Rattle.specification.proofs.Tests.{Decides-in, In_filter-from}
use Rattle.specification.proofs.Narrowed.{Before-filter, Before_filter-from, from-first, In_from-all}
use Rattle.cert_check.specs.Numbering.{first_of}
use Rattle.cert_check.proofs.Listed.{In-map_back, number_at_place}

-- the layer rule of the elements from a first number on
pub record MeetsRuleFrom (v : Responses) (first k : ℕ) (source : NameBytes) (row : Row) : Type 0 where
  pub of_elements : All (λ x. Contains v.elements x) (row_names row)
  pub from : (x : NameBytes) → In x (row_names row) → first ≤ number v.elements x
  pub once : AllPairs (λ x y. x ≢ y) (row_names row)
  pub gradual : (r : Returned) → In r v.returned → (x y : NameBytes) → first ≤ number v.elements x
      → first ≤ number v.elements y → HasInOrder r.names x y → depth_in k row y ≤ depth_in k row x + 1
  pub deep : (r : Returned) → In r v.returned → (x : NameBytes) → first ≤ number v.elements x
      → HasInOrder r.names x source → k - 1 ≤ depth_in k row x

Before-across : (a b : NameBytes) (xs ys : List NameBytes) → In a xs → In b ys → Before a b (xs ++ ys)
Before-across a b [] ys i j = absurd i
Before-across a b (x ∷ xs) ys (inl e) j = inl (e, In-append_right b xs ys j)
Before-across a b (x ∷ xs) ys (inr i) j = inr (Before-across a b xs ys i j)

Before-last : (a b : NameBytes) (xs ys : List NameBytes) → Before a b ys → Before a b (xs ++ ys)
Before-last a b [] ys h = h
Before-last a b (x ∷ xs) ys h = inr (Before-last a b xs ys h)

-- the elements from one of them on are those that are not numbered below it
module _ (names : List NameBytes) (once : Once names) (s : NameBytes) (listed : In s names) where
  -- what stands before that one and what after it; from it on stand it and the latter
  parts : (l : List NameBytes) × (r : List NameBytes) × (names ≡ l ++ s ∷ r) × (elements_from names s ≡ s ∷ r)
  parts =
      let split = In-split s names listed in
      let l : List NameBytes = split.0 in
      let r : List NameBytes = split.1 in
      let is : names ≡ l ++ s ∷ r = split.2 in (
        l,
        r,
        is,
        ap (λ ns. elements_from ns s) is
            ∙ from-first l r s (λ j. Once-middle s l r (subst Once is once) (In-append_left s l r j)),
      )

  pub from-numbered : (x : NameBytes) → In x (elements_from names s) → number names s ≤ number names x
  from-numbered x i =
      let l : List NameBytes = parts.0 in
      let r : List NameBytes = parts.1 in
      let j : In x (s ∷ r) = subst (In x) parts.3 i in
      elim j [
        | inl e ↦ let same : number names x ≡ number names s = ap (number names) e in omega arith
        | inr k ↦
            let h : Before s x names =
            subst (Before s x) (sym parts.2) (Before-last s x l (s ∷ r) (inl (refl, k))) in
            let lt : number names s < number names x = number-rises names once s x h in
            omega arith
      ]

  pub numbered-from : (x : NameBytes) → In x names → number names s ≤ number names x
      → In x (elements_from names s)
  numbered-from x i le =
      let l : List NameBytes = parts.0 in
      let r : List NameBytes = parts.1 in
      elim (In-append_cases x l (s ∷ r) (subst (In x) parts.2 i)) [
        | inl k ↦
            let h : Before x s names =
            subst (Before x s) (sym parts.2) (Before-across x s l (s ∷ r) k (inl refl)) in
            let lt : number names x < number names s = number-rises names once x s h in
            absurd (omega arith)
        | inr k ↦ subst (In x) (sym parts.3) k
      ]

module _ (v : Responses) (proper : AreProper v) (k source : ℕ) (a : NameBytes) (row : Row)
    (at : slice_get v.elements source ≡ Some a) where
  abbrev among : List NameBytes
  among = elements_from v.elements a

  abbrev narrow : Returned → Returned
  narrow r = record { by = r.by; names = filter (λ x. list_any (bytes_eq x) among) r.names }

  differ : Once v.elements
  differ = elements-once v proper

  listed : In a v.elements
  listed = In-from_place v.elements source a at

  numbered : number v.elements a ≡ source
  numbered = number_at_place v.elements source a differ at

  high : (x : NameBytes) → In x among → source ≤ number v.elements x
  high x i = let le : number v.elements a ≤ number v.elements x =
      from-numbered v.elements differ a listed x i in let e = numbered in omega arith

  low : (x : NameBytes) → In x v.elements → source ≤ number v.elements x → In x among
  low x i le = let e = numbered in numbered-from v.elements differ a listed x i (omega arith)

  passes : (x : NameBytes) → In x among → list_any (bytes_eq x) among ≡ true
  passes x i = (Decides-in bytes_eq bytes_eq-Decides x among).1 i

  passed : (x : NameBytes) → list_any (bytes_eq x) among ≡ true → In x among
  passed x t = (Decides-in bytes_eq bytes_eq-Decides x among).0 t

  -- what a response has of these elements in order, it has after the others are left out
  kept : (r : Returned) → In r v.returned → (x y : NameBytes) → source ≤ number v.elements x
      → source ≤ number v.elements y → HasInOrder r.names x y → HasInOrder (narrow r).names x y
  kept r i x y le more p =
      let h : Before x y r.names = Before-from_places r.names x y p.0 p.1 p.2 p.3 p.4 in
      let first : In x among = low x (names-elements v proper r i x (Before-first x y r.names h)) le in
      let second : In y among = low y (names-elements v proper r i y (Before-second x y r.names h)) more in
      places_of_Before (narrow r).names x y
      (Before-filter (λ x. list_any (bytes_eq x) among) x y r.names h (passes x first) (passes y second))

  back : (r : Returned) (x y : NameBytes) → HasInOrder (narrow r).names x y
      → In x among × In y among × HasInOrder r.names x y
  back r x y p =
      let h : Before x y (narrow r).names = Before-from_places (narrow r).names x y p.0 p.1 p.2 p.3 p.4 in
      let first =
      In_filter-from (λ x. list_any (bytes_eq x) among) x r.names (Before-first x y (narrow r).names h) in
      let second =
      In_filter-from (λ x. list_any (bytes_eq x) among) y r.names
      (Before-second x y (narrow r).names h) in (
        passed x first.1,
        passed y second.1,
        places_of_Before r.names x y (Before_filter-from (λ x. list_any (bytes_eq x) among) x y r.names h),
      )

  narrowed-to : MeetsLayerRule (narrowed v among) k a row → MeetsRuleFrom v source k a row
  narrowed-to rule = record {
    of_elements = All-from_members (λ x. Contains v.elements x) (row_names row) (λ x i.
        Contains-from_In v.elements x
        (In_from-all v.elements a x (In-from_Contains among x
        (All-member (λ x. Contains among x) (row_names row) x rule.of_elements i))));
    from = λ x i. high x
        (In-from_Contains among x (All-member (λ x. Contains among x) (row_names row) x rule.of_elements i));
    once = rule.once;
    gradual = λ r i x y le more p.
        All-member (λ (r : Returned). (x y : NameBytes) → HasInOrder r.names x y
        → depth_in k row y ≤ depth_in k row x + 1) (map narrow v.returned) (narrow r) rule.gradual
        (In-map narrow r v.returned i) x y (kept r i x y le more p);
    deep = λ r i x le p.
        All-member (λ (r : Returned). (x : NameBytes) → HasInOrder r.names x a
        → k - 1 ≤ depth_in k row x) (map narrow v.returned) (narrow r) rule.deep
        (In-map narrow r v.returned i) x (kept r i x a le (let e = numbered in omega arith) p);
  }

  to-narrowed : MeetsRuleFrom v source k a row → MeetsLayerRule (narrowed v among) k a row
  to-narrowed rule = record {
    of_elements = All-from_members (λ x. Contains among x) (row_names row) (λ x i.
        Contains-from_In among x
        (low x (In-from_Contains v.elements x (All-member (λ x. Contains v.elements x)
        (row_names row) x rule.of_elements i)) (rule.from x i)));
    once = rule.once;
    gradual =
        All-from_members (λ (r : Returned). (x y : NameBytes) → HasInOrder r.names x y
        → depth_in k row y ≤ depth_in k row x + 1) (map narrow v.returned) (λ q j x y p.
        let s = In-map_back narrow q v.returned j in
        let b = back s.0 x y (subst (λ (r : Returned). HasInOrder r.names x y) (sym s.2) p) in
        rule.gradual s.0 s.1 x y (high x b.0) (high y b.1) b.2);
    deep = All-from_members (λ (r : Returned). (x : NameBytes) → HasInOrder r.names x a
        → k - 1 ≤ depth_in k row x) (map narrow v.returned) (λ q j x p.
        let s = In-map_back narrow q v.returned j in
        let b = back s.0 x a (subst (λ (r : Returned). HasInOrder r.names x a) (sym s.2) p) in
        rule.deep s.0 s.1 x (high x b.0) b.2);
  }

  pub from-rule : (version : Version) → MeetsRuleOf version v k a row
      → MeetsRuleFrom v (first_of version source) k a row
  from-rule one rule = record {
    of_elements = rule.of_elements;
    from = λ x i. omega arith;
    once = rule.once;
    gradual =
        λ r i x y le more p. All-member (λ (r : Returned). (x y : NameBytes) → HasInOrder r.names x y
        → depth_in k row y ≤ depth_in k row x + 1) v.returned r rule.gradual i x y p;
    deep = λ r i x le p. All-member (λ (r : Returned). (x : NameBytes) → HasInOrder r.names x a
        → k - 1 ≤ depth_in k row x) v.returned r rule.deep i x p;
  }
  from-rule two rule = narrowed-to rule

  pub to-rule : (version : Version) → MeetsRuleFrom v (first_of version source) k a row
      → MeetsRuleOf version v k a row
  to-rule one rule = record {
    of_elements = rule.of_elements;
    once = rule.once;
    gradual =
        All-from_members (λ (r : Returned). (x y : NameBytes) → HasInOrder r.names x y
        → depth_in k row y ≤ depth_in k row x + 1) v.returned (λ r i x y p.
        rule.gradual r i x y (omega arith) (omega arith) p);
    deep = All-from_members (λ (r : Returned). (x : NameBytes) → HasInOrder r.names x a
        → k - 1 ≤ depth_in k row x) v.returned (λ r i x p.
        rule.deep r i x (omega arith) p);
  }
  to-rule two rule = to-narrowed rule

pub first-within : (version : Version) (source n : ℕ) → source < n → first_of version source ≤ n
first-within one source n lt = omega arith
first-within two source n lt = omega (arith, lt)
