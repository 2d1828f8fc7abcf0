-- The depths of elements that are noted for a row are those of the row, and what the layer rule says of them.
use Rattle.std.proofs.Common.{◌≡◌, ◌≢◌, ℕ, suc, ◌+◌, ◌-◌, ◌<◌, ◌≤◌, ◌⊎◌, inl, inr, Bool, true, false, cond}
use Rattle.std.proofs.Common.{Some, None, List, [], ◌∷◌, ◌++◌, map, length, get_or, refl, sym, ◌∙◌, ap, subst}
use Rattle.std.proofs.Common.{arith}
use Rattle.std.specs.Prelude.{All, AllPairs, Contains, unwrap_or, slice_get, slice_index, bytes_eq, nat_lt}
use Rattle.std.specs.Prelude.{◌||◌}
use Rattle.std.specs.List.{list_any, position_or_len}
use Rattle.std.proofs.lemmas.Bool.{false_from_ne_true}
use Rattle.std.proofs.lemmas.Option.{slice_get-get_or, slice_get_within}
use Rattle.std.proofs.lemmas.List.{map-append}
use Rattle.std.proofs.lemmas.List.Elements.{All-contains, Contains-get_or}
use Rattle.std.specs.Cmp.Lexicographic.{bytes_decides}
use native.Mathlib.Decide.{ℕ_discrete}
use Rattle.bit_tables.specs.Rule.{HaveDepths}
use Rattle.events.specs.Names.{NameBytes}
use Rattle.events.specs.History.{History}
use Rattle.events.specs.Operations.{response}
use Rattle.specification.specs.Elements.{elements, numbers_in}
use Rattle.specification.specs.Responses.{responses_of, HasInOrder}
use Rattle.specification.specs.LayerRule.{Row, row_names, depth_in}
use Rattle.specification.proofs.Members.{In, Before, Once, In-map, In-append_cases, In-append_left}
use Rattle.specification.proofs.Members.{In-append_right, All-from_members, All-member, In-from_Contains}
use Rattle.specification.proofs.Members.{Contains-from_In, Once-from_AllPairs, AllPairs-from_Once}
use Rattle.specification.proofs.Members.{Before-from_places, places_of_Before, Before-first, Before-second}
use Rattle.specification.proofs.Members.{decide_In}
use Rattle.specification.proofs.Numbers.{number, least-or-limit}
use Rattle.specification.proofs.Shown.{same_name}
use Rattle.specification.proofs.OperationNames.{listed-operation}
use Rattle.specification.proofs.Strong.{returned_of}
use Rattle.cert_check.proofs.NotedNames.{noted_name}
use Rattle.cert_check.proofs.Listed.{In-map_back, Before-map, Before-map_back, number_of_member}
use Rattle.cert_check.proofs.Listed.{number_at_place, once-elements, known-response, each_response, each_list}
use Rattle.cert_check.specs.Noted.{Noted, Holds, CanBeNoted, at_depth, pairs_from}
use Rattle.cert_check.specs.Values.{IsGradualFrom, IsDeepFrom}
use Rattle.cert_check.specs.Numbering.{IsOf, AreDeepAt, lists_of}
use Rattle.cert_check.proofs.RulesFrom.{MeetsRuleFrom}
use Rattle.cert_check.specs.declared.numbered.Numbered.{Numbered}

names_at_depth : (d : ℕ) (layer : List NameBytes) → map (λ (p : Noted). p.0) (at_depth d layer) ≡ layer
names_at_depth d [] = refl
names_at_depth d (a ∷ layer) = ap (λ l. a ∷ l) (names_at_depth d layer)

pub names_of_pairs : (d : ℕ) (row : Row) → map (λ (p : Noted). p.0) (pairs_from d row) ≡ row_names row
names_of_pairs d [] = refl
names_of_pairs d (layer ∷ row) =
    map-append (λ (p : Noted). p.0) (at_depth d layer) (pairs_from (d + 1) row)
    ∙ ap (λ l. l ++ map (λ (p : Noted). p.0) (pairs_from (d + 1) row)) (names_at_depth d layer)
    ∙ ap (λ l. layer ++ l) (names_of_pairs (d + 1) row)

-- the place of the layer in which a name stands
abbrev stands_in : NameBytes → List NameBytes → Bool
stands_in a layer = list_any (bytes_eq a) layer

abbrev layer_of : Row → NameBytes → ℕ
layer_of row a = position_or_len (stands_in a) row

stands : (a : NameBytes) (layer : List NameBytes) → In a layer → stands_in a layer ≡ true
stands a [] i = absurd i
stands a (b ∷ layer) (inl e) = ap (λ t. t || stands_in a layer) ((bytes_decides a b).1 e)
stands a (b ∷ layer) (inr i) = ap (λ t. bytes_eq a b || t) (stands a layer i) ∙ or_true (bytes_eq a b)
  where
    or_true : (t : Bool) → (t || true) ≡ true
    or_true true = refl
    or_true false = refl

absent : (a : NameBytes) (layer : List NameBytes) → (In a layer → ⊥) → stands_in a layer ≡ false
absent a [] none = refl
absent a (b ∷ layer) none =
    ap (λ t. t || stands_in a layer)
    (false_from_ne_true (bytes_eq a b) (λ t. none (inl ((bytes_decides a b).0 t))))
    ∙ absent a layer (λ i. none (inr i))

layer-here : (a : NameBytes) (layer : List NameBytes) (row : Row) → In a layer → layer_of (layer ∷ row) a ≡ 0
layer-here a layer row i = rw (stands a layer i) refl

layer-later : (a : NameBytes) (layer : List NameBytes) (row : Row) → (In a layer → ⊥)
    → layer_of (layer ∷ row) a ≡ suc (layer_of row a)
layer-later a layer row none = rw (absent a layer none) (omega arith)

noted_at : (a : NameBytes) (e d : ℕ) (layer : List NameBytes) → In {X = Noted} (a, e) (at_depth d layer)
    → In a layer × (e ≡ d)
noted_at a e d layer i =
    let s = In-map_back (λ (b : NameBytes). (b, d)) (a, e) layer i in
    (subst (λ b. In b layer) (ap (λ (p : Noted). p.0) s.2) s.1, sym (ap (λ (p : Noted). p.1) s.2))

Once-apart : {X : Type 0} (xs ys : List X) (x : X) → Once (xs ++ ys) → In x xs → In x ys → ⊥
Once-apart [] ys x once i j = i
Once-apart (z ∷ xs) ys x once (inl e) j = once.0 (subst (λ w. In w (xs ++ ys)) e (In-append_right x xs ys j))
Once-apart (z ∷ xs) ys x once (inr i) j = Once-apart xs ys x once.1 i j

Once-back : {X : Type 0} (xs ys : List X) → Once (xs ++ ys) → Once ys
Once-back [] ys once = once
Once-back (x ∷ xs) ys once = Once-back xs ys once.1

depth_noted : (d : ℕ) (row : Row) (a : NameBytes) (e : ℕ) → Once (row_names row)
    → In {X = Noted} (a, e) (pairs_from d row) → e ≡ d + layer_of row a
depth_noted d [] a e once i = absurd i
depth_noted d (layer ∷ row) a e once i =
    go (In-append_cases {X = Noted} (a, e) (at_depth d layer) (pairs_from (d + 1) row) i)
    (depth_noted (d + 1) row a e (Once-back layer (row_names row) once))
  where
    go : In {X = Noted} (a, e) (at_depth d layer) ⊎ In {X = Noted} (a, e) (pairs_from (d + 1) row) →
        (In {X = Noted} (a, e) (pairs_from (d + 1) row) → e ≡ d + 1 + layer_of row a)
        → e ≡ d + layer_of (layer ∷ row) a
    go (inl j) later =
        let s = noted_at a e d layer j in
        let first : layer_of (layer ∷ row) a ≡ 0 = layer-here a layer row s.0 in
        let same : e ≡ d = s.1 in omega arith
    go (inr j) behind =
        let rest : e ≡ d + 1 + layer_of row a = behind j in
        let in_rest : In a (row_names row) =
        subst (λ l. In a l) (names_of_pairs (d + 1) row)
        (In-map (λ (p : Noted). p.0) (a, e) (pairs_from (d + 1) row) j) in
        let later : layer_of (layer ∷ row) a ≡ suc (layer_of row a) =
        layer-later a layer row (λ k. Once-apart layer (row_names row) a once k in_rest) in
        omega arith

depth_none : (row : Row) (a : NameBytes) → (In a (row_names row) → ⊥) → layer_of row a ≡ length row
depth_none [] a none = refl
depth_none (layer ∷ row) a none =
    layer-later a layer row (λ i. none (In-append_left a layer (row_names row) i))
    ∙ ap suc (depth_none row a (λ i. none (In-append_right a layer (row_names row) i)))

layer-le : (row : Row) (a : NameBytes) → layer_of row a ≤ length row
layer-le [] a = omega arith
layer-le (layer ∷ row) a = go (decide_In same_name a layer) (layer-le row a)
  where
    go : Dec (In a layer) → layer_of row a ≤ length row → layer_of (layer ∷ row) a ≤ length (layer ∷ row)
    go (yes i) le = let e : layer_of (layer ∷ row) a ≡ 0 = layer-here a layer row i in omega arith
    go (no n) le = let e : layer_of (layer ∷ row) a ≡ suc (layer_of row a) = layer-later a layer row n in
        omega arith

depth_is : (k : ℕ) (row : Row) (a : NameBytes) → k - 1 ≡ length row → depth_in k row a ≡ layer_of row a
depth_is k row a e =
    ap (λ m. unwrap_or (cond (nat_lt (layer_of row a) (length row)) (Some (layer_of row a)) None) m) e
    ∙ least-or-limit (layer_of row a) (length row) (layer-le row a)

-- the depth that is noted for an element is its depth in the row
pub noted_depth : (names : List NameBytes) (k : ℕ) (row : Row) (depths : List ℕ) (a : NameBytes) (i : ℕ)
    → length row + 1 ≡ k → Holds names (k - 1) (pairs_from 0 row) depths →
    slice_get names i ≡ Some a → slice_index depths i ≡ depth_in k row a
noted_depth names k row depths a i size holds at =
    go (ℕ_discrete (slice_index depths i) (k - 1)) ∙ sym (depth_is k row a count)
  where
    count : k - 1 ≡ length row
    count = omega arith

    once : Once (row_names row)
    once = subst Once (names_of_pairs 0 row) holds.can.once

    none : slice_index depths i ≡ k - 1 → In a (row_names row) → ⊥
    none e j =
        let s = noted_name a (pairs_from 0 row) (subst (λ l. In a l) (sym (names_of_pairs 0 row)) j) in
        let h = holds.here (a, s.0) i s.1 at in
        let same : slice_index depths i ≡ s.0 = h.0 in
        let lt : s.0 < k - 1 = h.1 in omega arith

    go : Dec (slice_index depths i ≡ k - 1) → slice_index depths i ≡ layer_of row a
    go (yes e) = e ∙ count ∙ sym (depth_none row a (none e))
    go (no n) =
        let e : slice_index depths i ≡ 0 + layer_of row a =
        depth_noted 0 row a (slice_index depths i) once (holds.others a i at n) in
        omega arith

-- a row that meets the rule can be noted
pub can_rule : (names : List NameBytes) (row : Row) → All (λ x. Contains names x) (row_names row)
    → AllPairs (λ x y. x ≢ y) (row_names row) → CanBeNoted names (pairs_from 0 row)
can_rule names row all pairs = record {
  elements = λ p i. In-from_Contains names p.0 (All-member (λ x. Contains names x) (row_names row) p.0 all
      (subst (λ l. In p.0 l) (names_of_pairs 0 row) (In-map (λ (q : Noted). q.0) p (pairs_from 0 row) i)));
  once = subst Once (sym (names_of_pairs 0 row)) (Once-from_AllPairs (row_names row) pairs);
}

pub rule_elements : (names : List NameBytes) (row : Row) → CanBeNoted names (pairs_from 0 row)
    → All (λ x. Contains names x) (row_names row)
rule_elements names row can = All-from_members (λ x. Contains names x) (row_names row) (λ x i.
    let s = noted_name x (pairs_from 0 row) (subst (λ l. In x l) (sym (names_of_pairs 0 row)) i) in
    Contains-from_In names x (can.elements (x, s.0) s.1))

pub rule_once : (names : List NameBytes) (row : Row) → CanBeNoted names (pairs_from 0 row)
    → AllPairs (λ x y. x ≢ y) (row_names row)
rule_once names row can = AllPairs-from_Once (row_names row) (subst Once (names_of_pairs 0 row) can.once)

-- between numbers and names
module _ (names : List NameBytes) (k : ℕ) (row : Row) (depths : List ℕ) (size : length row + 1 ≡ k)
    (once : Once names) (holds : Holds names (k - 1) (pairs_from 0 row) depths)
    (w : List NameBytes) (known : (a : NameBytes) → In a w → In a names) where
  abbrev value : NameBytes → ℕ
  value a = slice_index depths (number names a)

  value_is : (a : NameBytes) → In a w → value a ≡ depth_in k row a
  value_is a i =
      noted_depth names k row depths a (number names a) size holds (number_of_member names a once (known a i))

  module _ (first : ℕ) where
    pub gradual_names : IsGradualFrom first depths (numbers_in names w) → (x y : NameBytes)
        → first ≤ number names x → first ≤ number names y → HasInOrder w x y
        → depth_in k row y ≤ depth_in k row x + 1
    gradual_names gradual x y high from p =
        let h : Before x y w = Before-from_places w x y p.0 p.1 p.2 p.3 p.4 in
        let le : value y ≤ value x + 1 =
        gradual (number names x) (number names y) high from (Before-map (number names) x y w h) in
        let ex : value x ≡ depth_in k row x = value_is x (Before-first x y w h) in
        let ey : value y ≡ depth_in k row y = value_is y (Before-second x y w h) in
        omega arith

    pub gradual_numbers : ((x y : NameBytes) → first ≤ number names x → first ≤ number names y
        → HasInOrder w x y → depth_in k row y ≤ depth_in k row x + 1)
        → IsGradualFrom first depths (numbers_in names w)
    gradual_numbers gradual m n high from h =
        let r = Before-map_back (number names) m n w h in
        let x : NameBytes = r.0 in
        let y : NameBytes = r.1 in
        let p = places_of_Before w x y r.2 in
        let em : number names x ≡ m = r.3 in
        let en : number names y ≡ n = r.4 in
        let le : depth_in k row y ≤ depth_in k row x + 1 =
        gradual x y (omega (arith, em, high)) (omega (arith, en, from)) p in
        let ex : value x ≡ depth_in k row x = value_is x (Before-first x y w r.2) in
        let ey : value y ≡ depth_in k row y = value_is y (Before-second x y w r.2) in
        let ec : value x ≡ slice_index depths m = ap (slice_index depths) em in
        let ed : value y ≡ slice_index depths n = ap (slice_index depths) en in
        omega arith

    module _ (source : ℕ) (a : NameBytes) (at : slice_get names source ≡ Some a) where
      pub deep_names : IsDeepFrom first depths source (k - 1) (numbers_in names w) → (x : NameBytes)
          → first ≤ number names x → HasInOrder w x a → k - 1 ≤ depth_in k row x
      deep_names deep x high p =
          let h : Before x a w = Before-from_places w x a p.0 p.1 p.2 p.3 p.4 in
          let there : Before (number names x) source (numbers_in names w) =
          subst (λ (n : ℕ). Before (number names x) n (numbers_in names w))
          (number_at_place names source a once at) (Before-map (number names) x a w h) in
          let le : k - 1 ≤ value x = deep (number names x) high there in
          let ex : value x ≡ depth_in k row x = value_is x (Before-first x a w h) in
          omega arith

      pub deep_numbers : ((x : NameBytes) → first ≤ number names x → HasInOrder w x a
          → k - 1 ≤ depth_in k row x) → IsDeepFrom first depths source (k - 1) (numbers_in names w)
      deep_numbers deep n high h =
          let r = Before-map_back (number names) n source w h in
          let x : NameBytes = r.0 in
          let y : NameBytes = r.1 in
          let y_at : slice_get names source ≡ Some y =
          subst (λ (m : ℕ). slice_get names m ≡ Some y) r.4
          (number_of_member names y once (known y (Before-second x y w r.2))) in
          let both : Some y ≡ Some a = sym y_at ∙ at in
          let same : y ≡ a = Prim.cc in
          let p = places_of_Before w x a (subst (λ (z : NameBytes). Before x z w) same r.2) in
          let en : number names x ≡ n = r.3 in
          let le : k - 1 ≤ depth_in k row x = deep x (omega (arith, en, high)) p in
          let ex : value x ≡ depth_in k row x =
          value_is x (Before-first x a w (subst (λ (z : NameBytes). Before x z w) same r.2)) in
          let ev : value x ≡ slice_index depths n = ap (slice_index depths) en in
          omega arith

-- no name of a row is numbered below the first that counts where no noted number is below it
module _ (names : List NameBytes) (unset first : ℕ) (row : Row) (depths noted : List ℕ) (once : Once names)
    (holds : Holds names unset (pairs_from 0 row) depths)
    (has : HaveDepths depths unset noted) where
  pub names_from : All (λ n. first ≤ n) noted → (x : NameBytes) → In x (row_names row)
      → first ≤ number names x
  names_from all x i =
      let s = noted_name x (pairs_from 0 row) (subst (λ l. In x l) (sym (names_of_pairs 0 row)) i) in
      let at : slice_get names (number names x) ≡ Some x =
      number_of_member names x once (holds.can.elements (x, s.0) s.1) in
      let h = holds.here (x, s.0) (number names x) s.1 at in
      let is : slice_index depths (number names x) ≡ s.0 = h.0 in
      let lt : s.0 < unset = h.1 in
      let within : number names x < length depths =
      omega (arith, slice_get_within names (number names x) x at, holds.size) in
      All-contains (λ n. first ≤ n) noted (number names x) all
      ((has (number names x)).1 (within, omega (arith, is, lt)))

  pub noted_from : ((x : NameBytes) → In x (row_names row) → first ≤ number names x)
      → All (λ n. first ≤ n) noted
  noted_from all k d lt =
      let n : ℕ = get_or noted k d in
      let p = (has n).0 (Contains-get_or noted k d lt) in
      let b : NameBytes = get_or names n [] in
      let at : slice_get names n ≡ Some b = slice_get-get_or names n [] (omega (arith, p.0, holds.size)) in
      let set : slice_index depths n ≢ unset = λ e. (let low = p.1 in omega arith) in
      let i : In b (row_names row) =
      subst (λ l. In b l) (names_of_pairs 0 row) (In-map (λ (q : Noted). q.0) (b, slice_index depths n)
      (pairs_from 0 row) (holds.others b n at set)) in
      let high : first ≤ number names b = all b i in
      let e : number names b ≡ n = number_at_place names n b once at in
      omega arith

-- along all lists the depths decide the rule
module _ (h : History) (t : Numbered) (of : IsOf h t) (k first : ℕ) (row : Row) (depths : List ℕ)
    (size : length row + 1 ≡ k) (holds : Holds (elements h) (k - 1) (pairs_from 0 row) depths)
    (source : ℕ) (a : NameBytes) (at : slice_get (elements h) source ≡ Some a) where
  once : Once (elements h)
  once = once-elements h of.legal of.sound

  pub rule_from_lists : ((x : NameBytes) → In x (row_names row) → first ≤ number (elements h) x)
      → ((j : ℕ) → j < length (lists_of t) → AreDeepAt t depths first source (k - 1) j)
      → MeetsRuleFrom (responses_of h) first k a row
  rule_from_lists from all = record {
    of_elements = rule_elements (elements h) row holds.can;
    from = from;
    once = rule_once (elements h) row holds.can;
    gradual = λ r i x y high more p.
        let s = each_response h t of (IsGradualFrom first depths)
        (λ xs ys sub g x y high more b. g x y high more (sub x y b)) (λ j lt. (all j lt).0) r i in
        gradual_names (elements h) k row depths size once holds (response h r.by)
        (known-response h of.legal of.sound r.by s.0) first s.2 x y high more
        (subst (λ (w : List NameBytes). HasInOrder w x y) s.1 p);
    deep = λ r i x high p.
        let s = each_response h t of (IsDeepFrom first depths source (k - 1))
        (λ xs ys sub d x high b. d x high (sub x source b)) (λ j lt. (all j lt).1) r i in
        deep_names (elements h) k row depths size once holds (response h r.by)
        (known-response h of.legal of.sound r.by s.0) first source a at s.2 x high
        (subst (λ (w : List NameBytes). HasInOrder w x a) s.1 p);
  }

  pub lists_from_rule : MeetsRuleFrom (responses_of h) first k a row → (j : ℕ) → j < length (lists_of t)
      → AreDeepAt t depths first source (k - 1) j
  lists_from_rule rule j lt = (
    each_list h t of (IsGradualFrom first depths) (λ o i.
        gradual_numbers (elements h) k row depths size once holds (response h o)
        (known-response h of.legal of.sound o i) first
        (rule.gradual (record { by = o; names = response h o })
        (returned_of h o of.legal (listed-operation h o i)))) j lt,
    each_list h t of (IsDeepFrom first depths source (k - 1)) (λ o i.
        deep_numbers (elements h) k row depths size once holds (response h o)
        (known-response h of.legal of.sound o i) first source a at
        (rule.deep (record { by = o; names = response h o })
        (returned_of h o of.legal (listed-operation h o i)))) j lt,
  )
