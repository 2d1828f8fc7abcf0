-- What is left of responses where all but some elements are left out: it is proper where the responses are,
-- and shows what they show of these elements. And the elements from one of them on.
use Rattle.std.proofs.Common.{◌≡◌, ◌≢◌, ◌≤◌, ◌⊎◌, inl, inr, Bool, true, false, List, [], ◌∷◌}
use Rattle.std.proofs.Common.{◌++◌, length, map, refl, sym, ◌∙◌, arith, ap, subst, length-append}
use Rattle.std.specs.Prelude.{All, AllPairs, Contains, cond, filter, bytes_eq}
use Rattle.std.specs.List.{list_any}
use Rattle.std.proofs.lemmas.Bool.{false≢true}
use Rattle.std.proofs.lemmas.List.Kept.{AllPairs-filter}
use Rattle.std.proofs.lemmas.Slice.Eq.{bytes_eq-Decides}
use Rattle.events.specs.Names.{NameBytes}
use Rattle.events.specs.Operation.{Operation, ComesBefore}
use Rattle.specification.specs.Responses.{Responses, Returned, AreProper}
use Rattle.specification.specs.LayerRule.{elements_from, narrowed, row_responses}
use Rattle.specification.specs.Versions.{Version, one, two}
use Rattle.specification.proofs.Members.{In, Before, Once, In-append_right, Before-first}
use Rattle.specification.proofs.Members.{Before-second, In-map, Contains-from_In}
use Rattle.specification.proofs.Members.{All-member, All-from_members, AllPairs-from_Once, Once-from_AllPairs}
use Rattle.specification.proofs.Members.{AllPairs-Before}
use Rattle.specification.proofs.OperationNames.{Rising, Rising-map, AllPairs-from_Rising, In_map-from}
use Rattle.specification.proofs.Shown.{ShowsIn}
use Rattle.specification.proofs.Tests.{Decides-in, In-filter, In_filter-from}

module _ {X : Type 0} (p : X → Bool) where
  pub Before-filter : (a b : X) (xs : List X) → Before a b xs → p a ≡ true → p b ≡ true
      → Before a b (filter p xs)
  Before-filter a b [] h s t = absurd h
  Before-filter a b (x ∷ xs) h s t = go (p x) refl h (λ l. Before-filter a b xs l s t)
    where
      go : (k : Bool) → p x ≡ k → ((a ≡ x) × In b xs) ⊎ Before a b xs
          → (Before a b xs → Before a b (filter p xs)) → Before a b (cond k (x ∷ filter p xs) (filter p xs))
      go true e (inl f) rest = inl (f.0, In-filter p b xs f.1 t)
      go true e (inr l) rest = inr (rest l)
      go false e (inl f) rest = absurd (false≢true (sym e ∙ ap p (sym f.0) ∙ s))
      go false e (inr l) rest = rest l

  pub Before_filter-from : (a b : X) (xs : List X) → Before a b (filter p xs) → Before a b xs
  Before_filter-from a b [] h = absurd h
  Before_filter-from a b (x ∷ xs) h = go (p x) refl h (λ l. Before_filter-from a b xs l)
    where
      go : (k : Bool) → p x ≡ k → Before a b (cond k (x ∷ filter p xs) (filter p xs))
          → (Before a b (filter p xs) → Before a b xs) → ((a ≡ x) × In b xs) ⊎ Before a b xs
      go true e (inl f) rest = inl (f.0, (In_filter-from p b xs f.1).0)
      go true e (inr l) rest = inr (rest l)
      go false e l rest = inr (rest l)

-- an element that does not stand before it is its own first
pub from-first : (before after : List NameBytes) (s : NameBytes) → (In s before → ⊥)
    → elements_from (before ++ s ∷ after) s ≡ s ∷ after
from-first [] after s out = rw ((bytes_eq-Decides s s).1 refl) refl
from-first (x ∷ before) after s out = go (bytes_eq x s) refl (from-first before after s (λ i. out (inr i)))
  where
    go : (t : Bool) → bytes_eq x s ≡ t → elements_from (before ++ s ∷ after) s ≡ s ∷ after
        → cond t (x ∷ (before ++ s ∷ after)) (elements_from (before ++ s ∷ after) s) ≡ s ∷ after
    go true e rest = absurd (out (inl (sym ((bytes_eq-Decides x s).0 e))))
    go false e rest = rest

-- they are a last part of the elements
pub from-split : (xs : List NameBytes) (s : NameBytes) → (before : List NameBytes)
    × (xs ≡ before ++ elements_from xs s)
from-split [] s = ([], refl)
from-split (x ∷ xs) s = go (bytes_eq x s) (from-split xs s)
  where
    go : (t : Bool) → (before : List NameBytes) × (xs ≡ before ++ elements_from xs s) →
        (before : List NameBytes) × (x ∷ xs ≡ before ++ cond t (x ∷ xs) (elements_from xs s))
    go true rest = ([], refl)
    go false rest = (x ∷ rest.0, ap (λ l. x ∷ l) rest.1)

pub In_from-all : (xs : List NameBytes) (s x : NameBytes) → In x (elements_from xs s) → In x xs
In_from-all xs s x i = let split =
    from-split xs s in subst (λ l. In x l) (sym split.1) (In-append_right x split.0 (elements_from xs s) i)

-- the element itself is among them
pub In-from_source : (xs : List NameBytes) (s : NameBytes) → In s xs → In s (elements_from xs s)
In-from_source [] s i = absurd i
In-from_source (x ∷ xs) s i = go (bytes_eq x s) refl i (λ j. In-from_source xs s j)
  where
    go : (t : Bool) → bytes_eq x s ≡ t → (s ≡ x) ⊎ In s xs → (In s xs → In s (elements_from xs s))
        → In s (cond t (x ∷ xs) (elements_from xs s))
    go true e j rest = j
    go false e (inl f) rest = absurd (false≢true (sym e ∙ (bytes_eq-Decides x s).1 (sym f)))
    go false e (inr j) rest = rest j

Rising-from_Before : {X : Type 0} (R : X → X → Type 0) (xs : List X) → ((a b : X) → Before a b xs → R a b)
    → Rising R xs
Rising-from_Before R [] each = tt
Rising-from_Before R (x ∷ xs) each =
    (λ y i. each x y (inl (refl, i)), Rising-from_Before R xs (λ a b h. each a b (inr h)))

Once-last : {X : Type 0} (xs ys : List X) → Once (xs ++ ys) → Once ys
Once-last [] ys o = o
Once-last (x ∷ xs) ys o = Once-last xs ys o.1

module _ (v : Responses) (among : List NameBytes) where
  abbrev is_among : NameBytes → Bool
  is_among x = list_any (bytes_eq x) among

  among-passes : (x : NameBytes) → In x among → is_among x ≡ true
  among-passes x i = (Decides-in bytes_eq bytes_eq-Decides x among).1 i

  passes-among : (x : NameBytes) → is_among x ≡ true → In x among
  passes-among x t = (Decides-in bytes_eq bytes_eq-Decides x among).0 t

  abbrev narrow : Returned → Returned
  narrow r = record { by = r.by; names = filter is_among r.names }

  -- what is shown of these elements is shown
  pub narrowed-shows : (o : Operation) (a b : NameBytes) → In a among → In b among → ShowsIn v o a b
      → ShowsIn (narrowed v among) o a b
  narrowed-shows o a b i j s = (
    narrow s.0,
    In-map narrow s.0 v.returned s.1,
    s.2,
    Before-filter is_among a b s.0.names s.3 (among-passes a i) (among-passes b j),
  )

  pub narrowed_shows-from : (o : Operation) (a b : NameBytes) → ShowsIn (narrowed v among) o a b
      → In a among × In b among × ShowsIn v o a b
  narrowed_shows-from o a b s =
      let t : (r : Returned) × In r v.returned × (s.0 ≡ narrow r) = In_map-from narrow s.0 v.returned s.1 in
      let order : Before a b (filter is_among t.0.names) =
      subst (λ (r : Returned). Before a b r.names) t.2 s.3 in
      let first : In a t.0.names × (is_among a ≡ true) =
      In_filter-from is_among a t.0.names (Before-first a b (filter is_among t.0.names) order) in
      let second : In b t.0.names × (is_among b ≡ true) =
      In_filter-from is_among b t.0.names (Before-second a b (filter is_among t.0.names) order) in (
        passes-among a first.1,
        passes-among b second.1,
        (
          t.0,
          t.1,
          sym (ap (λ (r : Returned). r.by) t.2) ∙ s.2,
          Before_filter-from is_among a b t.0.names order,
        ),
      )

  pub narrowed-proper : AreProper v → Once among → length among ≤ length v.elements
      → AreProper (narrowed v among)
  narrowed-proper proper once few = record {
    distinct = AllPairs-from_Once among once;
    few = omega (arith, proper.few);
    in_order = in-order v.returned proper.in_order;
    of_elements =
        All-from_members (λ (r : Returned). All (λ a. Contains among a) r.names) (map narrow v.returned)
        (λ r i.
        (let t : (q : Returned) × In q v.returned × (r ≡ narrow q) = In_map-from narrow r v.returned i in
        subst (λ (q : Returned). All (λ a. Contains among a) q.names) (sym t.2)
        (All-from_members (λ a. Contains among a) (filter is_among t.0.names)
        (λ a j. Contains-from_In among a (passes-among a (In_filter-from is_among a t.0.names j).1)))));
    repeat_free =
        All-from_members (λ (r : Returned). AllPairs (λ a b. a ≢ b) r.names) (map narrow v.returned) (λ r i.
        (let t : (q : Returned) × In q v.returned × (r ≡ narrow q) = In_map-from narrow r v.returned i in
        subst (λ (q : Returned). AllPairs (λ a b. a ≢ b) q.names) (sym t.2)
        (AllPairs-filter (λ a b. a ≢ b) is_among t.0.names
        (All-member (λ (q : Returned). AllPairs (λ a b. a ≢ b) q.names) v.returned t.0 proper.repeat_free
        t.1))));
  }
    where
      in-order : (rs : List Returned) → AllPairs (λ (r s : Returned). ComesBefore r.by s.by) rs
          → AllPairs (λ (r s : Returned). ComesBefore r.by s.by) (map narrow rs)
      in-order rs all =
          AllPairs-from_Rising (λ (r s : Returned). ComesBefore r.by s.by) (map narrow rs)
          (Rising-map (λ (r s : Returned). ComesBefore r.by s.by)
          (λ (r s : Returned). ComesBefore r.by s.by) narrow (λ r s lt. lt) rs
          (Rising-from_Before (λ (r s : Returned). ComesBefore r.by s.by) rs
          (λ r s h. AllPairs-Before (λ (r s : Returned). ComesBefore r.by s.by) rs r s all h)))

-- what a row speaks of is proper
pub row-proper : (version : Version) (v : Responses) (source : NameBytes) → AreProper v
    → AreProper (row_responses version v source)
row-proper one v source proper = proper
row-proper two v source proper =
    let split = from-split v.elements source in
    narrowed-proper v (elements_from v.elements source) proper
    (Once-last split.0 (elements_from v.elements source)
    (subst (λ l. Once l) split.1 (Once-from_AllPairs v.elements proper.distinct)))
    (omega (arith, ap length split.1, length-append split.0 (elements_from v.elements source)))

pub row-element : (version : Version) (v : Responses) (source : NameBytes) → In source v.elements
    → In source (row_responses version v source).elements
row-element one v source i = i
row-element two v source i = In-from_source v.elements source i

pub row_elements-all : (version : Version) (v : Responses) (source x : NameBytes)
    → In x (row_responses version v source).elements → In x v.elements
row_elements-all one v source x i = i
row_elements-all two v source x i = In_from-all v.elements source x i

-- it shows nothing that is not shown
pub row_shows-from : (version : Version) (v : Responses) (source : NameBytes) (o : Operation)
    (a b : NameBytes) → ShowsIn (row_responses version v source) o a b → ShowsIn v o a b
row_shows-from one v source o a b s = s
row_shows-from two v source o a b s = (narrowed_shows-from v (elements_from v.elements source) o a b s).2
