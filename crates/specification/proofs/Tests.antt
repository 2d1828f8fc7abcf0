-- Tests that compute, each with what it decides: of all or some members of a list, of names, operations and
-- lists without repetition. The worked recordings are shown by such tests, and the existence of a verdict
-- goes by them.
use Rattle.std.proofs.Common.{◌≡◌, ℕ, zero, suc, ◌⊎◌, inl, inr, Bool, true, false, Option, Some, None, List}
use Rattle.std.proofs.Common.{[], ◌∷◌, map, length, refl, sym, ◌∙◌, arith, ap, subst}
use Rattle.std.specs.Prelude.{Decides, not, ◌&&◌, ◌||◌, ◌==◌, flat_map, filter, cond}
use Rattle.std.specs.List.{list_all, list_any}
use Rattle.std.proofs.lemmas.Bool.{false≢true}
use Rattle.std.proofs.lemmas.Bool.Decides.{Decides-like, Decides-and, Decides-or, Decides-not, Decides-eqb}
use Rattle.events.specs.Operation.{Operation}
use Rattle.specification.proofs.Members.{In, Before, Once, In-map}
use Rattle.specification.proofs.OperationNames.{In-flat_map}

pub decide_by : {P : Type 0} (t : Bool) → Decides t P → Dec P
decide_by true d = yes (d.0 refl)
decide_by false d = no (λ p. false≢true (d.1 p))

module _ {X : Type 0} (test : X → Bool) (P : X → Type 0) where
  pub Decides-each_of : (xs : List X) → ((x : X) → In x xs → Decides (test x) (P x))
      → Decides (list_all test xs) ((x : X) → In x xs → P x)
  Decides-each_of [] each = (λ e x i. absurd i, λ all. refl)
  Decides-each_of (y ∷ ys) each =
      Decides-like (test y && list_all test ys)
      (λ h x i. elim i [ inl e ↦ subst (λ z. P z) (sym e) h.0 | inr j ↦ h.1 x j ])
      (λ all. (all y (inl refl), λ x i. all x (inr i)))
      (Decides-and (test y) (list_all test ys) (each y (inl refl))
      (Decides-each_of ys (λ x i. each x (inr i))))

module _ {X : Type 0} (test : X → Bool) (P : X → Type 0) (each : (x : X) → Decides (test x) (P x)) where
  pub Decides-each : (xs : List X) → Decides (list_all test xs) ((x : X) → In x xs → P x)
  Decides-each xs = Decides-each_of test P xs (λ x i. each x)

  pub Decides-some : (xs : List X) → Decides (list_any test xs) ((x : X) × In x xs × P x)
  Decides-some [] = (λ e. absurd (false≢true e), λ s. absurd s.1)
  Decides-some (y ∷ ys) =
      Decides-like (test y || list_any test ys) found lost
      (Decides-or (test y) (list_any test ys) (each y) (Decides-some ys))
    where
      found : P y ⊎ ((x : X) × In x ys × P x) → (x : X) × In x (y ∷ ys) × P x
      found (inl p) = (y, inl refl, p)
      found (inr s) = (s.0, inr s.1, s.2)

      lost : (x : X) × In x (y ∷ ys) × P x → P y ⊎ ((x : X) × In x ys × P x)
      lost s = elim s.1 [ inl e ↦ inl (subst (λ z. P z) e s.2) | inr i ↦ inr (s.0, i, s.2) ]

-- by a test whether two things are one
module _ {X : Type 0} (same : X → X → Bool) where
  abbrev pub is_in : X → List X → Bool
  is_in x xs = list_any (same x) xs

  abbrev pub is_before : X → X → List X → Bool
  is_before a b [] = false
  is_before a b (x ∷ xs) = (same a x && is_in b xs) || is_before a b xs

  abbrev pub is_once : List X → Bool
  is_once [] = true
  is_once (x ∷ xs) = not (is_in x xs) && is_once xs

  -- the option has this in it
  abbrev pub has_some : X → Option X → Bool
  has_some x None = false
  has_some x (Some y) = same y x

module _ {X : Type 0} (same : X → X → Bool) (is : (x y : X) → Decides (same x y) (x ≡ y)) where
  pub Decides-in : (x : X) (xs : List X) → Decides (is_in same x xs) (In x xs)
  Decides-in x [] = (λ e. absurd (false≢true e), λ i. absurd i)
  Decides-in x (y ∷ ys) = Decides-or (same x y) (is_in same x ys) (is x y) (Decides-in x ys)

  pub Decides-before : (a b : X) (xs : List X) → Decides (is_before same a b xs) (Before a b xs)
  Decides-before a b [] = (λ e. absurd (false≢true e), λ h. absurd h)
  Decides-before a b (x ∷ xs) =
      Decides-or (same a x && is_in same b xs) (is_before same a b xs)
      (Decides-and (same a x) (is_in same b xs) (is a x) (Decides-in b xs)) (Decides-before a b xs)

  pub Decides-once : (xs : List X) → Decides (is_once same xs) (Once xs)
  Decides-once [] = (λ e. tt, λ o. refl)
  Decides-once (x ∷ xs) =
      Decides-and (not (is_in same x xs)) (is_once same xs) (Decides-not (is_in same x xs) (Decides-in x xs))
      (Decides-once xs)

  pub Decides-has_some : (x : X) (o : Option X) → Decides (has_some same x o) (o ≡ Some x)
  Decides-has_some x None = (λ e. absurd (false≢true e), λ e. absurd Prim.cc)
  Decides-has_some x (Some y) = Decides-like (same y x) (λ e. ap Some e) (λ e. Prim.cc) (is y x)

abbrev pub is_operation_named : Operation → Operation → Bool
is_operation_named f e = (f.replica == e.replica) && (f.n == e.n)

pub Decides-operation : (f e : Operation) → Decides (is_operation_named f e) (f ≡ e)
Decides-operation f e =
    Decides-like ((f.replica == e.replica) && (f.n == e.n)) (λ h i. record { replica = h.0 i; n = h.1 i })
    (λ h. (ap (λ (o : Operation). o.replica) h, ap (λ (o : Operation). o.n) h))
    (Decides-and (f.replica == e.replica) (f.n == e.n) (Decides-eqb f.replica e.replica)
    (Decides-eqb f.n e.n))

-- the lists of a length with members of a list, in dictionary order
abbrev pub lists_of : {X : Type 0} → ℕ → List X → List (List X)
lists_of zero xs = [] ∷ []
lists_of (suc n) xs = flat_map (λ x. map (λ c. x ∷ c) (lists_of n xs)) xs

pub In-lists_of : {X : Type 0} (n : ℕ) (xs c : List X) → length c ≡ n → ((x : X) → In x c → In x xs)
    → In c (lists_of n xs)
In-lists_of zero xs [] e within = inl refl
In-lists_of zero xs (x ∷ c) e within = absurd (omega arith)
In-lists_of (suc n) xs [] e within = absurd (omega arith)
In-lists_of (suc n) xs (x ∷ c) e within =
    In-flat_map (λ x. map (λ c. x ∷ c) (lists_of n xs)) x (x ∷ c) xs (within x (inl refl))
    (In-map (λ c. x ∷ c) c (lists_of n xs) (In-lists_of n xs c (omega arith) (λ z i. within z (inr i))))

-- the members that pass
module _ {X : Type 0} (test : X → Bool) where
  pub In_filter-from : (x : X) (xs : List X) → In x (filter test xs) → In x xs × (test x ≡ true)
  In_filter-from x [] i = absurd i
  In_filter-from x (y ∷ ys) i = go (test y) refl i (λ j. In_filter-from x ys j)
    where
      go : (b : Bool) → test y ≡ b → In x (cond b (y ∷ filter test ys) (filter test ys))
          → (In x (filter test ys) → In x ys × (test x ≡ true)) → In x (y ∷ ys) × (test x ≡ true)
      go true e (inl f) rest = (inl f, ap test f ∙ e)
      go true e (inr j) rest = (inr (rest j).0, (rest j).1)
      go false e j rest = (inr (rest j).0, (rest j).1)

  pub In-filter : (x : X) (xs : List X) → In x xs → test x ≡ true → In x (filter test xs)
  In-filter x [] i e = absurd i
  In-filter x (y ∷ ys) i e = go (test y) refl i (λ j. In-filter x ys j e)
    where
      go : (b : Bool) → test y ≡ b → In x (y ∷ ys) → (In x ys → In x (filter test ys))
          → In x (cond b (y ∷ filter test ys) (filter test ys))
      go true f (inl p) rest = inl p
      go true f (inr j) rest = inr (rest j)
      go false f (inl p) rest = absurd (false≢true (sym f ∙ ap test (sym p) ∙ e))
      go false f (inr j) rest = rest j

-- what is tested where the first holds
pub Decides-and_then : {P Q : Type 0} (x y : Bool) → Decides x P → (P → Decides y Q)
    → Decides (x && y) (P × Q)
Decides-and_then true y d k = (λ e. (d.0 refl, (k (d.0 refl)).0 e), λ h. (k h.0).1 h.1)
Decides-and_then false y d k = (λ e. absurd (false≢true e), λ h. d.1 h.0)

pub Decides-implies : {P Q : Type 0} (x y : Bool) → Decides x P → (P → Decides y Q)
    → Decides (not x || y) (P → Q)
Decides-implies true y d k = (λ e p. (k p).0 e, λ all. (k (d.0 refl)).1 (all (d.0 refl)))
Decides-implies false y d k = (λ e p. absurd (false≢true (d.1 p)), λ all. refl)
