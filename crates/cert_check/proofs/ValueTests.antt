-- One value more, or one that is not right.
use Rattle.std.proofs.Common.{◌≡◌, ℕ, suc, ◌+◌, ◌<◌, ◌≤◌, ◌⊎◌, inl, inr, List, [], ◌∷◌, ◌++◌, map, take, drop}
use Rattle.std.proofs.Common.{length, get_or, refl, sym, ◌∙◌, ap, subst, arith}
use Rattle.std.proofs.lemmas.List.{map_push, map-append, take_more, take_all}
use Rattle.std.proofs.lemmas.Option.{slice_get-get_or}
use Rattle.visibility.proofs.Entries.{split_at}
use Rattle.specification.proofs.Members.{In, Before, In-append_right, In-append_cases}
use Rattle.cert_check.specs.Values.{IsRising}

module _ {X : Type 0} where
  pub Before-push : (a b x : X) (xs : List X) → Before a b (xs ++ x ∷ [])
      → Before a b xs ⊎ (In a xs × (b ≡ x))
  Before-push a b x [] (inl h) = absurd h.1
  Before-push a b x [] (inr h) = absurd h
  Before-push a b x (y ∷ ys) (inl h) = go (In-append_cases b ys (x ∷ []) h.1)
    where
      go : In b ys ⊎ In b (x ∷ []) → Before a b (y ∷ ys) ⊎ (In a (y ∷ ys) × (b ≡ x))
      go (inl i) = inl (inl (h.0, i))
      go (inr (inl e)) = inr (inl h.0, e)
      go (inr (inr z)) = absurd z
  Before-push a b x (y ∷ ys) (inr h) = go (Before-push a b x ys h)
    where
      go : Before a b ys ⊎ (In a ys × (b ≡ x)) → Before a b (y ∷ ys) ⊎ (In a (y ∷ ys) × (b ≡ x))
      go (inl k) = inl (inr k)
      go (inr k) = inr (inr k.0, k.1)

  -- what stands in a front stands before the rest
  pub Before-front : (a b : X) (xs rest : List X) → In a xs → Before a b (xs ++ b ∷ rest)
  Before-front a b [] rest i = absurd i
  Before-front a b (y ∷ ys) rest (inl e) = inl (e, In-append_right b ys (b ∷ rest) (inl refl))
  Before-front a b (y ∷ ys) rest (inr i) = inr (Before-front a b ys rest i)

pub In-push : {X : Type 0} (a x : X) (xs : List X) → In a (xs ++ x ∷ []) → In a xs ⊎ (a ≡ x)
In-push a x xs i = go (In-append_cases a xs (x ∷ []) i)
  where
    go : In a xs ⊎ In a (x ∷ []) → In a xs ⊎ (a ≡ x)
    go (inl j) = inl j
    go (inr (inl e)) = inr e
    go (inr (inr z)) = absurd z

-- a list round a place, under a function
pub map-more : {Y : Type 0} (f : ℕ → Y) (xs : List ℕ) (i : ℕ) → i < length xs
    → map f (take (i + 1) xs) ≡ map f (take i xs) ++ f (get_or xs i 0) ∷ []
map-more f xs i lt = ap (map f) (take_more xs i 0 lt) ∙ map_push f (take i xs) (get_or xs i 0)

-- what holds of the values so far and of one more holds of the values up to its place
pub one-further : (P : List ℕ → Type 0) (f : ℕ → ℕ) (xs : List ℕ) (i v : ℕ) → i < length xs
    → v ≡ f (get_or xs i 0) → P (map f (take i xs) ++ v ∷ []) → P (map f (take (i + 1) xs))
one-further P f xs i v lt value more =
    subst P (sym (map-more f xs i lt)) (subst (λ (d : ℕ). P (map f (take i xs) ++ d ∷ [])) value more)

pub map-split : {Y : Type 0} (f : ℕ → Y) (xs : List ℕ) (i : ℕ) → i < length xs →
    map f xs ≡ map f (take i xs) ++ f (get_or xs i 0) ∷ map f (drop (suc i) xs)
map-split f xs i lt =
    ap (map f) (split_at xs i (get_or xs i 0) (slice_get-get_or xs i 0 lt))
    ∙ map-append f (take i xs) (get_or xs i 0 ∷ drop (suc i) xs)

pub whole_front : {Y : Type 0} (f : ℕ → Y) (xs : List ℕ) (i : ℕ) → length xs ≤ i
    → map f (take i xs) ≡ map f xs
whole_front f xs i le = ap (map f) (take_all i xs le)

-- each value so far is below the least that may follow
pub record RiseTo (ds : List ℕ) (least : ℕ) : Type 0 where
  pub rising : IsRising ds
  pub below : (a : ℕ) → In a ds → a < least
  pub tight : (least ≡ 0) ⊎ ((a : ℕ) × In a ds × (a + 1 ≡ least))

pub rise_more : (ds : List ℕ) (least v : ℕ) → RiseTo ds least → least ≤ v → RiseTo (ds ++ v ∷ []) (v + 1)
rise_more ds least v r le = record {
  rising =
      λ a b h. elim (Before-push a b v ds h) [
        | inl k ↦ r.rising a b k
        | inr k ↦
            (let lt = r.below a k.0 in let e : b ≡ v = k.1 in omega arith)
      ];
  below = λ a i. elim (In-push a v ds i) [
    | inl j ↦ (let lt = r.below a j in omega arith)
    | inr e ↦
        omega arith
  ];
  tight = inr (v, In-append_right v ds (v ∷ []) (inl refl), refl);
}

pub rise_stop : (ds : List ℕ) (least v : ℕ) (rest : List ℕ) → RiseTo ds least → v < least
    → IsRising (ds ++ v ∷ rest) → ⊥
rise_stop ds least v rest r lt rising =
    elim r.tight [
      | inl e ↦ omega arith
      | inr k ↦
          (let more = rising k.0 v (Before-front k.0 v ds rest k.1) in let e : k.0 + 1 ≡ least = k.2 in
          omega arith)
    ]
