-- The ring of a list at a place: what stands there, and what stands after it.
use Rattle.std.proofs.Common.{◌≡◌, ◌≢◌, ℕ, zero, suc, ◌+◌, ◌<◌, ◌⊎◌, inl, inr, Bool, true, false, cond, eqb}
use Rattle.std.proofs.Common.{Some, List, [], ◌∷◌, map, length, refl, sym, ◌∙◌, ap, arith, eq-eqb}
use Rattle.std.specs.Prelude.{slice_get}
use Rattle.std.proofs.lemmas.Bool.{eqb-true}
use Rattle.std.proofs.lemmas.List.{length-map}
use Rattle.events.specs.Names.{NameBytes}
use Rattle.specification.specs.Conflict.{ring, ring_from, Step}
use Rattle.cert_check.specs.Ring.{next_place}

abbrev Pair : Type 0
Pair = NameBytes × NameBytes

slice_get-map : {X Y : Type 0} (f : X → Y) (xs : List X) (i : ℕ) (x : X) → slice_get xs i ≡ Some x
    → slice_get (map f xs) i ≡ Some (f x)
slice_get-map f [] i x at = absurd Prim.cc
slice_get-map f (y ∷ xs) zero x at = let e : y ≡ x = Prim.cc in ap (λ z. Some (f z)) e
slice_get-map f (y ∷ xs) (suc i) x at = slice_get-map f xs i x at

-- in a list that begins with `last`, and is closed by `first`
ring_from-at : (first last : NameBytes) (rest : List NameBytes) (i : ℕ) (a b : NameBytes)
    → slice_get (last ∷ rest) i ≡ Some a →
    ((suc i ≡ length (last ∷ rest)) × (b ≡ first))
    ⊎ ((suc i < length (last ∷ rest)) × (slice_get (last ∷ rest) (suc i) ≡ Some b)) →
    slice_get (ring_from first last rest) i ≡ Some (a, b)
ring_from-at first last [] zero a b at (inl w) = let e : last ≡ a = Prim.cc in
    ap (λ (x : NameBytes). Some (x, first)) e ∙ ap (λ (y : NameBytes). Some (a, y)) (sym w.1)
ring_from-at first last [] zero a b at (inr w) = absurd (let lt : 1 < 1 = w.0 in omega arith)
ring_from-at first last [] (suc i) a b at which = absurd Prim.cc
ring_from-at first last (c ∷ rest) zero a b at (inl w) =
    absurd (let e : 1 ≡ suc (suc (length rest)) = w.0 in omega arith)
ring_from-at first last (c ∷ rest) zero a b at (inr w) =
    let e : last ≡ a = Prim.cc in
    let there : Some c ≡ Some b = w.1 in
    let f : c ≡ b = Prim.cc in
    ap (λ (x : NameBytes). Some (x, c)) e ∙ ap (λ (y : NameBytes). Some (a, y)) f
ring_from-at first last (c ∷ rest) (suc i) a b at (inl w) =
    ring_from-at first c rest i a b at
    (inl ((let e : suc (suc i) ≡ suc (suc (length rest)) = w.0 in omega arith), w.1))
ring_from-at first last (c ∷ rest) (suc i) a b at (inr w) =
    ring_from-at first c rest i a b at
    (inr ((let lt : suc (suc i) < suc (suc (length rest)) = w.0 in omega arith), w.1))

pub next_is : (count i : ℕ) → i < count → ((suc i ≡ count) × (next_place count i ≡ 0))
    ⊎ ((suc i < count) × (next_place count i ≡ suc i))
next_is count i lt = go (eqb (i + 1) count) refl
  where
    go : (t : Bool) → eqb (i + 1) count ≡ t → ((suc i ≡ count) × (next_place count i ≡ 0))
        ⊎ ((suc i < count) × (next_place count i ≡ suc i))
    go true e =
        let same : i + 1 ≡ count = eqb-true (i + 1) count e in
        inl (omega arith, ap (λ (t : Bool). cond t 0 (i + 1)) e)
    go false e =
        let other : i + 1 ≢ count =
        λ s. (let t : eqb (i + 1) count ≡ true = eq-eqb (i + 1) count s in
        let bad : false ≡ true = sym e ∙ t in Prim.cc) in
        let one : i + 1 ≡ suc i = omega arith in
        inr (omega arith, ap (λ (t : Bool). cond t 0 (i + 1)) e ∙ one)

-- the ring at a place
pub ring-at : (xs : List NameBytes) (i : ℕ) (a b : NameBytes) → slice_get xs i ≡ Some a → i < length xs
    → slice_get xs (next_place (length xs) i) ≡ Some b → slice_get (ring xs) i ≡ Some (a, b)
ring-at [] i a b at lt behind = absurd (omega arith)
ring-at (x ∷ xs) i a b at lt behind = ring_from-at x x xs i a b at (go (next_is (length (x ∷ xs)) i lt))
  where
    go : ((suc i ≡ length (x ∷ xs)) × (next_place (length (x ∷ xs)) i ≡ 0))
        ⊎ ((suc i < length (x ∷ xs)) × (next_place (length (x ∷ xs)) i ≡ suc i)) →
        ((suc i ≡ length (x ∷ xs)) × (b ≡ x))
        ⊎ ((suc i < length (x ∷ xs)) × (slice_get (x ∷ xs) (suc i) ≡ Some b))
    go (inl w) = inl (w.0, (let e : Some x ≡ Some b = sym (ap (slice_get (x ∷ xs)) w.1) ∙ behind in Prim.cc))
    go (inr w) = inr (w.0, sym (ap (slice_get (x ∷ xs)) w.1) ∙ behind)

abbrev pub ends : Step → NameBytes × NameBytes
ends s = (s.from, s.to)

abbrev pub begin : Step → NameBytes
begin s = s.from

-- a step ends where the next begins
pub meets-at : (steps : List Step) (i : ℕ) (s next : Step) → i < length steps → slice_get steps i ≡ Some s
    → slice_get steps (next_place (length steps) i) ≡ Some next →
    (slice_get (map ends steps) i ≡ Some (s.from, s.to))
    × (slice_get (ring (map begin steps)) i ≡ Some (s.from, next.from))
meets-at steps i s next lt at behind =
    let size : length (map begin steps) ≡ length steps = length-map {B = NameBytes} steps begin in (
      slice_get-map ends steps i s at,
      ring-at (map begin steps) i s.from next.from (slice_get-map begin steps i s at) (omega arith)
          (ap (λ (n : ℕ). slice_get (map begin steps) (next_place n i)) size
          ∙ slice_get-map begin steps (next_place (length steps) i) next behind),
    )
