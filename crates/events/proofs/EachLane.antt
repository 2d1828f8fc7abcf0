-- Lanes that are computed one by one from those of another vector, and what holds of each byte.
use Rattle.std.proofs.Common.{◌≡◌, ◌∙◌, ℕ, zero, suc, ◌+◌, ◌<◌, ◌≤◌, ◌%◌, ◌^◌, Bool, true, false, cond, List}
use Rattle.std.proofs.Common.{[], ◌∷◌, length, map, get_or, take, refl, ap, ap₂, subst, arith, inl, inr}
use Rattle.std.specs.Prelude.{◌&&◌}
use Rattle.std.specs.List.{range_with_len, list_all}
use lib.Lanes.{top, zip2, sel_l, mask_l}
use mathlib.Core.Bool.{beq}
use Rattle.std.proofs.lemmas.Bool.{cases_lt}
use Rattle.std.proofs.lemmas.List.{length-map}
use Rattle.std.proofs.lemmas.Simd.{zip2_of_maps, map-map, mask_l-mod}

sel-maps : {X Y : Type 0} (m : X → Bool) (g h : X → Y) (vs : List X)
    → sel_l (map m vs) (map g vs) (map h vs) ≡ map (λ v. cond (m v) (g v) (h v)) vs
sel-maps m g h [] = refl
sel-maps m g h (v ∷ vs) = ap (λ l. cond (m v) (g v) (h v) ∷ l) (sel-maps m g h vs)

-- a choice at each lane
pub sel-of-maps : {X Y : Type 0} (m : X → Bool) (g h : X → Y) (vs : List X) {ms : List Bool} {xs ys : List Y}
    → ms ≡ map m vs → xs ≡ map g vs → ys ≡ map h vs
    → sel_l ms xs ys ≡ map (λ v. cond (m v) (g v) (h v)) vs
sel-of-maps m g h vs d e f = rw (d, e, f) (sel-maps m g h vs)

-- the highest bit of what is computed of two lanes
pub top-of-maps : {X : Type 0} (f : ℕ → ℕ → ℕ) (g h : X → ℕ) (vs : List X) (n : ℕ) {xs ys : List ℕ}
    → xs ≡ map g vs → ys ≡ map h vs → map (top n) (zip2 f xs ys) ≡ map (λ v. top n (f (g v) (h v))) vs
top-of-maps f g h vs n d e =
    ap (map (top n)) (zip2_of_maps f g h vs d e) ∙ map-map (top n) (λ v. f (g v) (h v)) vs

same-of-two : (a b : Bool) → beq a b ≡ true → a ≡ b
same-of-two true true e = refl
same-of-two true false e = absurd (cc)
same-of-two false true e = absurd (cc)
same-of-two false false e = refl

both : (a b : Bool) → (a && b) ≡ true → (a ≡ true) × (b ≡ true)
both true true e = (refl, refl)
both true false e = absurd (cc)
both false b e = absurd (cc)

-- what holds of all numbers from one on holds of each
of-each : (p : ℕ → Bool) (a n x : ℕ) → list_all p (range_with_len a n) ≡ true → a ≤ x → x < a + n → p x ≡ true
of-each p a zero x e h k = absurd (omega (arith, h, k))
of-each p a (suc n) x e h k =
    let two = both (p a) (list_all p (range_with_len (a + 1) n)) e in
    elim (cases_lt a x) [
      | inl more ↦ of-each p (a + 1) n x two.1 (omega (arith, more)) (omega (arith, k))
      | inr here ↦ let is : a ≡ x = omega (arith, h, here) in subst (λ y. p y ≡ true) is two.0
    ]

-- two tests that agree on all bytes agree on each byte of a list
pub map-of-bytes : (p q : ℕ → Bool) → list_all (λ x. beq (p x) (q x)) (range_with_len 0 256) ≡ true
    → (bytes : List ℕ) → ((i : ℕ) → get_or bytes i 0 < 256) → map p bytes ≡ map q bytes
map-of-bytes p q e [] h = refl
map-of-bytes p q e (x ∷ bytes) h =
    ap₂ (λ y l. y ∷ l)
    (same-of-two (p x) (q x) (of-each (λ y. beq (p y) (q y)) 0 256 x e (omega arith)
    (omega (arith, h 0)))) (map-of-bytes p q e bytes (λ i. h (suc i)))

-- the first of some bytes are bytes
pub first-bytes : (n : ℕ) (bytes : List ℕ) → ((i : ℕ) → get_or bytes i 0 < 256) → (i : ℕ)
    → get_or (take n bytes) i 0 < 256
first-bytes zero bytes h i = omega arith
first-bytes (suc n) [] h i = omega arith
first-bytes (suc n) (x ∷ bytes) h zero = h 0
first-bytes (suc n) (x ∷ bytes) h (suc i) = first-bytes n bytes (λ k. h (suc k)) i

-- the bits of a test of few bytes, which agrees with another on all bytes
pub bits-of-bytes : (p q : ℕ → Bool) (bytes : List ℕ) {lanes : List Bool} → lanes ≡ map p bytes
    → length bytes ≤ 64 → ((i : ℕ) → get_or bytes i 0 < 256)
    → list_all (λ x. beq (p x) (q x)) (range_with_len 0 256) ≡ true
    → mask_l lanes % 2 ^ 64 ≡ mask_l (map q bytes)
bits-of-bytes p q bytes is few h e =
    ap (λ l. mask_l l % 2 ^ 64) (is ∙ map-of-bytes p q e bytes h)
    ∙ mask_l-mod (map q bytes) 64 (omega (arith, few, length-map bytes q))
