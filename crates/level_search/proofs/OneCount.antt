-- A search over a table can have made no other number of looks, by what it answers, how often it has read its
-- bound, and what it read last.
use Rattle.std.proofs.Common.{◌≡◌, ℕ, zero, suc, ◌+◌, ◌*◌, Option, Some, None, List, inl, inr, refl, sym}
use Rattle.std.proofs.Common.{ap, ◌∙◌, subst, arith}
use Rattle.std.specs.Prelude.{◌↔◌}
use Rattle.std.proofs.lemmas.Bool.{cases_lt}
use Rattle.bit_tables.specs.Sets.{Has}
use Rattle.bit_tables.proofs.SetLemmas.{Has-either}
use Rattle.level_search.specs.Balls.{IsBall, IsInLayer}
use Rattle.level_search.specs.LayerSizes.{bit, layer_size, set_size}
use Rattle.level_search.specs.Looks.{IsFirstBehind, IsLastPart, LooksAreDetermined}
use Rattle.level_search.specs.declared.tabled.sets.Sets.{Sets}
use Rattle.level_search.proofs.LayerSizes.{bit-has, bit-not}

-- two sets have the same elements
abbrev HaveSame : List ℕ → List ℕ → Type 0
HaveSame a b = (x : ℕ) → Has a x ↔ Has b x

bit-same : (a b : List ℕ) (x : ℕ) → Has a x ↔ Has b x → bit a x ≡ bit b x
bit-same a b x same = elim (Has-either a x) [
  | inl has ↦ bit-has a x has ∙ sym (bit-has b x (same.0 has))
  | inr not ↦ bit-not a x not ∙ sym (bit-not b x (λ has. not (same.1 has)))
]

size-same : (n : ℕ) (a b : List ℕ) → HaveSame a b → set_size n a ≡ set_size n b
size-same zero a b same = refl
size-same (suc n) a b same = omega (arith, size-same n a b same, bit-same a b n (same n))

layer-same : (n : ℕ) (one other : Sets) → HaveSame one.near other.near → HaveSame one.reached other.reached
    → layer_size n one ≡ layer_size n other
layer-same zero one other near reached = refl
layer-same (suc n) one other near reached =
    omega (
      arith,
      layer-same n one other near reached,
      bit-same one.near other.near n (near n),
      bit-same one.reached other.reached n (reached n),
    )

ball-same : (rows : List (List ℕ)) (s level : ℕ) (a b : List ℕ) → IsBall rows s level a
    → IsBall rows s level b → HaveSame a b
ball-same rows s level a b one other x =
    (λ has. (other x).1 ((one x).0 has), λ has. (one x).1 ((other x).0 has))

in-same : (n : ℕ) (one other : Sets) → HaveSame one.near other.near → HaveSame one.reached other.reached
    → (x : ℕ) → IsInLayer n one x → IsInLayer n other x
in-same n one other near reached x here = record {
  known = here.known;
  reached = (reached x).0 here.reached;
  not_near = λ has. here.not_near ((near x).1 has);
}

turned : (a b : List ℕ) → HaveSame a b → HaveSame b a
turned a b same x = ((same x).1, (same x).0)

-- there is one first of a layer
first-same : (n : ℕ) (rows : List (List ℕ)) (one other : Sets) (s x y : ℕ) → HaveSame one.near other.near
    → HaveSame one.reached other.reached → IsFirstBehind n rows one s x → IsFirstBehind n rows other s y
    → x ≡ y
first-same n rows one other s x y near reached a b = elim (cases_lt x y) [
  | inl less ↦ absurd (b.first x less (in-same n one other near reached x a.here) a.before)
  | inr high ↦ elim (cases_lt y x) [
    | inl less ↦
        absurd (a.first y less
        (in-same n other one (turned one.near other.near near) (turned one.reached other.reached reached) y
        b.here) b.before)
    | inr low ↦ omega (arith, high, low)
  ]
]

-- the last layer is the same
level-same : (n : ℕ) (rows : List (List ℕ)) (s low times : ℕ) (one other : Sets) (k l : ℕ)
    (answer : Option ℕ) (p q : ℕ) → IsLastPart n rows s low times one k answer p
    → IsLastPart n rows s low times other l answer q → k ≡ l
level-same n rows s low times one other k l (Some m) p q a b = omega (arith, a.0, b.0)
level-same n rows s low times one other k l None p q (inl a) (inl b) = omega (arith, a.1, b.1)
level-same n rows s low times one other k l None p q (inl a) (inr (inl b)) = omega (arith, a.1, b.1)
level-same n rows s low times one other k l None p q (inl a) (inr (inr b)) = absurd (omega (arith, a.2, b.2))
level-same n rows s low times one other k l None p q (inr (inl a)) (inl b) = omega (arith, a.1, b.1)
level-same n rows s low times one other k l None p q (inr (inl a)) (inr (inl b)) = omega (arith, a.1, b.1)
level-same n rows s low times one other k l None p q (inr (inl a)) (inr (inr b)) =
    absurd (omega (arith, a.2, b.2))
level-same n rows s low times one other k l None p q (inr (inr a)) (inl b) = absurd (omega (arith, a.2, b.2))
level-same n rows s low times one other k l None p q (inr (inr a)) (inr (inl b)) =
    absurd (omega (arith, a.2, b.2))
level-same n rows s low times one other k l None p q (inr (inr a)) (inr (inr b)) = omega (arith, a.1, b.1)

part-same : (n : ℕ) (rows : List (List ℕ)) (s low times : ℕ) (one other : Sets) (k l : ℕ)
    (answer : Option ℕ) (p q : ℕ) → HaveSame one.near other.near → HaveSame one.reached other.reached
    → IsLastPart n rows s low times one k answer p → IsLastPart n rows s low times other l answer q → p ≡ q
part-same n rows s low times one other k l (Some m) p q near reached a b =
    let same : a.1 ≡ b.1 = first-same n rows one other s a.1 b.1 near reached a.2 b.2 in
    a.3 ∙ (layer-same (a.1 + 1) one other near reached
    ∙ (ap (λ x. layer_size (x + 1) other) same ∙ sym b.3))
part-same n rows s low times one other k l None p q near reached (inl a) (inl b) = omega (arith, a.0, b.0)
part-same n rows s low times one other k l None p q near reached (inl a) (inr (inl b)) =
    absurd (omega (arith, a.2, b.2))
part-same n rows s low times one other k l None p q near reached (inl a) (inr (inr b)) =
    omega (arith, a.0, b.0)
part-same n rows s low times one other k l None p q near reached (inr (inl a)) (inl b) =
    absurd (omega (arith, a.2, b.2))
part-same n rows s low times one other k l None p q near reached (inr (inl a)) (inr (inl b)) =
    a.0 ∙ (layer-same n one other near reached ∙ sym b.0)
part-same n rows s low times one other k l None p q near reached (inr (inl a)) (inr (inr b)) =
    absurd (omega (arith, a.2, b.2))
part-same n rows s low times one other k l None p q near reached (inr (inr a)) (inl b) =
    omega (arith, a.0, b.0)
part-same n rows s low times one other k l None p q near reached (inr (inr a)) (inr (inl b)) =
    absurd (omega (arith, a.2, b.2))
part-same n rows s low times one other k l None p q near reached (inr (inr a)) (inr (inr b)) =
    omega (arith, a.0, b.0)

pub looks_are_determined : LooksAreDetermined
looks_are_determined n rows s low times one other answer a b p q =
    let level : p.level ≡ q.level =
    level-same n rows s low times one other p.level q.level answer p.part q.part p.is_part q.is_part in
    let near : HaveSame one.near other.near =
    ball-same rows s p.level one.near other.near p.near
    (subst (λ k. IsBall rows s k other.near) (sym level) q.near) in
    let reached : HaveSame one.reached other.reached =
    ball-same rows s (p.level + 1) one.reached other.reached p.reached
    (subst (λ k. IsBall rows s (k + 1) other.reached) (sym level) q.reached) in
    let sizes : set_size n one.near ≡ set_size n other.near = size-same n one.near other.near near in
    let parts : p.part ≡ q.part =
    part-same n rows s low times one other p.level q.level answer p.part q.part near reached p.is_part
    q.is_part in
    let sum : a ≡ 2 * set_size n one.near + p.part = p.is_sum in
    let other_sum : b ≡ 2 * set_size n other.near + q.part = q.is_sum in
    omega (arith, sizes, parts, sum, other_sum)
