-- Sizes of sets and layers: one element more, and what the next set of near elements has; and counts of
-- looks.
use Rattle.std.proofs.Common.{◌≡◌, ℕ, zero, suc, ◌+◌, ◌-◌, ◌<◌, ◌≤◌, ◌⊎◌, List, add-one, inl, inr, sym}
use Rattle.std.proofs.Common.{ap, ◌∙◌, arith}
use Rattle.std.specs.Prelude.{◌↔◌}
use Rattle.std.proofs.lemmas.Bool.{cases_lt}
use Rattle.std.proofs.lemmas.Nat.Bits.{bit_at-lt}
use Rattle.bit_tables.specs.Sets.{Has}
use Rattle.bit_tables.proofs.SetLemmas.{Has-either}
use Rattle.order_graph.specs.Lists.{ticked}
use Rattle.level_search.specs.LayerSizes.{bit, counted, set_size, layer_size}
use Rattle.level_search.specs.declared.tabled.sets.Sets.{Sets}

bit-low : (set : List ℕ) (x : ℕ) → bit set x < 2
bit-low set x = bit_at-lt _ _

pub bit-has : (set : List ℕ) (x : ℕ) → Has set x → bit set x ≡ 1
unfolding Has
bit-has set x has = has

pub bit-not : (set : List ℕ) (x : ℕ) → ¬ Has set x → bit set x ≡ 0
unfolding Has
bit-not set x not = elim (cases_lt (bit set x) 1) [
  | inl low ↦ omega (arith, low)
  | inr high ↦ absurd (not (let two = bit-low set x in omega (arith, high, two)))
]

-- one element of the layer more
pub layer-more : (sets : Sets) (x : ℕ) → Has sets.reached x → ¬ Has sets.near x
    → layer_size (x + 1) sets ≡ layer_size x sets + 1
layer-more sets x reached not_near =
    let next : x + 1 ≡ suc x = omega arith in
    ap (λ n. layer_size n sets) next
    ∙ omega (arith, bit-has sets.reached x reached, bit-not sets.near x not_near)

out-of-layer : (sets : Sets) (x : ℕ) → (Has sets.reached x → Has sets.near x)
    → bit sets.reached x - bit sets.near x ≡ 0
out-of-layer sets x goes = elim (Has-either sets.reached x) [
  | inl has ↦ omega (arith, bit-has sets.near x (goes has), bit-low sets.reached x)
  | inr not ↦ omega (arith, bit-not sets.reached x not)
]

-- up to the next element of the layer none is added
pub layer-gap : (sets : Sets) (from x : ℕ) → from ≤ x → ((y : ℕ) → from ≤ y → y < x → Has sets.reached y
    → Has sets.near y) → layer_size x sets ≡ layer_size from sets
layer-gap sets from zero le none = let e : zero ≡ from = omega (arith, le) in ap (λ n. layer_size n sets) e
layer-gap sets from (suc x) le none = elim (cases_lt x from) [
  | inl lt ↦ let e : suc x ≡ from = omega (arith, le, lt) in ap (λ n. layer_size n sets) e
  | inr ge ↦
      omega (
        arith,
        layer-gap sets from x ge (λ y low high. none y low (omega (arith, high))),
        out-of-layer sets x (none x ge (omega arith)),
      )
]

pub layer-up : (sets : Sets) (m n : ℕ) → m ≤ n → layer_size m sets ≤ layer_size n sets
layer-up sets m zero le = let e : m ≡ zero = omega (arith, le) in omega (arith, ap (λ k. layer_size k sets) e)
layer-up sets m (suc n) le = elim (cases_lt n m) [
  | inl lt ↦ let e : m ≡ suc n = omega (arith, le, lt) in omega (arith, ap (λ k. layer_size k sets) e)
  | inr ge ↦ omega (arith, layer-up sets m n ge)
]

-- what is near and the layer are apart
pub sizes-within : (n : ℕ) (sets : Sets) → set_size n sets.near + layer_size n sets ≤ n
sizes-within zero sets = omega arith
sizes-within (suc n) sets = omega (arith, sizes-within n sets, bit-low sets.near n, bit-low sets.reached n)

bits-together : (sets : Sets) (new : List ℕ) (x : ℕ) → Has new x ↔ (Has sets.near x ⊎ Has sets.reached x)
    → bit new x ≡ bit sets.near x + (bit sets.reached x - bit sets.near x)
bits-together sets new x is = elim (Has-either sets.near x) [
  | inl near ↦
      omega (arith, bit-has new x (is.1 (inl near)), bit-has sets.near x near, bit-low sets.reached x)
  | inr far ↦ elim (Has-either sets.reached x) [
    | inl reached ↦
        omega (
          arith,
          bit-has new x (is.1 (inr reached)),
          bit-not sets.near x far,
          bit-has sets.reached x reached,
        )
    | inr not ↦
        omega (
          arith,
          bit-not new x (λ has. elim (is.0 has) [ inl a ↦ far a | inr b ↦ not b ]),
          bit-not sets.near x far,
          bit-not sets.reached x not,
        )
  ]
]

-- together they are what is near next
pub near-next : (n : ℕ) (sets : Sets) (new : List ℕ)
    → ((x : ℕ) → Has new x ↔ (Has sets.near x ⊎ Has sets.reached x))
    → set_size n new ≡ set_size n sets.near + layer_size n sets
near-next zero sets new is = omega arith
near-next (suc n) sets new is = omega (arith, near-next n sets new is, bits-together sets new n (is n))

pub near-none : (n : ℕ) (set : List ℕ) → ((x : ℕ) → ¬ Has set x) → set_size n set ≡ 0
near-none zero set none = omega arith
near-none (suc n) set none = omega (arith, near-none n set none, bit-not set n (none n))

-- one look more
pub counted-next : (k next old : ℕ) → next ≡ k + 1 → ticked (counted k old) ≡ counted next old
counted-next k next old is = ap (λ n. counted n old) (sym (is ∙ add-one k))

-- one look more, at the next element of the layer after a gap
pub looked-next : (sets : Sets) (from x old was new : ℕ) → from ≤ x
    → ((y : ℕ) → from ≤ y → y < x → Has sets.reached y → Has sets.near y)
    → Has sets.reached x → ¬ Has sets.near x → was ≡ counted (layer_size from sets) old → new ≡ ticked was
    → new ≡ counted (layer_size (x + 1) sets) old
looked-next sets from x old was new le none reached not_near looked more =
    more ∙ ap ticked looked ∙ counted-next _ _ old
    (omega (arith, layer-gap sets from x le none, layer-more sets x reached not_near))

pub counted-plus : (m n old : ℕ) → counted m (counted n old) ≡ counted (n + m) old
counted-plus zero n old = let e : n ≡ n + zero = omega arith in ap (λ k. counted k old) e
counted-plus (suc m) n old =
    ap ticked (counted-plus m n old) ∙ counted-next (n + m) (n + suc m) old (omega arith)

pub counted-most : (k old : ℕ) → counted k old ≤ old + k
counted-most zero old = omega arith
counted-most (suc k) old = omega (arith, counted-most k old)

pub looked-more : (a b old was new : ℕ) → was ≡ counted a old → new ≡ counted b was
    → new ≡ counted (a + b) old
looked-more a b old was new first then = then ∙ ap (counted b) first ∙ counted-plus b a old

pub looked-as : (a b old new : ℕ) → new ≡ counted a old → a ≡ b → new ≡ counted b old
looked-as a b old new is same = is ∙ ap (λ k. counted k old) same

pub looked-within : (k most old new : ℕ) → new ≡ counted k old → k ≤ most → new ≤ old + most
looked-within k most old new is less = omega (arith, is, less, counted-most k old)
