use Rattle.std.proofs.Common.{◌≡◌, ℕ, ◌+◌, ◌<◌, ◌≤◌, inl, inr, List, length, slice_index, sym, ap}
use Rattle.std.proofs.Common.{subst, ◌∙◌, arith, Some}
use Rattle.std.proofs.lemmas.Bool.{cases_eq}
use Rattle.std.proofs.lemmas.Grind.{common_steps}
use Rattle.std.proofs.lemmas.Option.{get_or_from_slice_get, slice_get-get_or, slice_get_within}
use Rattle.bit_tables.specs.Lists.{HasInOrder}
use Rattle.list_rule.proofs.parts.is_part.Goals as goal
use Rattle.list_rule.proofs.parts.is_part.Goals.{then-found-list+then-list-found, else-found-list}

-- the first places of a list have theirs in the other, before one of its places, in order
record IsFound (list whole : List ℕ) (found before : ℕ) : Type 0 where
  within : found ≤ length list
  each : (i : ℕ) → i < found → (k : ℕ) × (k < before) × (slice_index whole k ≡ slice_index list i)
  both : (i j : ℕ) → i < j → j < found
      → (k : ℕ) × (m : ℕ) × (k < m) × (m < before) × (slice_index whole k ≡ slice_index list i)
      × (slice_index whole m ≡ slice_index list j)

passed : (list whole : List ℕ) (found y : ℕ) → IsFound list whole found y → IsFound list whole found (y + 1)
passed list whole found y is = record {
  within = is.within;
  each = λ i low. let at = is.each i low in (at.0, (let lt = at.1 in omega (arith, lt)), at.2);
  both = λ i j ij low.
      let at = is.both i j ij low in (at.0, at.1, at.2, (let lt = at.3 in omega (arith, lt)), at.4, at.5);
}

one_more : (list whole : List ℕ) (found y : ℕ) → IsFound list whole found y → found < length list
    → slice_index list found ≡ slice_index whole y → IsFound list whole (found + 1) (y + 1)
one_more list whole found y is room same = record {
  within = omega arith;
  each = λ i low. elim (cases_eq i found) [
    | inl e ↦ (y, omega arith, sym same ∙ ap (slice_index list) (sym e))
    | inr other ↦
        let at = is.each i (omega (arith, low, other)) in (
          at.0,
          (let lt = at.1 in omega (arith, lt)),
          at.2,
        )
  ];
  both = λ i j ij low. elim (cases_eq j found) [
    | inl e ↦
        let at = is.each i (omega (arith, ij, e)) in (
          at.0,
          y,
          at.1,
          omega arith,
          at.2,
          sym same ∙ ap (slice_index list) (sym e),
        )
    | inr other ↦
        let at = is.both i j ij (omega (arith, low, other)) in (
          at.0,
          at.1,
          at.2,
          (let lt = at.3 in omega (arith, lt)),
          at.4,
          at.5,
        )
  ];
}

in_order : (list whole : List ℕ) (n : ℕ) → n ≤ length whole → IsFound list whole (length list) n
    → (a b : ℕ) → HasInOrder list a b → HasInOrder whole a b
in_order list whole n le is a b h =
    let there = is.both h.0 h.1 h.2 (slice_get_within list h.1 b h.4) in
    let km : there.0 < there.1 = there.2 in
    let mn : there.1 < n = there.3 in (
      there.0,
      there.1,
      km,
      slice_get-get_or whole there.0 0 (omega (arith, km, mn, le))
          ∙ ap Some (there.4 ∙ get_or_from_slice_get list h.0 a 0 h.3),
      slice_get-get_or whole there.1 0 (omega (arith, mn, le))
          ∙ ap Some (there.5 ∙ get_or_from_slice_get list h.1 b 0 h.4),
    )

pub loop-y-preserved : goal.loop-y-preserved
loop-y-preserved c =
    let list : List ℕ = c.args.list.now in
    let whole : List ℕ = c.args.whole.now in
    let found : ℕ = c.loop-y.found in
    let y : ℕ = c.loop-y.y-index in
    let inv = c.loop-y.invariant in
    let is : IsFound list whole found y =
    record { within = inv.within; each = inv.each; both = inv.both } in
    let after : IsFound list whole c.if-found-list.found (y + 1) = elim c.if-found-list.branch [
      | then-found-list+then-list-found w ↦
          let room : found < length list = omega (arith, w.if-found-list.true) in
          let same : slice_index list found ≡ slice_index whole y = grind (arith, common_steps) in
          subst (λ n. IsFound list whole n (y + 1)) (sym w.found-is) (one_more list whole found y is room same)
      | else-found-list w ↦
          subst (λ n. IsFound list whole n (y + 1)) (sym w.found-is) (passed list whole found y is)
    ] in
    record { within = after.within; each = after.each; both = after.both }

pub returns : goal.returns
returns c =
    let inv = c.loop-y.invariant in
    λ all.
    let e : c.loop-y.found ≡ length c.args.list.now = grind (arith, common_steps) in
    let is : IsFound c.args.list.now c.args.whole.now c.loop-y.found c.loop-y.y-index =
    record { within = inv.within; each = inv.each; both = inv.both } in
    in_order c.args.list.now c.args.whole.now c.loop-y.y-index (omega arith)
    (subst (λ n. IsFound c.args.list.now c.args.whole.now n c.loop-y.y-index) e is)
