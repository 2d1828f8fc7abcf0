use Rattle.std.proofs.Common.{◌≡◌, ◌<◌, inl, inr, length, subst, arith}
use Rattle.std.proofs.lemmas.Bool.{cases_eq}
use Rattle.bit_tables.specs.Lists.{HasInOrder}
use Rattle.element_numbers.specs.Cuts.{rows_of}
use Rattle.element_numbers.proofs.Cuts.{length-rows}
use Rattle.list_rule.specs.Spots.{row}
use Rattle.list_rule.proofs.kept.kept_lists.Goals as goal

pub overflow_cast-list : goal.overflow_cast-list
overflow_cast-list c =
    let t = c.args.places.now in omega (arith, length-rows t, c.requires.few)

pub loop-list-preserved : goal.loop-list-preserved
loop-list-preserved c =
    let t = c.args.places.now in
    let within : c.loop-list.list < length (rows_of t) = omega (arith, length-rows t) in
    record {
      known = λ m has. elim (c.in_ok-keep.ensures.known m has) [
        | inl old ↦ c.loop-list.invariant.known m old
        | inr e ↦ subst (λ n. n < length (rows_of t)) (let sym_e : c.loop-list.list ≡ m = omega (arith, e) in sym_e) within
      ];
      shown = λ m a b low has. elim (cases_eq m c.loop-list.list) [
        | inl e ↦
            c.in_ok-keep.ensures.shown a b
            (inr (subst (λ n. HasInOrder (row (rows_of t) n) a b) e has))
        | inr other ↦
            c.in_ok-keep.ensures.shown a b
            (inl (c.loop-list.invariant.shown m a b (omega (arith, low, other)) has))
      ];
    }

pub returns-clause-shown : goal.returns-clause-shown
returns-clause-shown c = λ a b shown.
    let t = c.args.places.now in
    c.loop-list.invariant.shown shown.0 a b
    (let lt = shown.1 in omega (arith, lt, length-rows t)) shown.2
