use Rattle.std.proofs.Common.{◌≡◌, ◌-◌, ℕ, List, length, sym, subst, Some, slice_get}
use Rattle.std.specs.Prelude.{Contains}
use Rattle.std.proofs.lemmas.Option.{get_or_from_slice_get, slice_get_within}
use Rattle.bit_tables.specs.Lists.{HasInOrder}
use Rattle.element_numbers.specs.Cuts.{rows_of}
use Rattle.list_rule.proofs.kept.is_part_of_last.Goals as goal

pub returns-in-Some : goal.returns-in-Some
returns-in-Some c = λ t a b has.
    let lists = rows_of c.args.places.now in
    let last : ℕ = c.in-Some.last.now in
    let kept : List ℕ = c.args.kept.now in
    let is : Some last ≡ slice_get kept (length kept - 1) = c.in-Some.ensures.value in
    let there : Contains kept last = (
      length kept - 1,
      slice_get_within kept (length kept - 1) last (sym is),
      get_or_from_slice_get kept (length kept - 1) last last (sym is),
    ) in (
      last,
      there,
      subst (λ (l : List ℕ). HasInOrder l a b) c.row-in-Some.ensures
          (c.is_part.ensures t a b (subst (λ (l : List ℕ). HasInOrder l a b) (sym c.row.ensures) has)),
    )
