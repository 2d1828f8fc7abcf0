use Rattle.std.proofs.Common.{List, Vec, Global, length, sym, subst}
use Rattle.element_numbers.specs.Cuts.{rows_of}
use Rattle.list_rule.specs.Spots.{AreSpotsOf}
use Rattle.list_rule.specs.declared.spot.Spot.{Spot}
use Rattle.list_rule.proofs.Ruling.{meets}
use Rattle.list_rule.proofs.list_rule.ListRule.are_deep.Goals as goal

pub returns-clause-deep : goal.returns-clause-deep
returns-clause-deep c = (
  λ t. meets (rows_of c.args.places.now) c.args.depths.now c.args.noted.now c.args.count c.args.first
      c.args.source c.deref.result.now
      (subst (λ (s : List (Vec Spot Global)). AreSpotsOf (length c.args.depths.now) (rows_of c.args.places.now) s)
      (sym c.deref.ensures.value) c.requires.rule.spots)
      c.requires.noted c.requires.most (c.pass_row.ensures.right t),
  c.pass_row.ensures.rule,
)
