-- An insert writes one standing, and what is missing or too many differs by that one.
use Rattle.std.proofs.Common.{true, refl, rules, arith}
use Rattle.std.proofs.lemmas.Grind.{common_steps}
use Rattle.contents_check.specs.declared.standings.Standing.{Standing}
use Rattle.contents_check.proofs.Changed.{each_written}
use Rattle.contents_check.proofs.standings.Standings.insert.Goals as goal

pub returns : goal.returns
returns c = record {
  counts = refl;
  size = search rules;
  missing = grind (arith, common_steps);
  extra = grind (arith, common_steps);
  each = each_written (λ (y : Standing). record { inserted = true; deleted = y.deleted; shown = y.shown })
      _ _ _ c.requires.within c.index_mut.ensures.value;
}
