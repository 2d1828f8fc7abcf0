use Rattle.std.proofs.Common.{inl, inr, length, ap, arith}
use Rattle.std.proofs.lemmas.Bool.{cases_lt}
use Rattle.std.proofs.lemmas.List.{get_or_past}
use Rattle.list_rule.specs.declared.marks.Mark.{Mark}
use Rattle.list_rule.proofs.marks.forget_all.Goals as goal

pub returns : goal.returns
returns c = λ l. elim (cases_lt l (length c.loop-mark.marks)) [
  | inl low ↦ c.loop-mark.invariant l (omega arith)
  | inr past ↦
      ap (λ (m : Mark). m.row) (get_or_past c.loop-mark.marks l (record { row = 0; end = 0; behind_source = 0 })
      past)
]
