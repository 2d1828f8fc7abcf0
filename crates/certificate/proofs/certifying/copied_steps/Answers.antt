use Rattle.std.proofs.Common.{sym, ap, ◌∙◌, arith}
use Rattle.std.specs.Prelude.{option_copied}
use Rattle.certificate.proofs.Copies.{copied_more, some_within}
use Rattle.certificate.proofs.certifying.copied_steps.Goals as goal

pub unreachable-requires : goal.unreachable-requires
unreachable-requires c =
    some_within c.args.steps.now c.loop-i.i (omega arith) (sym c.get.ensures
    ∙ ap option_copied c.in_default.is)

pub loop-i-preserved : goal.loop-i-preserved
loop-i-preserved c =
    copied_more c.args.steps.now c.loop-i.copies.items c.push.new.self.items c.loop-i.i c.in-Some.step.now
    (sym c.get.ensures ∙ ap option_copied c.in-Some.is) c.loop-i.invariant c.in_ok-push.ensures.items
