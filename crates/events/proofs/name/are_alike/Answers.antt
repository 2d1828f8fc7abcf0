-- No lane differs where the bytes are the same, and else one does.
use Rattle.std.proofs.Common.{◌∙◌, ap, arith, eqb}
use Rattle.events.proofs.SameLanes.{bits, none-is-same}
use Rattle.events.proofs.name.are_alike.Goals as goal

pub returns : goal.returns
returns c =
    ap (λ m. eqb m 0) (bits 32 c.args.a.now c.args.b.now (omega (arith, c.requires.0))
    (omega (arith, c.requires.1)) (omega arith))
    ∙ none-is-same 32 c.args.a.now c.args.b.now c.requires.0 c.requires.1 (omega arith)
