use Rattle.std.proofs.Common.{◌∙◌, length, ap, arith}
use Rattle.events.specs.Packed.{spaced}
use Rattle.events.proofs.response.Response.text_len.Goals as goal

pub returns : goal.returns
returns c = omega (arith, c.len.ensures, ap length (c.self.invariant.bytes_are ∙ ap spaced c.self.view_is))
