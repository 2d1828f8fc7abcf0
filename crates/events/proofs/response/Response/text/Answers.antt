use Rattle.std.proofs.Common.{◌∙◌, ap}
use Rattle.events.specs.Packed.{spaced}
use Rattle.events.proofs.response.Response.text.Goals as goal

pub returns : goal.returns
returns c = c.as_slice.ensures.value ∙ c.self.invariant.bytes_are ∙ ap spaced c.self.view_is
