-- The response of an operation that there may be.
use Rattle.std.specs.Prelude.{Option, Some, None, List, []}
use Rattle.events.specs.Names.{NameBytes}
use Rattle.events.specs.Operation.{Operation}
use Rattle.events.specs.History.{History}
use Rattle.events.specs.Operations.{response}

abbrev pub response_if : History → Option Operation → List NameBytes
response_if h None = []
response_if h (Some o) = response h o
