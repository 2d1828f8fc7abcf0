-- All operations are a part of themselves.
use Rattle.std.proofs.Common.{List, sym, subst}
use Rattle.events.specs.Operation.{Operation}
use Rattle.events.specs.Operations.{operation_names}
use Rattle.element_numbers.specs.Covering.{IsPart}
use Rattle.element_numbers.proofs.Parts.{part-all}
use Rattle.order_graph.proofs.order_graph.OrderGraph.of.Goals as goal

pub on-requires-clause-part : goal.on-requires-clause-part
on-requires-clause-part c =
    let all : List Operation = operation_names c.args.recording.now in
    subst (λ (l : List Operation). IsPart l all) (sym c.in_ok-shown.ensures.names) (part-all all)
