-- What is known of a recording before cycles are searched for.
use Rattle.std.specs.Prelude.{length}
use Rattle.events.specs.History.{History}
use Rattle.specification.specs.Faults.{IsSound}
use Rattle.specification.specs.Orders.{HasNoOrder}
use Rattle.specification.specs.Responses.{responses_of}
use Rattle.specification.specs.Verdict.{IsVerdict}
use Rattle.order_graph.specs.Covers.{IsCoveredBy}
use Rattle.order_graph.specs.Lists.{lists_of}
use Rattle.witness_order.specs.Edges.{AreEdgesOf}
use Rattle.verdict.specs.VerdictOf.{IsRefusal, verdict_of}
use Rattle.verdict.specs.declared.judging.Sifted.{Sifted}
use Rattle.verdict.specs.declared.judging.Sifted.TheVariants.{Settled, Cyclic}

-- this is the verdict, and no refusal; or the recording is sound, and no order follows its responses, of which
-- these are the edges
abbrev pub IsSifted : History → Sifted → Type 0
IsSifted h (Settled v) = IsVerdict h (verdict_of v) × (¬ IsRefusal (verdict_of v))
IsSifted h (Cyclic graph successors) =
    IsSound h × IsCoveredBy (responses_of h) graph × HasNoOrder graph
    × AreEdgesOf (lists_of graph) (length graph.elements) successors
