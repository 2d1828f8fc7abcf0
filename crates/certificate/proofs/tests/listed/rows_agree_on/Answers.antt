use Rattle.std.proofs.Common.{ap, sym, subst}
use Rattle.specification.specs.Responses.{Responses}
use Rattle.level_search.specs.Thinned.{IsThinned}
use Rattle.list_layers.specs.View.{LayersView}
use Rattle.certificate.proofs.tests.listed.rows_agree_on.Goals as goal

pub loop-source-init : goal.loop-source-init
loop-source-init c =
    subst (λ (w : Responses). IsThinned c.args.graph.now w)
    (sym (ap (λ (w : LayersView). w.graph) c.in_ok-lists.ensures)) c.requires.part

pub loop-source-preserved : goal.loop-source-preserved
loop-source-preserved c =
    subst (λ (w : Responses). IsThinned c.args.graph.now w) (sym c.row_by_lists.ensures.graph)
    c.loop-source.invariant
