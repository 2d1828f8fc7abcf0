use Rattle.std.proofs.Common.{◌≡◌, ◌<◌, slice_index, subst, sym, arith}
use Rattle.std.proofs.lemmas.Grind.{common_steps}
use Rattle.list_search.specs.Graph.{graph_of}
use Rattle.list_search.proofs.Places.{good_marked}
use Rattle.list_search.proofs.searching.sweep.sweep.Goals as goal

pub returns-clause-good : goal.returns-clause-good
returns-clause-good c =
    let read = c.read.new.state in
    let mark : c.index-mark.result.now ≡ slice_index read.marks.items c.args.spot.list =
    grind (arith, common_steps, c.read.ensures.marks) in
    good_marked (graph_of c.args.graph.now) c.args.element c.args.spot.list c.args.spot.place read
    c.read.ensures.good c.requires.inside
    (λ j x low high stands. c.read.ensures.reached j x low (subst (λ n. j < n) (sym mark) high) stands)
    (λ e j low high stands. c.read.ensures.missed e j low (subst (λ n. j < n) (sym mark) high) stands)
