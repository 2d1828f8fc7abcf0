use Rattle.std.proofs.Common.{◌≡◌, ℕ, ◌≤◌, ◌+◌, List, refl, slice_index, subst, sym, arith}
use Rattle.std.specs.Vec.{with_item}
use Rattle.std.proofs.lemmas.Grind.{common_steps}
use Rattle.order_graph.specs.Lists.{lists_of, row}
use Rattle.list_search.specs.Graph.{graph_of}
use Rattle.list_layers.specs.Progress.{Grows, IsSeen, StandsWithin}
use Rattle.list_layers.proofs.Marking.{goes_swept, good_swept}
use Rattle.list_layers.proofs.sweep.sweep.Goals as goal

-- the mark that was
mark_is : (c : goal.After-state-1) → c.index-mark.result.now
    ≡ slice_index c.args.state.now.marks.items c.args.spot.list
mark_is c = grind (arith, common_steps)

-- what was entered is of the graph's list, up to that mark
grew : (c : goal.After-state-1)
    → Grows (StandsWithin (row (lists_of c.args.graph.now) c.args.spot.list) (c.args.spot.place + 1)
    (slice_index c.args.state.now.marks.items c.args.spot.list))
    c.args.first c.args.state.now.seen.items c.args.next.now.items c.read.new.seen.items c.read.new.next.items
grew c =
    subst (λ (l : List ℕ). Grows (StandsWithin l (c.args.spot.place + 1)
    (slice_index c.args.state.now.marks.items c.args.spot.list)) c.args.first c.args.state.now.seen.items
    c.args.next.now.items c.read.new.seen.items c.read.new.next.items) c.list.ensures.value
    (subst (λ (to : ℕ). Grows (StandsWithin c.list.result.now (c.args.spot.place + 1) to) c.args.first
    c.args.state.now.seen.items c.args.next.now.items c.read.new.seen.items c.read.new.next.items)
    (mark_is c) c.in_ok-read.ensures.grows)

pub returns-clause-good : goal.returns-clause-good
returns-clause-good c =
    good_swept (graph_of c.args.graph.now) c.args.first c.args.spot.list c.args.spot.place c.args.state.now
    (record {
      marks = with_item c.args.state.now.marks c.args.spot.list (c.args.spot.place + 1);
      seen = c.read.new.seen;
      looked = c.add.new.self;
    }) c.args.next.now.items c.read.new.next.items c.requires.good c.requires.inside
    (let is = mark_is c in omega (arith, is)) refl refl c.in_ok-read.ensures.places (grew c)
    (λ j low high counts.
    subst (λ (l : List ℕ). IsSeen c.read.new.seen.items (slice_index l j)) c.list.ensures.value
    (c.in_ok-read.ensures.seen j low (let is = mark_is c in omega (arith, is, high))
    (subst (λ (l : List ℕ). c.args.first ≤ slice_index l j) (sym c.list.ensures.value) counts)))

pub returns-clause-goes : goal.returns-clause-goes
returns-clause-goes c =
    goes_swept (graph_of c.args.graph.now) c.args.first c.args.spot.list c.args.spot.place c.args.state.now
    (record {
      marks = with_item c.args.state.now.marks c.args.spot.list (c.args.spot.place + 1);
      seen = c.read.new.seen;
      looked = c.add.new.self;
    }) c.args.next.now.items c.read.new.next.items c.requires.good c.requires.inside
    (let is = mark_is c in omega (arith, is)) refl refl c.in_ok-read.ensures.places (grew c)
