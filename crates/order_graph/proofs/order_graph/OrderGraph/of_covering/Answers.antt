-- What is kept of these operations reads as their responses, which cover those of all.
use Rattle.std.proofs.Common.{◌≡◌, ℕ, List, sym, ◌∙◌, ap, subst}
use Rattle.events.specs.Names.{NameBytes}
use Rattle.events.specs.Operation.{Operation}
use Rattle.events.specs.History.{History}
use Rattle.specification.specs.Elements.{elements}
use Rattle.specification.specs.Responses.{Responses, responses_of}
use Rattle.element_numbers.specs.Cuts.{rows_of}
use Rattle.order_graph.specs.Covers.{IsCoveredBy}
use Rattle.order_graph.specs.Kept.{AreListed}
use Rattle.order_graph.proofs.Covers.{covers-all}
use Rattle.order_graph.proofs.Made.{answers, kept-is, kept-lists, kept-proper, kept-few, kept-count}
use Rattle.order_graph.proofs.order_graph.OrderGraph.of_covering.Goals as goal

rows-are : (h : History) (names : List NameBytes) (shown : List Operation) (rows : List (List ℕ))
    → names ≡ elements h
    → rows ≡ answers h (elements h) shown → rows ≡ answers h names shown
rows-are h names shown rows e is = is ∙ ap (λ n. answers h n shown) (sym e)

pub invariant_of-result : goal.invariant_of-result
invariant_of-result c =
    let h = c.args.recording.now in
    let legal = c.replicas.ensures.legal in
    let sound = c.requires.sound in
    let covers = c.requires.numbered.covers in
    let part = covers.operations.part in
    let names : List NameBytes = c.args.numbered.names.items in
    let shown : List Operation = c.args.numbered.covering.operations.items in
    let rows : List (List ℕ) = rows_of c.args.numbered.covering.rows in
    let is : names ≡ elements h = c.requires.numbered.names in
    let rows_is = rows-are h names shown rows is covers.rows.rows_are in
    let listed : AreListed names shown c.args.numbered.covering.rows = record {
      proper = kept-proper h legal sound names shown rows is part rows_is;
      few = kept-few h legal sound names shown rows is part rows_is;
      places_cut = covers.rows.cut;
      lists_are = kept-lists h legal sound names shown rows is part rows_is;
      count = kept-count h legal sound names shown rows is part rows_is;
    } in
    record { listed = listed; spots_are = tt }

pub returns : goal.returns
returns c =
    let h = c.args.recording.now in
    let covers = c.requires.numbered.covers in
    let names : List NameBytes = c.args.numbered.names.items in
    let shown : List Operation = c.args.numbered.covering.operations.items in
    let rows : List (List ℕ) = rows_of c.args.numbered.covering.rows in
    let is : names ≡ elements h = c.requires.numbered.names in
    let kept =
    kept-is h c.replicas.ensures.legal c.requires.sound names shown rows is covers.operations.part
    (rows-are h names shown rows is covers.rows.rows_are) in
    subst (λ (w : Responses). IsCoveredBy (responses_of h) w) (sym kept)
    (covers-all h shown covers.operations)
