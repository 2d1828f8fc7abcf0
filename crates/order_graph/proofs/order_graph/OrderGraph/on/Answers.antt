-- What is kept of these operations reads as their responses.
use Rattle.std.proofs.Common.{◌≡◌, ℕ, List, ◌∙◌, ap}
use Rattle.std.proofs.lemmas.Result.{IfOk-weaker}
use Rattle.events.specs.Names.{NameBytes}
use Rattle.events.specs.Operation.{Operation}
use Rattle.events.specs.History.{History}
use Rattle.element_numbers.proofs.Elements.{distinct-names, few-names}
use Rattle.element_numbers.specs.Cuts.{rows_of}
use Rattle.order_graph.proofs.Made.{answers, kept-is, kept-lists, kept-proper, kept-few, kept-count}
use Rattle.order_graph.proofs.order_graph.OrderGraph.on.Goals as goal

rows-are : (h : History) (names lent : List NameBytes) (shown all : List Operation) (rows : List (List ℕ))
    → lent ≡ names → all ≡ shown
    → rows ≡ answers h lent all → rows ≡ answers h names shown
rows-are h names lent shown all rows e f is = is ∙ ap (λ n. answers h n all) e ∙ ap (answers h names) f

pub numbers_of-requires-clause-distinct : goal.numbers_of-requires-clause-distinct
numbers_of-requires-clause-distinct c =
    distinct-names c.args.recording.now c.replicas.ensures.legal c.requires.sound c.deref.result.now
    (c.deref.ensures.value ∙ c.requires.names)

pub numbers_of-requires-clause-few : goal.numbers_of-requires-clause-few
numbers_of-requires-clause-few c =
    few-names c.args.recording.now c.replicas.ensures.legal c.requires.sound c.deref.result.now
    (c.deref.ensures.value ∙ c.requires.names)

pub places_of-requires-clause-few : goal.places_of-requires-clause-few
places_of-requires-clause-few c =
    few-names c.args.recording.now c.replicas.ensures.legal c.requires.sound c.deref-3.result.now
    (c.deref-3.ensures.value ∙ c.requires.names)

pub with_spots-requires : goal.with_spots-requires
with_spots-requires c =
    let h = c.args.recording.now in
    let legal = c.replicas.ensures.legal in
    let sound = c.requires.sound in
    let part = c.requires.part in
    let names : List NameBytes = c.args.names.items in
    let shown : List Operation = c.args.shown.items in
    let rows : List (List ℕ) = rows_of c.in_ok-places.places in
    let is = c.requires.names in
    let rows_is =
    rows-are h names c.deref-3.result.now shown c.deref-2.result.now rows c.deref-3.ensures.value
    c.deref-2.ensures.value c.in_ok-places.ensures.rows in
    record {
      proper = kept-proper h legal sound names shown rows is part rows_is;
      few = kept-few h legal sound names shown rows is part rows_is;
      places_cut = c.in_ok-places.ensures.cut;
      lists_are = kept-lists h legal sound names shown rows is part rows_is;
      count = kept-count h legal sound names shown rows is part rows_is;
    }

pub returns : goal.returns
returns c =
    IfOk-weaker c.with_spots.result _ _ (λ g is. is
    ∙ kept-is c.args.recording.now c.replicas.ensures.legal c.requires.sound c.args.names.items
    c.args.shown.items (rows_of c.in_ok-places.places) c.requires.names c.requires.part
    (rows-are c.args.recording.now c.args.names.items c.deref-3.result.now c.args.shown.items
    c.deref-2.result.now (rows_of c.in_ok-places.places) c.deref-3.ensures.value c.deref-2.ensures.value
    c.in_ok-places.ensures.rows))
    c.with_spots.ensures
