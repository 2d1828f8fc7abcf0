-- One number more, if it has a new one.
use Rattle.std.proofs.Common.{ℕ, ◌++◌, Option, None, List, [], ◌∷◌, get_or, take, sym, ◌∙◌, ap, append_assoc}
use Rattle.std.specs.Prelude.{filter_map}
use Rattle.std.specs.List.{cons_option}
use Rattle.std.proofs.lemmas.List.{take_more}
use Rattle.std.proofs.lemmas.List.Elements.{filter_map-append}
use Rattle.order_graph.specs.Renumbered.{numbers_left}
use Rattle.order_graph.proofs.narrowing.add_left.Goals as goal

pub loop-x-preserved : goal.loop-x-preserved
loop-x-preserved c =
    let row : List ℕ = c.args.row.now in
    let anew : List (Option ℕ) = c.args.anew.now in
    let old : List ℕ = c.args.items.now.items in
    let k : ℕ = c.loop-x.x-index in
    let x : ℕ = get_or row k 0 in
    let number : Option ℕ = get_or anew x None in
    let f = λ (x : ℕ). get_or anew x None in
    c.in_ok-add_number.ensures ∙ ap (λ l. l ++ cons_option number []) c.loop-x.invariant
    ∙ append_assoc old (numbers_left anew (take k row)) (cons_option number [])
    ∙ ap (λ l. old ++ l) (sym (filter_map-append f (take k row) (x ∷ []))
    ∙ ap (filter_map f) (sym (take_more row k 0 c.loop-x-test.true)))
