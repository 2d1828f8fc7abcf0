-- One operation more.
use Rattle.std.proofs.Common.{ℕ, List, [], ◌∷◌, ◌++◌, take, sym, ◌∙◌, ap}
use Rattle.std.specs.Prelude.{filter_map, option_and_then}
use Rattle.std.specs.List.{cons_option}
use Rattle.std.proofs.lemmas.List.Elements.{filter_map-append}
use Rattle.events.specs.Operation.{Operation}
use Rattle.events.specs.History.{inserted_name}
use Rattle.events.specs.Operations.{operation}
use Rattle.element_numbers.proofs.OneMore.{take-next}
use Rattle.element_numbers.proofs.names.inserted_names.Goals as goal

pub loop-operation-preserved : goal.loop-operation-preserved
loop-operation-preserved c =
    let f = λ (o : Operation). option_and_then inserted_name (operation c.args.recording.now o) in
    let k : ℕ = c.loop-operation.operation-index in
    let xs : List Operation = c.args.operations.now in
    let o : Operation = c.operation-item.result in
    c.in_ok-add_inserted.ensures ∙ ap (λ l. l ++ cons_option (f o) []) c.loop-operation.invariant
    ∙ sym (filter_map-append f (take k xs) (o ∷ []))
    ∙ ap (filter_map f) (sym (take-next xs k o c.loop-operation-test.true c.operation-item.is))
