-- No name yet, and then what one operation more inserts.
use Rattle.std.proofs.Common.{ℕ, List, [], ◌∷◌, take, sym, ◌∙◌, ap}
use Rattle.std.specs.Prelude.{filter_map, fold, option_and_then}
use Rattle.std.specs.List.{cons_option}
use Rattle.std.proofs.lemmas.List.Elements.{filter_map-append}
use Rattle.events.specs.Operation.{Operation}
use Rattle.events.specs.History.{inserted_name}
use Rattle.events.specs.Operations.{operation}
use Rattle.element_numbers.specs.Keys.{key_of, key_with}
use Rattle.element_numbers.proofs.Keys.{key-none, key-more}
use Rattle.element_numbers.proofs.OneMore.{take-next}
use Rattle.element_numbers.proofs.name_key.NameKey.of_inserted.Goals as goal

pub loop-operation-init : goal.loop-operation-init
loop-operation-init c = c.new-key.ensures ∙ key-none

pub loop-operation-preserved : goal.loop-operation-preserved
loop-operation-preserved c =
    let f = λ (o : Operation). option_and_then inserted_name (operation c.args.recording.now o) in
    let k : ℕ = c.loop-operation.operation-index in
    let xs : List Operation = c.args.operations.now in
    let o : Operation = c.operation-item.result in
    c.add_inserted.ensures ∙ ap (λ key. fold key_with key (cons_option (f o) [])) c.loop-operation.invariant
    ∙ sym (key-more (filter_map f (take k xs)) (cons_option (f o) []))
    ∙ ap key_of (sym (filter_map-append f (take k xs) (o ∷ [])))
    ∙ ap (λ some. key_of (filter_map f some))
    (sym (take-next xs k o c.loop-operation-test.true c.operation-item.is))
