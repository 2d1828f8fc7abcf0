use Rattle.std.proofs.Common.{◌≡◌, take}
use Rattle.std.specs.Prelude.{filter_map, option_and_then}
use Rattle.events.specs.History.{inserted_name}
use Rattle.events.specs.Operations.{operation}
use Rattle.element_numbers.specs.Keys.{key_of}
use Rattle.element_numbers.proofs.name_key.NameKey.of_inserted.Given as goal

abbrev pub invariant-loop-operation : goal.invariant-loop-operation
invariant-loop-operation l =
    l.key ≡ key_of (filter_map (λ o. option_and_then inserted_name (operation l.recording o))
    (take l.operation-index l.operations))
