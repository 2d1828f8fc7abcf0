use Rattle.std.proofs.Common.{◌≡◌, drop, length, map, take}
use Rattle.events.specs.Operations.{response}
use Rattle.specification.specs.Elements.{numbers_in}
use Rattle.element_numbers.specs.Cuts.{rows_of, IsCut}
use Rattle.element_numbers.specs.Runs.{response_if}
use Rattle.element_numbers.proofs.places.places_of.Given as goal

abbrev pub invariant-loop-operation : goal.invariant-loop-operation
invariant-loop-operation l = record {
  last : take (length (response_if l.recording l.last)) (drop l.begin l.places.items.items)
      ≡ numbers_in l.names (response_if l.recording l.last);
  cut : IsCut l.places;
  rows : rows_of l.places ≡ map (λ o. numbers_in l.names (response l.recording o))
      (take l.operation-index l.operations);
}
