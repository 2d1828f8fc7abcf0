-- Responses in the other direction.
use Rattle.std.specs.Prelude.{map, reverse}
use Rattle.specification.specs.Responses.{Responses}

-- the same elements and operations, where each response has its last element first
abbrev pub turned : Responses → Responses
turned v = record {
  elements = v.elements;
  returned = map (λ r. record { by = r.by; names = reverse r.names }) v.returned;
}
