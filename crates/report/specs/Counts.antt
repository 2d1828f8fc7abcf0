-- What operations insert.
use Rattle.std.specs.Prelude.{List, filter_map, option_and_then}
use Rattle.events.specs.Names.{NameBytes}
use Rattle.events.specs.Operation.{Operation}
use Rattle.events.specs.History.{History, inserted_name}
use Rattle.events.specs.Operations.{operation}

-- the names that these operations insert
abbrev pub inserted_by : History → List Operation → List NameBytes
inserted_by h = filter_map (λ o. option_and_then inserted_name (operation h o))
