-- What rows are made along.
use Rattle.specification.specs.Responses.{Responses}
use Rattle.level_search.specs.Thinned.{IsThinned}
use Rattle.certificate.specs.AfterTables.{IsAfterTable}
use Rattle.certificate.specs.declared.ways.Way.{Way}
use Rattle.certificate.specs.declared.ways.Way.TheVariants.{Lists, Table}

-- it shows what these responses show: by lists of which those that others hold may be empty, or by a table
abbrev pub IsWay : Responses → Way → Type 0
IsWay v (Lists part) = IsThinned v part
IsWay v (Table rows) = IsAfterTable v rows
