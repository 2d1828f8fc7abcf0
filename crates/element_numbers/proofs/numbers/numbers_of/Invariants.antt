use Rattle.std.proofs.Common.{◌≡◌, ◌==◌, take}
use Rattle.std.specs.Cmp.Lexicographic.{pointwise}
use Rattle.indexmap.specs.IndexMap.{get, hasher_of}
use Rattle.events.specs.Names.{NameBytes}
use Rattle.specification.specs.Elements.{number_in}
use Rattle.element_numbers.specs.Keys.{key_of}
use Rattle.element_numbers.proofs.numbers.numbers_of.Given as goal

abbrev pub invariant-loop-i : goal.invariant-loop-i
invariant-loop-i l = ((a : NameBytes) → get (pointwise ◌==◌) l.numbers a ≡ number_in (take l.i l.names) a)
    × (hasher_of l.numbers ≡ key_of l.names)
