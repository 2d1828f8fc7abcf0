use Rattle.std.proofs.Common.{◌≡◌, take}
use Rattle.element_numbers.specs.Keys.{key_of}
use Rattle.element_numbers.proofs.name_key.NameKey.of.Given as goal

abbrev pub invariant-loop-name : goal.invariant-loop-name
invariant-loop-name l = l.key ≡ key_of (take l.name-index l.names)
