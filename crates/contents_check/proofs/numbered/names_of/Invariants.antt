use Rattle.std.proofs.Common.{◌≡◌, map, take}
use Rattle.contents_check.proofs.numbered.names_of.Given as goal

abbrev pub invariant-loop-element : goal.invariant-loop-element
invariant-loop-element l = l.names.items ≡ map (λ x. x.name) (take l.element-index l.list)
