use Rattle.std.proofs.Common.{◌≡◌, ◌++◌, take}
use Rattle.specification.specs.Lines.{names_text}
use Rattle.format_words.proofs.verdicts.push_list.Given as goal

abbrev pub invariant-loop-name : goal.invariant-loop-name
invariant-loop-name l = l.text.items ≡ l.fn.text.items ++ names_text (take l.name-index l.names)
