use Rattle.std.proofs.Common.{◌≡◌, List, length}
use Rattle.events.specs.Names.{NameBytes}
use Rattle.format_words.specs.Words.{words_behind}
use Rattle.format_words.specs.Reading.{names_at, onto}
use Rattle.format_words.proofs.name_list.check_names.Given as goal

abbrev pub invariant-loop-rest : goal.invariant-loop-rest
invariant-loop-rest l =
    (front : List NameBytes)
    × (names_at (words_behind l.fn.rest) ≡ onto front (names_at (words_behind l.rest)))

abbrev pub decreases-loop-rest : goal.decreases-loop-rest
decreases-loop-rest l = length l.rest
