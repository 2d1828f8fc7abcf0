use Rattle.std.proofs.Common.{◌≡◌, length}
use Rattle.format_words.specs.Words.{words_behind}
use Rattle.format_words.specs.Reading.{names_at, onto}
use Rattle.format_words.proofs.name_list.grown_response.Given as goal

abbrev pub invariant-loop-rest : goal.invariant-loop-rest
invariant-loop-rest l = names_at (words_behind l.fn.rest) ≡ onto l.names (names_at (words_behind l.rest))

abbrev pub decreases-loop-rest : goal.decreases-loop-rest
decreases-loop-rest l = length l.rest
