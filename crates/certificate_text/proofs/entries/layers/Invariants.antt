use Rattle.std.proofs.Common.{◌≡◌, [], length}
use Rattle.format_words.specs.Words.{words_behind}
use Rattle.certificate_text.specs.Reading.{layers_at, onto_layers}
use Rattle.certificate_text.proofs.entries.layers.Given as goal

abbrev pub invariant-loop-rest : goal.invariant-loop-rest
invariant-loop-rest l =
    layers_at [] (words_behind l.fn.rest) ≡ onto_layers l.row.items
    (layers_at l.layer.items (words_behind l.rest))

abbrev pub decreases-loop-rest : goal.decreases-loop-rest
decreases-loop-rest l = length l.rest
