use Rattle.std.proofs.Common.{◌≡◌, ◌+◌, ◌≤◌, List, [], length}
use Rattle.events.specs.Names.{NameBytes}
use Rattle.specification.specs.LayerRule.{Row}
use Rattle.format_words.specs.Words.{words_behind}
use Rattle.certificate_text.specs.Reading.{layers_at, onto_layers, HasForm}
use Rattle.certificate_text.proofs.entries.form_of.Given as goal

abbrev pub invariant-loop-rest : goal.invariant-loop-rest
invariant-loop-rest l = record {
  small : l.form.0 + l.form.1 + length l.rest ≤ length l.fn.rest;
  counted : (row : Row) × (layer : List NameBytes) × HasForm row layer l.form
      × (layers_at [] (words_behind l.fn.rest) ≡ onto_layers row (layers_at layer (words_behind l.rest)));
}

abbrev pub decreases-loop-rest : goal.decreases-loop-rest
decreases-loop-rest l = length l.rest
