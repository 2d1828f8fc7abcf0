use Rattle.std.proofs.Common.{◌<◌, length}
use Rattle.bit_tables.specs.Rule.{HaveDepths}
use Rattle.format_words.specs.Words.{words_behind}
use Rattle.cert_check.proofs.Noting.{State}
use Rattle.cert_check.proofs.numbered.Numbered.note_row.Given as goal

abbrev pub invariant-loop-rest : goal.invariant-loop-rest
invariant-loop-rest l = record {
  below : l.at.depth < l.unset;
  noted : State l.self.names.items l.unset (words_behind l.words) l.row.depths.items l.at.depth
      (words_behind l.rest);
  numbers : HaveDepths l.row.depths.items l.unset l.row.noted.items;
}

abbrev pub decreases-loop-rest : goal.decreases-loop-rest
decreases-loop-rest l = length l.rest
