use Rattle.std.proofs.Common.{◌≤◌, length}
use Rattle.format_words.specs.Words.{words_behind}
use Rattle.cert_check.proofs.Noting.{Placed}
use Rattle.cert_check.proofs.numbered.Numbered.note_order.Given as goal

abbrev pub invariant-loop-rest : goal.invariant-loop-rest
invariant-loop-rest l = record {
  most : l.place ≤ l.count;
  placed : Placed l.self.names.items l.count (words_behind l.words) l.ranks l.place (words_behind l.rest);
}

abbrev pub decreases-loop-rest : goal.decreases-loop-rest
decreases-loop-rest l = length l.rest
