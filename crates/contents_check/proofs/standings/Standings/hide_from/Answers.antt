-- One name less is shown each time.
use Rattle.std.proofs.Common.{arith}
use Rattle.contents_check.proofs.Noting.{notes-on}
use Rattle.contents_check.proofs.RowNumbers.{later-drop}
use Rattle.contents_check.proofs.standings.Standings.hide_from.Goals as goal

pub hide-requires-clause-known : goal.hide-requires-clause-known
hide-requires-clause-known c =
    λ a i. c.requires.known a (later-drop c.args.last.now c.args.j c.loop-k.k a (omega arith) i)

pub loop-k-preserved : goal.loop-k-preserved
loop-k-preserved c = record {
  notes = notes-on c.loop-k.invariant.notes c.hide.ensures.notes;
  shown = λ front just. c.hide.ensures.shown front (c.loop-k.invariant.shown front just);
}
