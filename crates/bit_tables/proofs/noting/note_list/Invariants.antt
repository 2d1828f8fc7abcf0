use Rattle.std.proofs.Common.{◌≡◌, length}
use Rattle.bit_tables.specs.Lists.{HasList}
use Rattle.bit_tables.specs.Backs.{IsBack, IsSized}
use Rattle.bit_tables.proofs.Places.{AreNoted}
use Rattle.bit_tables.proofs.noting.note_list.Given as goal

abbrev pub invariant-places : goal.invariant-places
invariant-places l = record {
  len : length l.rows ≡ length l.fn.rows;
  width : length l.back.after ≡ length l.fn.back.after;
  sized : IsSized l.rows l.back;
  known : HasList l.rows l.known;
  noted : AreNoted l.i l.list l.fn.rows l.rows;
  back : IsBack l.known l.list l.i l.back;
}
