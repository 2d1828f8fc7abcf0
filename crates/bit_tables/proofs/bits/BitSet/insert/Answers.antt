use Rattle.std.proofs.Common.{◌≡◌, ◌/◌, ◌<◌, ◌*◌, get_or, length, arith}
use Rattle.std.proofs.lemmas.List.{get_or_read}
use Rattle.bit_tables.proofs.SetLemmas.{Has-set}
use Rattle.bit_tables.proofs.bits.BitSet.insert.Goals as goal

pub returns-clause-has : goal.returns-clause-has
returns-clause-has c =
    let words = c.self.inside.words.items in
    let within : c.args.n < 64 * length words = rw c.self.view_is c.requires in
    let read : c.index-word.result.now ≡ get_or words (c.args.n / 64) 0 =
    get_or_read words (c.args.n / 64) _ (omega arith) c.index-word.ensures 0 in
    rw (← c.self.view_is) (Has-set words c.args.n c.index-word.result.now within read)
