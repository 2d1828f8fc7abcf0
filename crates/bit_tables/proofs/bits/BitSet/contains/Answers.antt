use Rattle.std.proofs.Common.{◌≡◌, ◌/◌, ◌<◌, ◌≤◌, get_or, length, arith, true≢false, sym}
use Rattle.std.proofs.lemmas.List.{get_or_read, get_or_past}
use Rattle.bit_tables.proofs.SetLemmas.{Has_test, Has-zero}
use Rattle.bit_tables.proofs.bits.BitSet.contains.Goals as goal

pub returns-then-n-len : goal.returns-then-n-len
returns-then-n-len c =
    let words = c.self.inside.words.items in
    let within : c.args.n / 64 < length words = omega (arith, c.self.inside.words.ok.0) in
    let read : c.index.result.now ≡ get_or words (c.args.n / 64) 0 =
    get_or_read words (c.args.n / 64) _ within c.index.ensures 0 in
    rw (← c.self.view_is) (Has_test words c.index.result.now c.args.n read)

pub returns-else-n-len : goal.returns-else-n-len
returns-else-n-len c =
    let words = c.self.inside.words.items in
    let past : length words ≤ c.args.n / 64 = omega (arith, c.self.inside.words.ok.0) in
    rw (← c.self.view_is) (
      λ no. absurd (true≢false (sym no)),
      λ has. absurd (Has-zero words c.args.n (get_or_past words (c.args.n / 64) 0 past) has),
    )
