use Rattle.std.proofs.Common.{◌/◌, ◌+◌}
use Rattle.bit_tables.proofs.SetLemmas.{Has-zeros}
use Rattle.bit_tables.proofs.bits.BitSet.new.Goals as goal

pub returns-clause-empty : goal.returns-clause-empty
returns-clause-empty c x =
    Has-zeros (c.args.n / 64 + 1) x _ (c.in_ok-words.ensures.items_if_clones_equal (λ y e. e))
