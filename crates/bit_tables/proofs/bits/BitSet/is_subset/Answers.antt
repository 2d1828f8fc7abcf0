use Rattle.bit_tables.proofs.bits.BitSet.is_subset.Goals as goal

pub returns : goal.returns
returns c =
    let all = rw (c.deref.ensures.value, c.deref-2.ensures.value) at c.is_within.ensures in
    rw (← c.self.view_is, ← c.other.view_is) all
