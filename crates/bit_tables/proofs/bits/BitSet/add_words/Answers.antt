use Rattle.std.proofs.Common.{◌∙◌}
use Rattle.std.proofs.lemmas.List.{take_at}
use Rattle.bit_tables.proofs.SetLemmas.{Has-filled}
use Rattle.bit_tables.proofs.bits.BitSet.add_words.Goals as goal

pub returns-clause-has : goal.returns-clause-has
returns-clause-has c =
    let new = c.fill.new.words in
    let rest = rw (c.deref_mut.ensures.value) at c.fill.ensures.rest in
    rw (take_at new _ _ (c.fill.ensures.len ∙ c.deref_mut.ensures.len), ← c.self.view_is)
    (Has-filled c.self.inside.words.items new c.args.count c.fill.ensures.full rest)
