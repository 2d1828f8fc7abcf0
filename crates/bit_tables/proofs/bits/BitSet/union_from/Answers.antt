use Rattle.std.proofs.Common.{◌∙◌}
use Rattle.std.proofs.lemmas.List.{take_at}
use Rattle.bit_tables.proofs.SetLemmas.{Has-or_words}
use Rattle.bit_tables.proofs.bits.BitSet.union_from.Goals as goal

pub returns-clause-has : goal.returns-clause-has
returns-clause-has c =
    let new = c.or_words.new.into in
    let joined = rw (c.deref_mut.ensures.value, c.deref.ensures.value) at c.or_words.ensures.joined in
    let same = rw (c.deref_mut.ensures.value) at c.or_words.ensures.len in
    let alike = rw (← c.self.view_is, ← c.other.view_is) at c.requires in
    rw (
      take_at new _ _ (c.or_words.ensures.len ∙ c.deref_mut.ensures.len),
      ← c.self.view_is,
      ← c.other.view_is,
    )
    (Has-or_words c.self.inside.words.items new c.other.inside.words.items c.args.first alike same joined)
