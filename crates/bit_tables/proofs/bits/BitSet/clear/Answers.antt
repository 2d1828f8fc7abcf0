use Rattle.std.proofs.Common.{◌∙◌, ◌/◌}
use Rattle.std.proofs.lemmas.List.{take_at}
use Rattle.bit_tables.proofs.SetLemmas.{Has-zero}
use Rattle.bit_tables.proofs.bits.BitSet.clear.Goals as goal

pub returns-clause-empty : goal.returns-clause-empty
returns-clause-empty c =
    let new = c.empty.new.words in
    rw (take_at new _ _ (c.empty.ensures.len ∙ c.deref_mut.ensures.len))
    (λ x. Has-zero new x (c.empty.ensures.zero (x / 64)))
