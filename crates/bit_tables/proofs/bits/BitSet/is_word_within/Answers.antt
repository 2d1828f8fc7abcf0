use Rattle.std.proofs.Common.{◌≡◌, ap, sym, ◌∙◌, get_or, eqb-true}
use Rattle.std.specs.Prelude.{bit_and}
use Rattle.bit_tables.proofs.SetLemmas.{Has-word_within}
use Rattle.bit_tables.proofs.bits.BitSet.is_word_within.Goals as goal

pub returns : goal.returns
returns c = λ yes y e has.
    let own = c.word-bits.ensures in
    let others = c.word.ensures in
    let same : bit_and c.word-bits.result c.word.result ≡ c.word-bits.result = eqb-true _ _ yes in
    Has-word_within c.args.self.now c.args.other.now c.args.word y
    (ap (λ w. bit_and w (get_or c.args.other.now c.args.word 0)) (sym own)
    ∙ ap (bit_and c.word-bits.result) (sym others) ∙ same ∙ own) e has
