-- The rest of the word's bits from the place on, and its least 1.
use Rattle.std.proofs.Common.{◌≡◌, ◌<◌, ◌+◌, ◌*◌, ◌/◌, ◌^◌, ℕ, arith, rules, w64}
use Rattle.std.specs.Prelude.{bit_and}
use Rattle.std.specs.Int.{bit_not, trailing_zeros}
use Rattle.std.proofs.lemmas.Nat.Bits.{bit_at-trailing_zeros}
use Rattle.bit_tables.proofs.Those.{rest-before, rest-first, rest-none, rest-small}
use Rattle.bit_tables.proofs.bits.BitSet.first_in_word.Goals as goal

pub returns-then-rest-eq0-clause-none : goal.returns-then-rest-eq0-clause-none
returns-then-rest-eq0-clause-none c =
    rest-none _ _ _ _ _ c.word-bits.ensures c.word.ensures (omega (arith, c.word.type_inv)) c.args.place
    c.requires c.if-rest-eq0.true

pub returns : goal.returns
returns c =
    let place : ℕ = c.args.place in
    let small : c.word.result < 2 ^ 64 = omega (arith, c.word.type_inv) in
    let fits : c.word-bits.result < 2 ^ 64 = omega (arith, c.word-bits.type_inv) in
    let rest : ℕ = bit_and c.word-bits.result (bit_not w64 c.word.result) / 2 ^ place in
    let below = rest-small c.word-bits.result c.word.result place fits in
    let least = bit_at-trailing_zeros w64 rest (omega (arith, c.if-rest-eq0.false)) below in
    let i : ℕ = trailing_zeros w64 rest in
    let is : 64 * c.args.word + place + i ≡ 64 * c.from.result + c.from-2.result + c.from-3.result =
    omega (arith, c.from.ensures, c.from-2.ensures, c.from-3.ensures) in
    record {
      some =
          rest-first _ _ _ _ _ c.word-bits.ensures c.word.ensures small place c.requires i _ fits least.1 is;
      first = λ y here from before.
          rest-before _ _ _ _ _ c.word-bits.ensures c.word.ensures small place c.requires i least.2 y here
          from (omega (arith, is, here, before));
      none = search rules;
    }
