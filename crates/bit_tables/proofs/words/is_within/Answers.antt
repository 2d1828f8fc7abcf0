use Rattle.std.proofs.Common.{refl, sym, true≢false, arith}
use Rattle.bit_tables.proofs.SetLemmas.{Has-within}
use Rattle.bit_tables.proofs.words.is_within.Goals as goal

pub returns : goal.returns
returns c = (
  λ yes. (Has-within c.args.a.now c.args.b.now c.requires (λ k. omega (arith, c.type_inv.a k))).0
      (λ k h. c.words.invariant k (omega arith)),
  λ all. refl,
)

pub returns-then-a-k : goal.returns-then-a-k
returns-then-a-k c = (
  λ no. absurd (true≢false (sym no)),
  λ all. absurd
      (c.if-a-k.true
      ((Has-within c.args.a.now c.args.b.now c.requires (λ k. omega (arith, c.type_inv.a k))).1 all c.words.k
      (omega arith))),
)
