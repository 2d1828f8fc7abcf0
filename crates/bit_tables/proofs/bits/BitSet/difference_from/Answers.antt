-- One number more: none between the last and it is wanted.
use Rattle.std.proofs.Common.{◌+◌, ◌∷◌, ◌++◌, [], ℕ, arith, subst, sym}
use Rattle.bit_tables.specs.Sets.{Has}
use Rattle.bit_tables.specs.Ways.{AreThoseBelow, IsOutside}
use Rattle.bit_tables.proofs.Those.{those_below, those_more, those_none, those_past}
use Rattle.bit_tables.proofs.bits.BitSet.difference_from.Goals as goal

pub numbers-init : goal.numbers-init
numbers-init c = record {
  within = c.requires.within;
  those = subst (AreThoseBelow (IsOutside c.args.self.now c.args.other.now c.args.n) c.args.first)
      (sym c.new-numbers.ensures.items)
      (those_past (IsOutside c.args.self.now c.args.other.now c.args.n) 0 c.args.first [] (omega arith)
      (λ y low high is. is.1.1 (c.requires.none y high is.1.0))
      (those_none (IsOutside c.args.self.now c.args.other.now c.args.n)));
}

pub numbers-preserved : goal.numbers-preserved
numbers-preserved c =
    let P : ℕ → Type 0 = IsOutside c.args.self.now c.args.other.now c.args.n in
    let x : ℕ = c.in-Some.x in
    let found = c.in-Some.ensures.some in
    let past : AreThoseBelow P x c.numbers.numbers.items =
    those_past P c.numbers.from x c.numbers.numbers.items found.0
    (λ y from before is. is.1.1 (c.in-Some.ensures.first y from before is.1.0))
    c.numbers.invariant.those in
    let more : AreThoseBelow P (x + 1) (c.numbers.numbers.items ++ x ∷ []) =
    those_more P x c.numbers.numbers.items (found.1, (found.2, found.3)) past in
    record {
      within = omega (arith, found.1);
      those = subst (AreThoseBelow P (x + 1)) (sym c.in_ok-push.ensures.items) more;
    }

pub returns : goal.returns
returns c =
    let P : ℕ → Type 0 = IsOutside c.args.self.now c.args.other.now c.args.n in
    let none = c.in_default.ensures.none in
    let all : AreThoseBelow P c.args.n c.numbers.numbers.items =
    those_past P c.numbers.from c.args.n c.numbers.numbers.items c.numbers.invariant.within
    (λ y from before is. is.1.1 (none y from before is.1.0))
    c.numbers.invariant.those in
    those_below (λ x. Has c.args.self.now x × (¬ Has c.args.other.now x)) c.args.n c.args.n
    c.numbers.numbers.items (omega arith) all
