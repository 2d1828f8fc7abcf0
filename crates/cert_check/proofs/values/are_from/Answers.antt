-- Each number so far is from the first on, or one is not.
use Rattle.std.proofs.Common.{◌≡◌, ◌≤◌, get_or, sym, refl, arith, true≢false}
use Rattle.std.proofs.lemmas.List.{get_or_default}
use Rattle.cert_check.proofs.values.are_from.Goals as goal

pub returns : goal.returns
returns c = (
  λ yes k d lt.
      let same : get_or c.args.numbers.now k d ≡ get_or c.args.numbers.now k 0 =
      get_or_default c.args.numbers.now k d 0 lt in
      omega (arith, same, c.loop-number.invariant k (omega (arith, lt))),
  λ all. refl,
)

pub returns-then-number-first : goal.returns-then-number-first
returns-then-number-first c = (
  λ no. absurd (true≢false (sym no)),
  λ all. absurd (let le : c.args.first ≤ get_or c.args.numbers.now c.loop-number.number-index 0 =
      all c.loop-number.number-index 0 c.loop-number-test.true in omega arith),
)
