-- The end of the last of these names.
use Rattle.std.proofs.Common.{◌≡◌, ℕ, suc, ◌+◌, ◌-◌, ◌<◌, ◌≤◌, List, length, get_or, ap, subst, ◌∙◌, arith}
use Rattle.events.specs.Names.{NameBytes}
use Rattle.events.specs.Packed.{ends_of}
use Rattle.events.proofs.Runs.{size, ends-length, ends-index}
use Rattle.events.proofs.response.runs.bytes_until.Goals as goal

last-end : (ends : List ℕ) (from count : ℕ) (names : List NameBytes) → 0 < count → count ≤ length ends
    → ends ≡ ends_of from names → get_or ends (count - 1) 0 ≡ from + size names count
last-end ends from count names some within is =
    let next : suc (count - 1) ≡ count = omega (arith, some) in
    let there : count - 1 < length names =
    omega (arith, some, within, ap length is, ends-length from names) in
    subst (λ n. get_or ends (count - 1) 0 ≡ from + size names n) next (ap (λ l. get_or l (count - 1) 0) is
    ∙ ends-index from names (count - 1) 0 there)

pub overflow_sub-result-else-count-eq0 : goal.overflow_sub-result-else-count-eq0
overflow_sub-result-else-count-eq0 c =
    omega (
      arith,
      last-end c.args.ends.now c.args.from c.args.count c.requires.packed.0
          (omega (arith, c.if-count-eq0.false)) c.requires.within c.requires.packed.1,
    )

pub returns-else-count-eq0 : goal.returns-else-count-eq0
returns-else-count-eq0 c = λ names is.
    omega (
      arith,
      last-end c.args.ends.now c.args.from c.args.count names
          (omega (arith, c.if-count-eq0.false)) c.requires.within is,
    )
