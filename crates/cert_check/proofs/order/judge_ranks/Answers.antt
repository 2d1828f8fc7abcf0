-- The first response along which the places do not rise.
use Rattle.std.proofs.Common.{◌≡◌, ℕ, ◌<◌, length, Some, List, arith, refl, subst}
use Rattle.std.specs.Prelude.{slice_get, IsPermutation}
use Rattle.events.proofs.Places.{slice_get-within}
use Rattle.events.specs.Names.{NameBytes}
use Rattle.events.specs.Operation.{Operation}
use Rattle.cert_check.proofs.OrderJudged.{order_valid, first_not_followed}
use Rattle.cert_check.proofs.order.judge_ranks.Goals as goal

pub returns-in-None : goal.returns-in-None
returns-in-None c =
    λ version h order of perm holds.
    (order_valid h c.args.numbered.now of order c.args.ranks.now perm holds c.in-None.ensures version, refl)

pub returns-in-Some : goal.returns-in-Some
returns-in-Some c = λ version h order of perm holds.
    let i : ℕ = c.in-Some.i in
    let o : Operation = c.index.result.now in
    let lt : i < length c.args.numbered.now.operations.items =
    omega (arith, c.in-Some.ensures.0, c.requires.operations) in
    let at : slice_get c.args.numbered.now.operations.items i ≡ Some o =
    slice_get-within c.args.numbered.now.operations.items i o lt c.index.ensures in (
      of.sound,
      subst (λ (ns : List NameBytes). IsPermutation ns order) of.names perm,
      first_not_followed h c.args.numbered.now of order c.args.ranks.now perm holds i o at c.in-Some.ensures.1
          c.in-Some.ensures.2,
    )
