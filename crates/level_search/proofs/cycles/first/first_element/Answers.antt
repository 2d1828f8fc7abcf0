-- A search from each of these elements looks at no more than six would.
use Rattle.std.proofs.Common.{ℕ, ◌+◌, ◌*◌, length, arith}
use Rattle.std.proofs.lemmas.Nat.{mul-le}
use Rattle.specification.specs.Responses.{place_count}
use Rattle.level_search.proofs.cycles.first.first_element.Goals as goal

pub returns-then-is_some-clause-looked : goal.returns-then-is_some-clause-looked
returns-then-is_some-clause-looked c =
    let v = c.args.graph.now in
    let looks : ℕ = place_count v + length v.elements in
    let upto : ℕ = c.first_in_order.result + 1 in
    omega (
      arith,
      c.first_in_order.ensures.looked,
      mul-le upto (2 * looks) upto (6 * looks) (omega arith) (omega arith),
    )
