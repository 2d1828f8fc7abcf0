-- A legal recording has few operations: at most so many of each replica.
use Rattle.std.proofs.Common.{◌≡◌, ℕ, zero, suc, ◌*◌, ◌≤◌, List, length, map, refl, ◌∙◌, ap, arith}
use Rattle.std.proofs.Common.{length-append}
use Rattle.std.specs.Prelude.{flat_map}
use Rattle.std.proofs.lemmas.List.{length-map}
use Rattle.std.proofs.lemmas.List.Sums.{length-filter, count_by-le-length}
use Rattle.events.specs.Operation.{Operation}
use Rattle.events.specs.History.{History, IsLegal, stream, is_operation}
use Rattle.events.specs.Operations.{count, numbers_from}
use Rattle.events.specs.declared.TheConstants.{MOST_ENTRIES}

pub count-few : (h : History) (r : ℕ) → IsLegal h → count h r ≤ MOST_ENTRIES
count-few h r legal =
    let limits = legal.limits r in
    omega (
      arith,
      length-filter is_operation (stream h r),
      count_by-le-length is_operation (stream h r),
      limits.entries,
    )

length-numbers_from : (from n : ℕ) → length (numbers_from from n) ≡ n
length-numbers_from from zero = refl
length-numbers_from from (suc n) = ap suc (length-numbers_from (suc from) n)

pub few-operations : (h : History) → IsLegal h → (from n : ℕ) →
    length {A = Operation}
    (flat_map (λ r. map (λ m. record { replica = r; n = m }) (numbers_from 1 (count h r)))
    (numbers_from from n)) ≤ n * MOST_ENTRIES
few-operations h legal from zero = omega arith
few-operations h legal from (suc n) =
    let own : List Operation = map (λ m. record { replica = from; n = m }) (numbers_from 1 (count h from)) in
    let rest : List Operation =
    flat_map (λ r. map (λ m. record { replica = r; n = m }) (numbers_from 1 (count h r)))
    (numbers_from (suc from) n) in
    let size : length own ≡ count h from =
    length-map (numbers_from 1 (count h from)) (λ m. record { replica = from; n = m })
    ∙ length-numbers_from 1 (count h from) in
    let few : count h from ≤ MOST_ENTRIES = count-few h from legal in
    let others : length rest ≤ n * MOST_ENTRIES = few-operations h legal (suc from) n in
    omega (arith, length-append own rest)
