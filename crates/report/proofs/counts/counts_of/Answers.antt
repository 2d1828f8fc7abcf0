-- The operations of one replica more; a recording has fewer than a number holds.
use Rattle.std.proofs.Common.{◌≡◌, ℕ, zero, suc, ◌+◌, ◌*◌, ◌≤◌, List, ◌++◌, length, refl, sym, ◌∙◌, ap, arith}
use Rattle.std.proofs.Common.{length-append}
use Rattle.std.specs.Prelude.{flat_map, option_and_then}
use Rattle.std.proofs.lemmas.List.{length-map}
use Rattle.std.proofs.lemmas.List.Elements.{filter_map-append}
use Rattle.std.proofs.lemmas.List.Sums.{length-filter, count_by-le-length}
use Rattle.events.specs.Operation.{Operation}
use Rattle.events.specs.History.{History, IsLegal, stream, is_operation, inserted_name}
use Rattle.events.specs.Operations.{count, numbers_from, operation}
use Rattle.events.specs.declared.TheConstants.{MOST_ENTRIES}
use Rattle.events.proofs.Numbers.{replicas_push}
use Rattle.contents_check.specs.Covering.{first_operations}
use Rattle.report.specs.Counts.{inserted_by}
use Rattle.report.proofs.counts.counts_of.Goals as goal

length-numbers_from : (from n : ℕ) → length (numbers_from from n) ≡ n
length-numbers_from from zero = refl
length-numbers_from from (suc n) = ap suc (length-numbers_from (suc from) n)

count-few : (h : History) (r : ℕ) → IsLegal h → count h r ≤ MOST_ENTRIES
count-few h r legal =
    omega (
      arith,
      length-filter is_operation (stream h r),
      count_by-le-length is_operation (stream h r),
      (legal.limits r).entries,
    )

-- the operations of the first replicas
abbrev of_first : History → ℕ → List Operation
of_first h r = flat_map (λ (q : ℕ). first_operations q (count h q)) (numbers_from 0 r)

-- with those of one replica more
operations-more : (h : History) (r : ℕ) → length (of_first h (r + 1)) ≡ length (of_first h r) + count h r
operations-more h r =
    let own : List Operation = first_operations r (count h r) in
    let size : length own ≡ count h r =
    length-map {B = Operation} (numbers_from 1 (count h r)) (λ k. record { replica = r; n = k })
    ∙ length-numbers_from 1 (count h r) in
    omega (
      arith,
      ap (λ (l : List Operation). length l) (replicas_push (λ (q : ℕ). first_operations q (count h q)) r),
      length-append (of_first h r) own,
      size,
    )

inserts-more : (h : History) (r : ℕ) → length (inserted_by h (of_first h (r + 1)))
    ≡ length (inserted_by h (of_first h r)) + length (inserted_by h (first_operations r (count h r)))
inserts-more h r =
    let own : List Operation = first_operations r (count h r) in
    ap (λ (l : List Operation). length (inserted_by h l))
    (sym (replicas_push (λ (q : ℕ). first_operations q (count h q)) r))
    ∙ ap length (filter_map-append (λ (o : Operation). option_and_then inserted_name (operation h o))
    (of_first h r) own)
    ∙ length-append (inserted_by h (of_first h r)) (inserted_by h own)

pub overflow_add-inserts : goal.overflow_add-inserts
overflow_add-inserts c =
    let h = c.args.recording.now in
    let legal = c.replicas-r-end.ensures.legal in
    omega (
      arith,
      c.loop-r.invariant.few,
      c.loop-r.invariant.fewer,
      c.inserts_among-inserts.ensures.few,
      c.count-count.ensures,
      count-few h c.loop-r.r legal,
      legal.few_replicas,
      c.replicas-r-end.ensures.value,
      c.loop-r-test.true,
    )

pub overflow_add-operations : goal.overflow_add-operations
overflow_add-operations c =
    let h = c.args.recording.now in
    let legal = c.replicas-r-end.ensures.legal in
    omega (
      arith,
      c.loop-r.invariant.few,
      c.count-count.ensures,
      count-few h c.loop-r.r legal,
      legal.few_replicas,
      c.replicas-r-end.ensures.value,
      c.loop-r-test.true,
    )

pub loop-r-preserved : goal.loop-r-preserved
loop-r-preserved c =
    let h = c.args.recording.now in
    let legal = c.replicas-r-end.ensures.legal in
    let r : ℕ = c.loop-r.r in
    let own = ap (λ (n : ℕ). length (inserted_by h (first_operations r n))) c.count-count.ensures in
    record {
      operations = omega (arith, c.loop-r.invariant.operations, c.count-count.ensures, operations-more h r);
      inserts =
          omega (
            arith,
            c.loop-r.invariant.inserts,
            c.inserts_among-inserts.ensures.inserts,
            own,
            inserts-more h r,
          );
      few = omega (arith, c.loop-r.invariant.few, c.count-count.ensures, count-few h r legal);
      fewer = omega (arith, c.loop-r.invariant.fewer, c.inserts_among-inserts.ensures.few);
    }

pub returns : goal.returns
returns c =
    let h = c.args.recording.now in
    let end : c.loop-r.r ≡ h.replicas = omega (arith, c.loop-r-test.false, c.replicas-r-end.ensures.value) in
    record {
      operations = c.loop-r.invariant.operations ∙ ap (λ (n : ℕ). length (of_first h n)) end;
      inserts = c.loop-r.invariant.inserts ∙ ap (λ (n : ℕ). length (inserted_by h (of_first h n))) end;
    }
