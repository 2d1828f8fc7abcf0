-- Where the ends pass `last`, as a binary search finds it.
use Rattle.std.proofs.Common.{leb, leb-true, ℕ, arith, rules, of_calls}
use Rattle.std.proofs.lemmas.Bool.{leb-false}
use Rattle.std.proofs.lemmas.List.Sorted.{IsPartitionPoint-from_clause, IsPartitionedBy-leb}
use Rattle.std.proofs.lemmas.Option.{slice_get_within, get_or_from_slice_get}
use Rattle.events.proofs.response.runs.ends_within.Goals as goal

pub returns : goal.returns
returns c =
    let parted = IsPartitionedBy-leb (λ (end : ℕ). end) _ c.args.last c.requires in
    let point =
    IsPartitionPoint-from_clause (λ end. leb end c.args.last) _ _ c.partition_point.ensures.partitioned
    parted (λ a r q k. search (rules, of_calls)) in
    record {
      within = search rules;
      low = λ k h. leb-true _ _ (point.0 k _ (omega arith) h);
      most = λ x at.
          let is = get_or_from_slice_get c.args.ends.now c.partition_point.result x 0 at in
          let past =
          leb-false _ _ (point.1 c.partition_point.result 0 (omega arith)
          (slice_get_within c.args.ends.now c.partition_point.result x at)) in
          omega (arith, is, past);
    }
