use Rattle.std.proofs.Common.{◌≡◌, [], map, replicate, vec_len}
use Rattle.list_rule.proofs.spots.lists_with_room.Given as goal

abbrev pub invariant-loop-count : goal.invariant-loop-count
invariant-loop-count l = record {
  count : vec_len l.lists ≡ l.count-index;
  empty : map (λ list. list.items) l.lists.items ≡ replicate l.count-index [];
}
