use Rattle.std.proofs.Common.{◌≡◌, ℕ, ◌+◌, ◌≤◌, ◌⊎◌, length, vec_len}
use Rattle.std.specs.Prelude.{◌↔◌, Contains}
use Rattle.order_graph.specs.Lists.{row}
use Rattle.witness_order.specs.Edges.{lists_in, AreKept}
use Rattle.witness_order.proofs.Listing.{IsNextBelow}
use Rattle.witness_order.proofs.successors.note_list.Given as goal

abbrev pub invariant-loop-j : goal.invariant-loop-j
invariant-loop-j l = record {
  count : vec_len l.successors.heads ≡ vec_len l.fn.successors.heads;
  kept : AreKept l.successors;
  listed : (x y : ℕ) → Contains (row (lists_in l.successors) x) y
      ↔ (Contains (row (lists_in l.fn.successors) x) y ⊎ IsNextBelow l.list l.j x y);
  short : vec_len l.successors.edges + 1 ≤ vec_len l.fn.successors.edges + l.j;
  within : l.j ≤ length l.list + 1;
}
