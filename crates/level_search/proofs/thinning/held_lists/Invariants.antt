use Rattle.std.proofs.Common.{◌≡◌, ℕ, ◌<◌, ◌≤◌, false, length}
use Rattle.std.specs.Prelude.{vec_len}
use Rattle.order_graph.specs.Emptied.{is_marked}
use Rattle.order_graph.specs.Lists.{lists_of}
use Rattle.level_search.specs.Thinned.{AllIsShown}
use Rattle.level_search.proofs.thinning.held_lists.Given as goal

abbrev pub invariant-loop-list : goal.invariant-loop-list
invariant-loop-list l = record {
  count : vec_len l.places ≡ length l.graph.elements;
  marks : vec_len l.marks ≡ length l.graph.returned;
  last : l.last < l.list;
  unmarked : (m : ℕ) → l.list ≤ m → is_marked l.marks.items m ≡ false;
  kept : is_marked l.marks.items l.last ≡ false;
  shown : AllIsShown (lists_of l.graph) l.marks.items;
}
