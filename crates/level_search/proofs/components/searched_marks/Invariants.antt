use Rattle.std.proofs.Common.{◌≡◌, ℕ, ◌<◌, true, false, slice_index_or, vec_len}
use Rattle.std.specs.Prelude.{◌↔◌}
use Rattle.level_search.specs.Cores.{LiesOnCycle}
use Rattle.list_search.specs.ScratchView.{Fits}
use Rattle.level_search.proofs.components.searched_marks.Given as goal

abbrev pub invariant-loop-x : goal.invariant-loop-x
invariant-loop-x l = record {
  fits : Fits l.scratch l.graph;
  count : vec_len l.marks ≡ l.x;
  marks : (y : ℕ) → y < l.x → (slice_index_or l.marks.items y false ≡ true) ↔ LiesOnCycle l.graph y;
}
