use Rattle.std.proofs.Common.{◌≡◌, ◌++◌, length, List, ℕ}
use Rattle.trace_text.specs.Kept.{Keeps}
use Rattle.trace_text.proofs.kept.KeptLine.add_words.Given as goal

abbrev pub invariant-loop-part : goal.invariant-loop-part
invariant-loop-part l = (front : List ℕ) × (l.fn.bytes ≡ front ++ l.rest) × Keeps l.fn.self front l.self

abbrev pub decreases-loop-part : goal.decreases-loop-part
decreases-loop-part l = length l.rest
