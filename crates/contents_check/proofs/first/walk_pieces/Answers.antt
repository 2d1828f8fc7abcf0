-- What is made of each number below that of the pieces is what the walk finds of that piece.
use Rattle.std.proofs.Common.{◌≡◌, ℕ, ◌+◌, ◌-◌, ◌*◌, take, drop, length, sym, ap, ◌∙◌, subst, arith}
use Rattle.std.specs.Prelude.{IfOk, Result, slice_index_or}
use Rattle.std.specs.List.{AllZip}
use Rattle.rayon.specs.Lists.{range_start, range_end}
use Rattle.rayon.specs.Numbers.{nat_range}
use Rattle.events.specs.declared.memory.Memory.{Memory}
use Rattle.contents_check.specs.Covering.{IsWalked}
use Rattle.contents_check.specs.Known.{element_names}
use Rattle.contents_check.specs.declared.walk.Walked.{Walked}
use Rattle.contents_check.proofs.Pieces.{zip-at, zip-count}
use Rattle.contents_check.proofs.first.walk_pieces.Goals as goal

pub returns : goal.returns
returns g c =
    let h = c.args.recording.now in
    let names = element_names c.args.elements.now in
    let all = c.args.replicas.now in
    let size = c.args.size in
    let Found =
    λ (n : ℕ) (piece : Result Walked Memory). IfOk piece
    (IsWalked h names (take size (drop (n * size) all))) in
    let ends = c.into_par_iter.ensures in
    let made = c.in_ok-pieces.ensures in
    let chain = rw (c.map.ensures.base, c.map.ensures.f) at made.1 in
    let places : chain.0 ≡ nat_range 0 c.min.result =
    chain.1 ∙ ap (λ it. nat_range (range_start it) (range_end it)) c.with_min_len.ensures.base
    ∙ (λ i. nat_range (ends.0 i) (ends.1 i)) in
    let zipped = subst (λ l. AllZip Found l made.0) places chain.2 in
    let many : length made.0 ≡ c.min.result - 0 = zip-count Found 0 (c.min.result - 0) made.0 zipped in
    record {
      pieces = λ n d within.
          let first : 0 + n ≡ n = omega arith in
          subst (λ l. Found n (slice_index_or l n d)) (sym made.2)
          (subst (λ m. Found m (slice_index_or made.0 n d)) first
          (zip-at Found 0 (c.min.result - 0) made.0 zipped n d
          (omega (arith, within, ap length made.2))));
      count = ap length made.2 ∙ many ∙ omega (arith, c.min.ensures);
    }
