use Rattle.std.proofs.Common.{◌≡◌, ap, ◌∙◌, arith, [], ◌∷◌, Bool, ◌||◌, min, length}
use Rattle.std.proofs.Common.{length-append}
use Rattle.shared_bound.specs.Seats.{SeatView}
use Rattle.level_search.specs.declared.workers.worker.Worker.{Worker}
use Rattle.level_search.proofs.Teams.{all_front, looks_taken_in, taken_in, IsOther}
use Rattle.level_search.proofs.workers.gathered.Goals as goal

pub loop-other-preserved : goal.loop-other-preserved
loop-other-preserved c =
    let inv = c.loop-other.invariant in
    let e = c.take_in.ensures.first in
    let items = c.in-Some.ensures.items in
    let P : Worker → Type 0 = IsOther c.args.bound.now c.args.graph.now c.args.sources.now in
    let front = all_front P c.pop.new.self.items c.in-Some.other (rw items at inv.6) in
    let other = c.into_seat-seat.ensures in
    let ok = c.loop-other.others.ok.0 in
    let ok' = c.pop.new.self.ok.0 in
    let long = ap length items in
    let long' = length-append c.pop.new.self.items (c.in-Some.other ∷ []) in
    let out = inv.2 in
    let out' = c.take_in.ensures.out in
    let low : c.take_in.new.first.low ≡ min c.loop-other.first.low c.into_seat-seat.result.0.low =
    ap (λ (s : SeatView). s.low) e in (
      ap (λ (s : SeatView). s.bound) e ∙ inv.0,
      ap (λ (s : SeatView). s.is_first) e ∙ inv.1,
      omega arith,
      ap (λ (s : SeatView). s.done) e ∙ ap (λ (b : Bool). b || c.into_seat-seat.result.0.done) inv.3,
      taken_in _ _ c.loop-other.first c.into_seat-seat.result.0 c.take_in.new.first inv.4
          (rw other.seat front.1.2)
          (ap (λ (s : SeatView). s.claimed) e) (ap (λ (s : SeatView). s.offered) e) (omega arith)
          (omega arith),
      looks_taken_in _ _ _ c.loop-other.first c.into_seat-seat.result.0 c.take_in.new.first _
          c.into_seat-seat.result.1 _ (ap (λ (s : SeatView). s.claimed) e) (ap (λ (s : SeatView). s.offered) e)
          (omega arith) (omega arith) inv.5
          (rw (other.seat, other.looked) front.1.3) c.saturating_add-looked.ensures,
      front.0,
    )
