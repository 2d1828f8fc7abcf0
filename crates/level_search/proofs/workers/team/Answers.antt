use Rattle.std.proofs.Common.{◌≡◌, ◌+◌, ◌-◌, false, ap, ◌∙◌, arith}
use Rattle.std.proofs.lemmas.List.Elements.{All-push}
use Rattle.shared_bound.specs.Seats.{SeatView, fresh_seat}
use Rattle.level_search.specs.Team.{IsReady}
use Rattle.level_search.specs.declared.workers.worker.Worker.{Worker}
use Rattle.level_search.proofs.Teams.{numbered-push, team_grown}
use Rattle.level_search.proofs.workers.team.Goals as goal

pub loop-number-preserved : goal.loop-number-preserved
loop-number-preserved c =
    let inv = c.loop-number.invariant in
    let e = c.share-seat.ensures.first in
    let other : c.in_ok-new.field-0.seat ≡ fresh_seat c.args.bound.now false c.loop-number.first.low 0 =
    c.in_ok-new.ensures.seat ∙ c.share-seat.ensures.other in
    let P : Worker → Type 0 = λ w. (w.seat.bound ≡ c.args.bound.now) × (w.seat.is_first ≡ false)
    × IsReady c.args.graph.now c.args.sources.now w in
    let out : c.share-seat.new.first.out ≡ c.loop-number.first.out + 1 = ap (λ (s : SeatView). s.out) e in
    let left : c.share-seat.new.first.shares_left ≡ c.loop-number.first.shares_left - 1 =
    ap (λ (s : SeatView). s.shares_left) e in
    let more = c.in_ok-push.ensures.len in
    let test = c.loop-number-test.true in
    let was = inv.5 in
    let sum = inv.6 in
    let count = inv.7 in (
      ap (λ (s : SeatView). s.bound) e ∙ inv.0,
      ap (λ (s : SeatView). s.is_first) e ∙ inv.1,
      ap (λ (s : SeatView). s.claimed) e ∙ inv.2,
      ap (λ (s : SeatView). s.offered) e ∙ inv.3,
      ap (λ (s : SeatView). s.low) e ∙ inv.4,
      omega arith,
      omega arith,
      omega arith,
      rw c.in_ok-push.ensures.items
          (All-push P c.loop-number.team.items c.in_ok-new.field-0 inv.8 (
            ap (λ (s : SeatView). s.bound) other,
            ap (λ (s : SeatView). s.is_first) other,
            c.in_ok-new.ensures.ready c.args.sources.now,
          )),
      rw c.in_ok-push.ensures.items
          (numbered-push c.loop-number.team.items c.in_ok-new.field-0 inv.9
          (c.in_ok-new.ensures.number ∙ omega arith)),
    )

pub returns : goal.returns
returns c =
    let inv = c.loop-number.invariant in
    let e = c.in_ok-new-2.ensures.seat in
    let ok = c.loop-number.team.ok.0 in
    let out : c.in_ok-new-2.field-0.seat.out ≡ c.loop-number.first.out = ap (λ (s : SeatView). s.out) e in
    let test = c.loop-number-test.false in
    let was = inv.5 in
    let sum = inv.6 in
    let count = inv.7 in
    rw c.in_ok-push-2.ensures.items
    (team_grown _ _ _ _ c.loop-number.team.items c.in_ok-new-2.field-0 inv.8 inv.9 (omega arith)
    (ap (λ (s : SeatView). s.bound) e ∙ inv.0) (ap (λ (s : SeatView). s.is_first) e ∙ inv.1) (omega arith)
    (c.in_ok-new-2.ensures.ready c.args.sources.now) c.in_ok-new-2.ensures.number)
