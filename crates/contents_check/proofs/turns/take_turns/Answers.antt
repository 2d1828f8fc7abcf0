-- One of the replicas goes on, or none does.
use Rattle.std.proofs.Common.{◌≤◌, ℕ, length, sym, ◌∙◌, ap, subst, arith}
use Rattle.std.proofs.lemmas.List.{length-set}
use Rattle.contents_check.specs.declared.turns.OnTheWay.{OnTheWay}
use Rattle.contents_check.specs.Turns.{AreOnTheWay}
use Rattle.contents_check.proofs.InTurns.{way_at, one_goes_on}
use Rattle.contents_check.proofs.turns.take_turns.Goals as goal
use Rattle.contents_check.proofs.turns.take_turns.Goals.{then-k-end+in_ok-go_on+then-is_some}
use Rattle.contents_check.proofs.turns.take_turns.Goals.{then-k-end+in_ok-go_on+else-is_some, else-k-end}

pub go_on-requires-clause-on_the_way : goal.go_on-requires-clause-on_the_way
go_on-requires-clause-on_the_way c =
    way_at c.args.recording.now c.args.sight.now c.args.elements.now c.args.replicas.now c.loop-i.ways.items
    c.in-Some.k c.index_mut-way.result.now (omega (arith, c.if-k-end.true, c.loop-i.invariant.end))
    c.index_mut-way.ensures.value c.loop-i.invariant.on_the_way

pub loop-i-preserved : goal.loop-i-preserved
loop-i-preserved c =
    let h = c.args.recording.now in
    let table = c.args.sight.now in
    let elements = c.args.elements.now in
    let all = c.args.replicas.now in
    let ways = c.loop-i.ways.items in
    let k : ℕ = c.in-Some.k in
    let are = c.loop-i.invariant.on_the_way in
    elim c.if-k-end.branch [
      | then-k-end+in_ok-go_on+then-is_some w ↦ record {
        end = subst (λ v. c.if-k-end.end ≤ length v.items) (sym w.ways-is)
            (omega (
              arith,
              w.end-is,
              w.if-k-end.true,
              c.loop-i.invariant.end,
              length-set ways k w.go_on.new.self,
            ));
        on_the_way = subst (λ v. AreOnTheWay h table elements all v.items) (sym w.ways-is)
            (one_goes_on h table elements all ways k w.go_on.new.self w.index_mut-way.result.now
            (w.in_ok-go_on.ensures.replica
            ∙ ap (λ (o : OnTheWay). o.replica) w.index_mut-way.ensures.value) are
            w.in_ok-go_on.ensures.on_the_way);
      }
      | then-k-end+in_ok-go_on+else-is_some w ↦ record {
        end = subst (λ v. c.if-k-end.end ≤ length v.items) (sym w.ways-is)
            (omega (arith, w.end-is, c.loop-i.invariant.end, length-set ways k w.go_on.new.self));
        on_the_way = subst (λ v. AreOnTheWay h table elements all v.items) (sym w.ways-is)
            (one_goes_on h table elements all ways k w.go_on.new.self w.index_mut-way.result.now
            (w.in_ok-go_on.ensures.replica
            ∙ ap (λ (o : OnTheWay). o.replica) w.index_mut-way.ensures.value) are
            w.in_ok-go_on.ensures.on_the_way);
      }
      | else-k-end w ↦ record {
        end = subst (λ v. c.if-k-end.end ≤ length v.items) (sym w.ways-is)
            (omega (arith, w.end-is, c.loop-i.invariant.end));
        on_the_way = subst (λ v. AreOnTheWay h table elements all v.items) (sym w.ways-is) are;
      }
    ]
