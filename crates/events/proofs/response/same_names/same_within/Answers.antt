-- Sixteen more from a place on, or as far as they are the same.
use Rattle.std.proofs.Common.{◌≡◌, ◌-◌, ℕ, List, drop, subst, arith}
use Rattle.events.specs.SameNames.{AreSame}
use Rattle.events.proofs.SameLanes.{and-so-many, joined}
use Rattle.events.proofs.response.same_names.same_within.Goals as goal

from : (s m n : ℕ) (a b p q : List ℕ) → p ≡ drop s a → q ≡ drop s b → AreSame p q m n
    → AreSame (drop s a) (drop s b) m n
from s m n a b p q here there h =
    subst (λ x. AreSame x (drop s b) m n) here (subst (λ x. AreSame p x m n) there h)

pub returns-then-more-lt-LANES : goal.returns-then-more-lt-LANES
returns-then-more-lt-LANES c =
    let s : ℕ = c.lanes.same in
    let n : ℕ = c.same_in_lanes-more.result in
    joined c.args.a.now c.args.b.now s 16 n c.args.most c.lanes.invariant.same
    (from s 16 n c.args.a.now c.args.b.now _ _ c.after.ensures c.after-in-lanes.ensures
    c.same_in_lanes-more.ensures)
    (omega (arith, c.if-more-lt-LANES.true, c.lanes-test.true)) (λ _. omega (arith, c.if-more-lt-LANES.true))

pub lanes-preserved : goal.lanes-preserved
lanes-preserved c =
    let s : ℕ = c.lanes.same in
    let n : ℕ = c.same_in_lanes-more.result in
    record {
      within = omega (arith, c.lanes-test.true);
      same = λ k h. and-so-many c.args.a.now c.args.b.now s 16 n c.lanes.invariant.same
          (from s 16 n c.args.a.now c.args.b.now _ _ c.after.ensures c.after-in-lanes.ensures
          c.same_in_lanes-more.ensures) k
          (omega (arith, h, c.same_in_lanes-more.ensures.within, c.if-more-lt-LANES.false));
    }

pub returns : goal.returns
returns c =
    let last : ℕ = c.args.most - 16 in
    let n : ℕ = c.same_in_lanes.result in
    joined c.args.a.now c.args.b.now last 16 n c.args.most
    (λ k h. c.lanes.invariant.same k (omega (arith, h, c.lanes-test.false)))
    (from last 16 n c.args.a.now c.args.b.now _ _ c.after-2.ensures c.after-3.ensures c.same_in_lanes.ensures)
    (omega (arith, c.same_in_lanes.ensures.within, c.if-most-lt-LANES.false))
    (λ less. omega (arith, less, c.if-most-lt-LANES.false))
