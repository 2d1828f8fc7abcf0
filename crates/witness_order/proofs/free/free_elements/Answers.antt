-- One number more, and all of them.
use Rattle.std.proofs.Common.{◌≡◌, ℕ, ◌+◌, ◌<◌, ◌↔◌, List, Contains, length, get_or, sym, ap, subst, arith}
use Rattle.witness_order.proofs.Counting.{one_more_free, none_more_free}
use Rattle.witness_order.proofs.free.free_elements.Goals as goal
use Rattle.witness_order.proofs.free.free_elements.Goals.{then-indegree-eq0+in_ok-insert, else-indegree-eq0}

pub loop-x-preserved : goal.loop-x-preserved
loop-x-preserved c =
    let ds : List ℕ = c.args.indegrees.now in
    let n : ℕ = c.loop-x.x in
    elim c.if-indegree-eq0.branch [
      | then-indegree-eq0+in_ok-insert w ↦
          subst (λ (l : List ℕ). (z : ℕ) → Contains l z ↔ ((z < n + 1) × (get_or ds z 0 ≡ 0)))
          (ap (λ s. s.keys) (sym w.free-is))
          (one_more_free ds c.loop-x.free.keys w.insert.new.self.keys n c.loop-x.invariant
          w.if-indegree-eq0.true w.in_ok-insert.ensures.keys)
      | else-indegree-eq0 w ↦
          subst (λ (l : List ℕ). (z : ℕ) → Contains l z ↔ ((z < n + 1) × (get_or ds z 0 ≡ 0)))
          (ap (λ s. s.keys) (sym w.free-is))
          (none_more_free ds c.loop-x.free.keys n c.loop-x.invariant w.if-indegree-eq0.false)
    ]

pub returns : goal.returns
returns c =
    let all : c.loop-x.x ≡ length c.args.indegrees.now = omega arith in
    subst (λ n. (z : ℕ) → Contains c.loop-x.free.keys z ↔ ((z < n) × (get_or c.args.indegrees.now z 0 ≡ 0)))
    all c.loop-x.invariant
