-- One edge more.
use Rattle.std.proofs.Common.{◌≡◌, ℕ, ◌+◌, ◌-◌, ◌<◌, ◌≤◌, Bool, cond, eqb, inl, inr, List, ◌∷◌, length}
use Rattle.std.proofs.Common.{get_or, vec_len, refl, ◌∙◌, ap, subst, arith}
use Rattle.std.specs.Prelude.{All}
use Rattle.std.proofs.lemmas.Bool.{eq-eqb}
use Rattle.std.proofs.lemmas.List.Sums.{sum_by-cons}
use Rattle.specification.proofs.Members.{All-member, All-from_members}
use Rattle.witness_order.specs.declared.successors.Edge.{Edge}
use Rattle.witness_order.specs.Edges.{edge_at, linked_from, occurrences}
use Rattle.witness_order.proofs.Counting.{one_less, freed_more}
use Rattle.witness_order.proofs.Linked.{linked-step, linked-none}
use Rattle.witness_order.proofs.free.remove_edges.Goals as goal

-- a list that begins with y, which the first edge leads to
module _ (list : List ℕ) (y : ℕ) (rest : List ℕ) (is : list ≡ y ∷ rest) where
  counted : (z : ℕ) → occurrences list z ≡ cond (eqb y z) 1 0 + occurrences rest z
  counted z = ap (λ (l : List ℕ). occurrences l z) is ∙ sum_by-cons (λ (w : ℕ). cond (eqb w z) 1 0) y rest

  known_here : (n : ℕ) → All (λ z. z < n) list → y < n
  known_here n all =
      All-member (λ z. z < n) (y ∷ rest) y (subst (λ (l : List ℕ). All (λ z. z < n) l) is all) (inl refl)

  known_on : (n : ℕ) → All (λ z. z < n) list → All (λ z. z < n) rest
  known_on n all = All-from_members (λ z. z < n) rest (λ w i. All-member (λ z. z < n) (y ∷ rest) w
      (subst (λ (l : List ℕ). All (λ z. z < n) l) is all) (inr i))

  -- an edge that is left is still counted
  still_counted : (whole old cur : ℕ) → whole ≤ old → cur + whole ≡ old + occurrences list y → 0 < cur
  still_counted whole old cur most lowered =
      let one : cond {A = ℕ} (eqb y y) 1 0 ≡ 1 = ap (λ (b : Bool). cond b 1 0) (eq-eqb y y refl) in
      omega (arith, most, lowered, counted y, one)

pub lower-requires-clause-known : goal.lower-requires-clause-known
lower-requires-clause-known c =
    let es : List Edge = c.args.edges.now in
    let k : ℕ = c.loop-number.number in
    let e : Edge = edge_at es (k - 1) in
    let inv = c.loop-number.invariant in
    let some : 0 < k = omega (arith, c.loop-number-test.true) in
    let is : linked_from es k ≡ e.to ∷ linked_from es e.next =
    linked-step es k c.requires.falling some inv.within in
    let known =
    known_here (linked_from es k) e.to (linked_from es e.next) is (vec_len c.args.indegrees.now) inv.known in
    omega (arith, known, inv.size)

pub lower-requires-clause-some : goal.lower-requires-clause-some
lower-requires-clause-some c =
    let es : List Edge = c.args.edges.now in
    let k : ℕ = c.loop-number.number in
    let e : Edge = edge_at es (k - 1) in
    let inv = c.loop-number.invariant in
    let some : 0 < k = omega (arith, c.loop-number-test.true) in
    let is : linked_from es k ≡ e.to ∷ linked_from es e.next =
    linked-step es k c.requires.falling some inv.within in
    let known =
    known_here (linked_from es k) e.to (linked_from es e.next) is (vec_len c.args.indegrees.now) inv.known in
    still_counted (linked_from es k) e.to (linked_from es e.next) is
    (occurrences (linked_from es c.args.head) e.to) (get_or c.args.indegrees.now.items e.to 0)
    (get_or c.loop-number.indegrees.items e.to 0) (c.requires.counted e.to known) (inv.lowered e.to known)

pub loop-number-preserved : goal.loop-number-preserved
loop-number-preserved c =
    let es : List Edge = c.args.edges.now in
    let k : ℕ = c.loop-number.number in
    let e : Edge = edge_at es (k - 1) in
    let n : ℕ = vec_len c.args.indegrees.now in
    let old : List ℕ = c.args.indegrees.now.items in
    let cur : List ℕ = c.loop-number.indegrees.items in
    let new : List ℕ = c.lower.new.indegrees.items in
    let inv = c.loop-number.invariant in
    let size : vec_len c.loop-number.indegrees ≡ n = inv.size in
    let some : 0 < k = omega (arith, c.loop-number-test.true) in
    let within : k - 1 < length es = omega (arith, some, inv.within) in
    let is : linked_from es k ≡ e.to ∷ linked_from es e.next =
    linked-step es k c.requires.falling some inv.within in
    let known : e.to < n = known_here (linked_from es k) e.to (linked_from es e.next) is n inv.known in
    let left : 0 < get_or cur e.to 0 =
    still_counted (linked_from es k) e.to (linked_from es e.next) is
    (occurrences (linked_from es c.args.head) e.to) (get_or old e.to 0) (get_or cur e.to 0)
    (c.requires.counted e.to known) (inv.lowered e.to known) in
    let one : (y : ℕ) → get_or new y 0 + cond (eqb e.to y) 1 0 ≡ get_or cur y 0 =
    one_less cur new e.to (omega (arith, known, size)) left c.in_ok-lower.ensures.lowered in
    record {
      within = omega (arith, c.requires.falling (k - 1) within, within);
      size = c.in_ok-lower.ensures.size ∙ size;
      known = known_on (linked_from es k) e.to (linked_from es e.next) is n inv.known;
      lowered = λ y lt. omega (
        arith,
        inv.lowered y lt,
        one y,
        counted (linked_from es k) e.to (linked_from es e.next) is y,
      );
      less = λ y lt. omega (arith, inv.less y lt, one y);
      free = freed_more n e.to old cur new c.args.free.now.keys c.loop-number.free.keys c.lower.new.free.keys
          known left inv.less one c.in_ok-lower.ensures.free inv.free;
    }

pub returns-clause-lowered : goal.returns-clause-lowered
returns-clause-lowered c = λ y lt.
    let es : List Edge = c.args.edges.now in
    let at : c.loop-number.number ≡ 0 = omega (arith, c.loop-number-test.false) in
    let none : occurrences (linked_from es c.loop-number.number) y ≡ 0 =
    ap (λ k. occurrences (linked_from es k) y) at
    ∙ ap (λ (l : List ℕ). occurrences l y) (linked-none es (length es)) in
    omega (arith, c.loop-number.invariant.lowered y lt, none)
