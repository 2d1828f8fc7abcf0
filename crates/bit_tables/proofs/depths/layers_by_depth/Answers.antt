use Rattle.std.proofs.Common.{◌≡◌, ℕ, List, length, get_or, arith}
use Rattle.std.specs.Prelude.{Contains}
use Rattle.std.proofs.lemmas.List.Elements.{Contains-get_or}
use Rattle.bit_tables.proofs.DepthLemmas.{empty-none, more-numbers}
use Rattle.bit_tables.proofs.depths.layers_by_depth.Goals as goal

pub loop-x-init : goal.loop-x-init
loop-x-init c = record {
  count = c.in_ok-layers.ensures.count;
  layers =
      λ d x lt. (
        λ h. absurd (empty-none c.in_ok-layers.layers.items c.args.count c.in_ok-layers.ensures.empty d x h),
        λ p. absurd (let none = p.1.1 in omega arith),
      );
}

pub bounds-depths-x : goal.bounds-depths-x
bounds-depths-x c =
    let noted : List ℕ = c.args.noted.now in
    let there : Contains noted (get_or noted c.loop-x.x-index 0) =
    Contains-get_or noted c.loop-x.x-index 0 c.loop-x-test.true in
    let p = (c.requires.noted (get_or noted c.loop-x.x-index 0)).0 there in
    omega (arith, p.0)

pub loop-x-preserved : goal.loop-x-preserved
loop-x-preserved c =
    let inv = c.loop-x.invariant in
    let i : ℕ = c.loop-x.x-index in record {
      count = omega (arith, c.in_ok-put.ensures.count, inv.count);
      layers =
          λ d x lt. more-numbers c.args.depths.now c.args.noted.now c.loop-x.layers.items
          c.put.new.layers.items c.args.first i d x c.loop-x-test.true (inv.layers d x lt)
          (c.in_ok-put.ensures.layers d x (omega (arith, inv.count)));
    }

pub returns-clause-layers : goal.returns-clause-layers
returns-clause-layers c = λ d x lt.
    let p = c.loop-x.invariant.layers d x lt in
    let all : length c.args.noted.now ≡ c.loop-x.x-index = omega arith in (
      λ h.
          let q = p.0 h in
          let there : Contains c.args.noted.now x = (q.1.0, (let low = q.1.1 in omega arith), q.1.2) in
          (q.0, ((c.requires.noted x).0 there).0, q.2),
      λ q.
          let there = (c.requires.noted x).1 (q.1, (let e = q.2 in omega arith)) in
          p.1 (q.0, (there.0, (let low = there.1 in omega arith), there.2), q.2),
    )
