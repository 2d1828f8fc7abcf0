use Rattle.std.proofs.Common.{◌≡◌, ℕ, ◌+◌, ◌<◌, List, [], ◌∷◌, ◌++◌, length, get_or, arith, sym, subst}
use Rattle.std.specs.Prelude.{Contains}
use Rattle.std.proofs.lemmas.Grind.{common_steps}
use Rattle.bit_tables.specs.Narrow.{AreNarrowed, StandsFor}
use Rattle.bit_tables.proofs.NarrowLemmas.{are-small, stands-more}
use Rattle.bit_tables.proofs.narrow.narrow_depths.Goals as goal

pub in_place_of-requires-clause-has : goal.in_place_of-requires-clause-has
in_place_of-requires-clause-has c =
    let depth : ℕ = get_or c.args.depths.now c.loop-x.x 0 in
    let has : Contains c.in_ok-wide.wide.items depth =
    c.in_ok-wide.ensures.depths c.loop-x.x 0 (omega arith) in
    subst (λ (l : List ℕ). Contains l depth) (sym c.deref-in-loop-x.ensures.value) has

-- a number stands for a depth in two lists also where they were lent
stands-in : (wide narrow lent_wide lent_narrow : List ℕ) (depth small : ℕ) → lent_wide ≡ wide
    → lent_narrow ≡ narrow
    → StandsFor lent_wide lent_narrow depth small → StandsFor wide narrow depth small
stands-in wide narrow lent_wide lent_narrow depth small wide_is narrow_is stands =
    subst (λ (l : List ℕ). StandsFor l narrow depth small) wide_is
    (subst (λ (l : List ℕ). StandsFor lent_wide l depth small) narrow_is stands)

pub loop-x-preserved : goal.loop-x-preserved
loop-x-preserved c =
    let inv = c.loop-x.invariant in
    let depths : List ℕ = c.args.depths.now in
    let x : ℕ = c.loop-x.x in
    let next : ℕ = c.in_place_of.result in
    let here =
    stands-in c.in_ok-wide.wide.items c.in_ok-narrow.narrow.items c.deref-in-loop-x.result.now
    c.deref-in-loop-x-2.result.now (get_or depths x 0) next
    c.deref-in-loop-x.ensures.value c.deref-in-loop-x-2.ensures.value c.in_place_of.ensures in
    let pushed : c.push.new.self.items ≡ c.loop-x.small.items ++ next ∷ [] =
    grind (arith, common_steps, c.in_ok-push.ensures.items) in
    record {
      len = omega (arith, c.in_ok-push.ensures.len, inv.len);
      stands =
          subst (λ (l : List ℕ). (k : ℕ) → k < x + 1
          → StandsFor c.in_ok-wide.wide.items c.in_ok-narrow.narrow.items (get_or depths k 0) (get_or l k 0))
          (sym pushed)
          (stands-more c.in_ok-wide.wide.items c.in_ok-narrow.narrow.items depths c.loop-x.small.items x next
          (omega (arith, inv.len)) inv.stands here);
    }

pub returns-clause-alike : goal.returns-clause-alike
returns-clause-alike c =
    let inv = c.loop-x.invariant in
    let wide : List ℕ = c.in_ok-wide.wide.items in
    let narrow : List ℕ = c.in_ok-narrow.narrow.items in
    let most : ℕ = c.in_place_of-most.result in
    let all : c.loop-x.x ≡ length c.args.depths.now = omega arith in
    let narrowed : AreNarrowed wide narrow =
    subst (λ (l : List ℕ). AreNarrowed l narrow) c.deref.ensures.value c.in_ok-narrow.ensures.alike in
    let last =
    stands-in wide narrow c.deref-2.result.now c.deref-3.result.now c.args.count most
    c.deref-2.ensures.value c.deref-3.ensures.value c.in_place_of-most.ensures in
    are-small wide narrow c.args.depths.now c.loop-x.small.items c.args.count most narrowed
    (omega (arith, inv.len, all)) (λ k lt. inv.stands k (omega (arith, all, lt))) last
