use Rattle.std.proofs.Common.{◌≡◌, ℕ, ◌<◌, slice_index, subst, sym, ap, arith, inl, inr}
use Rattle.std.proofs.lemmas.Bool.{cases_eq}
use Rattle.level_search.specs.Thinned.{IsBehindPlace}
use Rattle.level_search.proofs.thinning.is_held.Goals as goal

pub returns-then-list-lt2 : goal.returns-then-list-lt2
returns-then-list-lt2 c held p q lt within = absurd (omega (arith, c.if-list-lt2.true))

pub loop-j-preserved : goal.loop-j-preserved
loop-j-preserved c =
    let list = c.args.list.now in
    let places = c.args.places.now in
    let other = c.args.other.now in
    let j : ℕ = c.loop-j.j in
    let inv = c.loop-j.invariant in
    let e : IsBehindPlace places other (slice_index list j) c.loop-j.next c.in-Some.behind = c.in-Some.ensures in
    let place : (p : ℕ) → ℕ = λ p. slice_index places (slice_index list p) in
    record {
      small = e.within;
      low = λ p under. elim (cases_eq p j) [
        | inl is ↦
            let same : place p ≡ place j = ap place is in
            omega (arith, same, e.noted)
        | inr apart ↦
            let was = inv.low p (omega arith) in
            omega (arith, was, e.low)
      ];
      here = λ p under. elim (cases_eq p j) [
        | inl is ↦ subst (λ i. slice_index other (place i) ≡ slice_index list i) (sym is) e.here
        | inr apart ↦ inv.here p (omega arith)
      ];
      rise = λ p q lt under. elim (cases_eq q j) [
        | inl is ↦
            let same : place q ≡ place j = ap place is in
            let was = inv.low p (omega arith) in
            omega (arith, same, was, e.noted, e.low)
        | inr apart ↦ inv.rise p q lt (omega arith)
      ];
    }

pub returns : goal.returns
returns c held p q lt within =
    let list = c.args.list.now in
    let places = c.args.places.now in
    let inv = c.loop-j.invariant in
    let over : q < c.loop-j.j = omega (arith, c.loop-j-test.false) in
    let under : p < c.loop-j.j = omega arith in
    let last = inv.low q over in (
      slice_index places (slice_index list p),
      slice_index places (slice_index list q),
      inv.rise p q lt over,
      omega (arith, last, inv.small),
      inv.here p under,
      inv.here q over,
    )
