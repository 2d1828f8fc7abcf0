-- The value at the next place is above all before it, or is not above the last.
use Rattle.std.proofs.Common.{ℕ, ◌+◌, List, map, take, drop, suc, get_or, subst, arith, refl}
use Rattle.std.specs.Prelude.{slice_index}
use Rattle.cert_check.specs.Values.{IsRising}
use Rattle.cert_check.proofs.ValueTests.{RiseTo, rise_more, rise_stop, one-further, map-split, whole_front}
use Rattle.cert_check.proofs.values.is_rising.Goals as goal

pub returns-then-value-least : goal.returns-then-value-least
returns-then-value-least c =
    let f : ℕ → ℕ = slice_index c.args.values.now in
    let xs : List ℕ = c.args.places.now in
    let i : ℕ = c.loop-place.place-index in (
      λ t. absurd (Prim.cc),
      λ rising. absurd (rise_stop (map f (take i xs)) c.loop-place.least (f (get_or xs i 0))
          (map f (drop (suc i) xs)) c.loop-place.invariant
          (omega (arith, c.from-value.ensures, c.if-value-least.true))
          (subst IsRising (map-split f xs i c.loop-place-test.true) rising)),
    )

pub loop-place-preserved : goal.loop-place-preserved
loop-place-preserved c =
    let f : ℕ → ℕ = slice_index c.args.values.now in
    let le = c.if-value-least.false in
    one-further (λ (ds : List ℕ). RiseTo ds (c.from-value.result + 1)) f c.args.places.now
    c.loop-place.place-index c.from-value.result c.loop-place-test.true c.from-value.ensures
    (rise_more (map f (take c.loop-place.place-index c.args.places.now)) c.loop-place.least
    c.from-value.result c.loop-place.invariant le)

pub returns : goal.returns
returns c =
    let rising : IsRising (map (slice_index c.args.values.now) c.args.places.now) =
    subst IsRising (whole_front (slice_index c.args.values.now) c.args.places.now c.loop-place.place-index
    (omega arith)) c.loop-place.invariant.rising in
    (λ t. rising, λ r. refl)
