-- The list of one more place.
use Rattle.std.proofs.Common.{◌≡◌, ℕ, ◌<◌, List, map, length, sym, subst, arith, below_more, refl}
use Rattle.std.specs.Prelude.{slice_index}
use Rattle.std.proofs.lemmas.Bool.{false≢true}
use Rattle.element_numbers.proofs.Cuts.{length-cut}
use Rattle.cert_check.specs.Values.{IsRising}
use Rattle.cert_check.specs.Numbering.{lists_of, places_at}
use Rattle.cert_check.proofs.numbered.Numbered.first_not_rising.Goals as goal

pub returns-then-not-is_rising : goal.returns-then-not-is_rising
returns-then-not-is_rising c =
    let i : ℕ = c.loop-i.i in
    let f : ℕ → ℕ = slice_index c.args.values.now in
    let count : length (lists_of c.args.self.now) ≡ length c.args.self.now.places.ends.items =
    length-cut 0 c.args.self.now.places.ends.items c.args.self.now.places.items.items in
    let lt : i < length (lists_of c.args.self.now) =
    omega (arith, c.loop-i-test.true, c.len-i-end.ensures, count) in (
      lt,
      (λ rising. false≢true (c.if-not-is_rising.ensures.1
          (subst (λ (l : List ℕ). IsRising (map f l)) (sym c.row.ensures) rising))),
      c.loop-i.invariant,
    )

pub loop-i-preserved : goal.loop-i-preserved
loop-i-preserved c =
    let f : ℕ → ℕ = slice_index c.args.values.now in
    below_more (λ (j : ℕ). IsRising (map f (places_at c.args.self.now j))) c.loop-i.i c.loop-i.invariant
    (subst (λ (l : List ℕ). IsRising (map f l)) c.row.ensures (c.if-not-is_rising.ensures.0 refl))

pub returns : goal.returns
returns c =
    let count : length (lists_of c.args.self.now) ≡ length c.args.self.now.places.ends.items =
    length-cut 0 c.args.self.now.places.ends.items c.args.self.now.places.items.items in
    λ j lt. c.loop-i.invariant j (omega (arith, c.loop-i-test.false, c.len-i-end.ensures, count, lt))
