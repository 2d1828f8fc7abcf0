-- Both names stand at these places.
use Rattle.std.proofs.Common.{◌≡◌, ◌∙◌, ap, Some, arith}
use Rattle.std.proofs.lemmas.Slice.Eq.{slice_eq-Decides}
use Rattle.std.proofs.lemmas.Bool.Decides.{Decides-eqb}
use Rattle.specification.proofs.Members.{Before-from_places}
use Rattle.cert_check.proofs.shown.stand_at.Goals as goal

pub returns-then-eq : goal.returns-then-eq
returns-then-eq c = λ same.
    let first : c.in-Some-Some.first.now ≡ c.args.from.now =
    (slice_eq-Decides Decides-eqb _ _ _ c.eq.ensures).0 c.if-eq.true in
    let second : c.in-Some-Some.second.now ≡ c.args.to.now =
    (slice_eq-Decides Decides-eqb _ _ _ c.eq-then-eq.ensures).0 same in
    Before-from_places c.args.response.now c.args.from.now c.args.to.now c.args.i c.args.j
    (omega (arith, c.if-i-j.false))
    (c.in-Some-Some.ensures.value ∙ ap Some first) (c.in-Some-Some.ensures'.value ∙ ap Some second)
