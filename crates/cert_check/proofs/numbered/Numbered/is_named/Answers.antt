-- The bytes of the name that stands there.
use Rattle.std.proofs.Common.{◌≡◌, ◌∙◌, Some, sym, ap}
use Rattle.std.specs.Prelude.{slice_get}
use Rattle.std.proofs.lemmas.Slice.Eq.{slice_eq-Decides}
use Rattle.std.proofs.lemmas.Bool.Decides.{Decides-eqb}
use Rattle.events.proofs.Places.{slice_get-within}
use Rattle.cert_check.proofs.numbered.Numbered.is_named.Goals as goal

pub returns-in-Some : goal.returns-in-Some
returns-in-Some c = λ t.
    let decides = slice_eq-Decides Decides-eqb _ _ _ c.eq.ensures in
    let found = c.in-Some.ensures.lookup in
    let there : slice_get c.deref.result.now c.args.number ≡ Some c.in-Some.name.now =
    slice_get-within c.deref.result.now c.args.number c.in-Some.name.now found.3.0 found.1 in
    ap (λ l. slice_get l c.args.number) (sym c.deref.ensures.value) ∙ there
    ∙ ap Some (sym c.bytes.ensures.value ∙ decides.0 t)
