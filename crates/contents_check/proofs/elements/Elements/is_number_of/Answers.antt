-- The element of this number has the name, and so its number.
use Rattle.std.proofs.Common.{◌≡◌, ◌∙◌, ◌<◌, ℕ, List, Some, length, sym, subst}
use Rattle.std.proofs.lemmas.Bool.{ltb-true}
use Rattle.std.specs.Prelude.{slice_get}
use Rattle.std.specs.Cmp.Lexicographic.{bytes_decides}
use Rattle.events.proofs.Places.{slice_get-within}
use Rattle.contents_check.specs.declared.element.Element.{Element}
use Rattle.contents_check.specs.Known.{number_of}
use Rattle.contents_check.proofs.elements.Elements.is_number_of.Goals as goal

pub returns-in-Some : goal.returns-in-Some
returns-in-Some c = λ same.
    let within : c.args.number < length c.deref.result.now =
    ltb-true c.args.number (length c.deref.result.now) (sym c.in-Some.ensures.lookup.0) in
    let there : slice_get c.args.self.now.list.items c.args.number ≡ Some c.in-Some.element.now =
    subst (λ (list : List Element). slice_get list c.args.number ≡ Some c.in-Some.element.now)
    c.deref.ensures.value
    (slice_get-within c.deref.result.now c.args.number c.in-Some.element.now within
    c.in-Some.ensures.lookup.1) in
    subst (λ (a : List ℕ). number_of c.args.self.now a ≡ Some c.args.number)
    ((bytes_decides c.in-Some.element.now.name c.args.name.now).0 (sym c.eq.ensures ∙ same))
    (c.requires.numbered c.args.number c.in-Some.element.now there)
