-- A name that the map has, or no name.
use Rattle.std.proofs.Common.{◌≡◌, ◌∙◌, Some, None, List, sym, ap}
use Rattle.std.specs.Prelude.{option_copied}
use Rattle.events.specs.Names.{NameBytes}
use Rattle.specification.specs.Elements.{number_in}
use Rattle.format_words.proofs.NameWords.{name-is, name_of-name}
use Rattle.element_numbers.proofs.NameNumbers.{name-at}
use Rattle.cert_check.proofs.numbered.Numbered.find.Goals as goal

pub returns-in_default : goal.returns-in_default
returns-in_default c = λ name.
    let bad : None ≡ Some c.args.word.now = sym c.in_default.ensures ∙ name_of-name c.args.word.now name in
    absurd Prim.cc

pub returns-in-Some : goal.returns-in-Some
returns-in-Some c =
    let names : List NameBytes = c.args.self.now.names.items in
    let same = name-is c.args.word.now c.in-Ok.name c.in-Ok.ensures in
    name-at names c.in-Some.number.now c.in-Ok.name (sym (c.requires.numbers c.in-Ok.name)
    ∙ sym c.in-Some.ensures.value) ∙ ap Some (sym same.0)

pub returns-in-None : goal.returns-in-None
returns-in-None c = λ name.
    let names : List NameBytes = c.args.self.now.names.items in
    let same = name-is c.args.word.now c.in-Ok.name c.in-Ok.ensures in
    ap (number_in names) same.0 ∙ sym (c.requires.numbers c.in-Ok.name) ∙ sym c.get.ensures.value
    ∙ ap option_copied c.in-None.is
