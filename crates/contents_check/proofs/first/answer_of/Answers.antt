-- What all replicas are found to be says what the recording is.
use Rattle.std.proofs.Common.{◌==◌, List, sym, ◌∙◌, ap, subst}
use Rattle.std.specs.Cmp.Lexicographic.{pointwise}
use Rattle.indexmap.specs.IndexMap.{get}
use Rattle.events.specs.Names.{NameBytes}
use Rattle.events.specs.Operations.{numbers_from, operation_names}
use Rattle.specification.specs.Elements.{number_in}
use Rattle.specification.specs.Elements as named
use Rattle.element_numbers.specs.Covering.{Covers}
use Rattle.contents_check.specs.Covering.{IsWalked}
use Rattle.contents_check.specs.Known.{element_names}
use Rattle.element_numbers.specs.declared.covering.Covering.{Covering}
use Rattle.contents_check.proofs.Handed.{numbers-are}
use Rattle.contents_check.proofs.Walked.{right-sound, wrong-checked}
use Rattle.contents_check.proofs.first.answer_of.Goals as goal

pub returns-in-Wrong : goal.returns-in-Wrong
returns-in-Wrong c =
    let h = c.args.recording.now in
    let elements = c.args.elements in
    wrong-checked h c.requires.legal elements c.requires.elements c.in-Wrong.fault
    (subst (IsWalked h (element_names elements) (numbers_from 0 h.replicas)) c.in-Wrong.is
    c.requires.walked)

pub returns-in_ok-numbered-in-Right : goal.returns-in_ok-numbered-in-Right
returns-in_ok-numbered-in-Right c =
    let h = c.args.recording.now in
    let elements = c.args.elements in
    let sound =
    right-sound h c.requires.legal elements c.requires.elements c.in-Right.covering
    (subst (IsWalked h (element_names elements) (numbers_from 0 h.replicas)) c.in-Right.is
    c.requires.walked) in
    let numbered = c.in_ok-numbered-in-Right.numbered in
    let given = c.in_ok-numbered-in-Right.ensures in (
      sound.0,
      record {
        names = given.names ∙ c.requires.elements.listed;
        numbers =
            λ a. ap (λ m. get (pointwise ◌==◌) m a) given.numbers
            ∙ numbers-are elements c.requires.elements.numbers a
            ∙ ap (λ (l : List NameBytes). number_in l a) c.requires.elements.listed;
        covers =
            subst (λ (k : Covering). Covers h (named.elements h) (operation_names h) k)
            (sym given.covering) sound.1;
      },
    )
