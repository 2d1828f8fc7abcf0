-- The name at the place is new, or it is noted as shown: then the other's is gone, or it stands twice.
use Rattle.std.proofs.Common.{◌≡◌, ◌∙◌, ℕ, ◌<◌, List, Some, length, take, drop, sym, subst, arith}
use Rattle.std.specs.Prelude.{slice_get}
use Rattle.std.proofs.lemmas.Option.{slice_get_within, none-some}
use Rattle.specification.proofs.Members.{In-append_right, In-from_place}
use Rattle.events.proofs.Places.{slice_get-within}
use Rattle.events.specs.Names.{NameBytes}
use Rattle.contents_check.specs.Known.{number_of}
use Rattle.contents_check.specs.Shown.{joined, ShowJust}
use Rattle.contents_check.proofs.Noting.{number_within, note_new, joined_next, not_shown, is_shown}
use Rattle.contents_check.proofs.Noting.{stands_twice}
use Rattle.contents_check.proofs.RowNumbers.{row-at, row-length}
use Rattle.contents_check.proofs.standings.Standings.step.Goals as goal
use Rattle.contents_check.proofs.standings.Standings.step.Goals.{In-Some-number}

-- the element has a standing
number-within : (c : In-Some-number) → c.in-Some-number.number < length c.args.self.now.list.items
number-within c =
    omega (
      arith,
      number_within c.args.elements.now c.requires.numbers c.in-Some.name c.in-Some-number.number
          (sym c.in-Some-number.ensures),
      c.requires.fits.size,
    )

pub index-requires : goal.index-requires
index-requires c =
    omega (arith, number-within (goal.at.index-requires c).In-Some-number, c.args.self.now.list.ok)

pub note-requires-clause-within : goal.note-requires-clause-within
note-requires-clause-within c = number-within (goal.at.note-requires-clause-within c).In-Some-number

pub returns-in_default-number-clause-step : goal.returns-in_default-number-clause-step
returns-in_default-number-clause-step c = λ of.
    let k = of.1 c.in-Some.name
    (In-from_place c.args.w.now c.args.i c.in-Some.name (sym c.in-Some.ensures)) in
    absurd (none-some k.0 (sym c.in_default-number.is ∙ c.number.ensures ∙ k.1))

pub returns-then-not-index-clause-step : goal.returns-then-not-index-clause-step
returns-then-not-index-clause-step c =
    let w : List NameBytes = c.args.w.now in
    let last : List NameBytes = c.args.last.now in
    let name : NameBytes = c.in-Some.name in
    let number : ℕ = c.in-Some-number.number in
    let there : slice_get w c.args.i ≡ Some name = sym c.in-Some.ensures in
    let numbered : number_of c.args.elements.now name ≡ Some number = sym c.in-Some-number.ensures in
    let absent =
    not_shown c.args.elements.now c.requires.numbers c.args.self.now.list.items
    (joined w c.args.i last c.args.j) c.requires.shown name number c.index.result.now numbered
    (slice_get-within _ _ _ (number-within (goal.at.returns-then-not-index-clause-step c).In-Some-number)
    c.index.ensures) c.if-not-index.true in (
      slice_get_within w c.args.i name there,
      subst (λ l. ShowJust c.args.elements.now c.note.new.self.list.items l)
          (sym (joined_next w c.args.i last c.args.j name there))
          (note_new c.args.elements.now c.requires.numbers number c.args.self.now c.note.new.self
          c.note.ensures name (take c.args.i w) (drop c.args.j last) numbered absent c.requires.shown),
      row-at c.args.elements.now c.requires.numbers w c.args.i name number there numbered,
    )

pub hide-requires-then-j-row-clause-known : goal.hide-requires-then-j-row-clause-known
hide-requires-then-j-row-clause-known c =
    λ a i. c.requires.shown.known a (In-append_right a _ _ i)

pub hide-requires-clause-known : goal.hide-requires-clause-known
hide-requires-clause-known c =
    λ a i. c.requires.shown.known a (In-append_right a _ _ i)

pub returns-clause-step : goal.returns-clause-step
returns-clause-step c = λ of.
    let w : List NameBytes = c.args.w.now in
    let last : List NameBytes = c.args.last.now in
    let there =
    is_shown c.args.elements.now c.requires.numbers c.args.self.now.list.items
    (joined w c.args.i last c.args.j) c.requires.shown c.in-Some.name c.in-Some-number.number
    c.index.result.now (sym c.in-Some-number.ensures)
    (slice_get-within _ _ _ (number-within (goal.at.returns-clause-step c).In-Some-number)
    c.index.ensures) c.if-not-index.false in
    stands_twice w c.args.i last c.args.j c.in-Some.name (sym c.in-Some.ensures)
    (omega (arith, c.if-j-row.false, row-length c.args.elements.now last c.args.row.now c.requires.row))
    there of.0
