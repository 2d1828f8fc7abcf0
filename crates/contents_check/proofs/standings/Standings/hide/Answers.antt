-- The name at the place is gone.
use Rattle.std.proofs.Common.{◌≡◌, ◌+◌, ◌<◌, ◌++◌, ◌∷◌, List, ℕ, drop, length, get_or, subst, arith}
use Rattle.std.proofs.lemmas.Option.{slice_get-get_or}
use Rattle.events.specs.Names.{NameBytes}
use Rattle.contents_check.specs.Shown.{ShowJust}
use Rattle.contents_check.proofs.Noting.{number_within, drop_here, note_gone}
use Rattle.contents_check.proofs.RowNumbers.{gone-number, row-length}
use Rattle.contents_check.proofs.standings.Standings.hide.Goals as goal

pub note-requires-clause-within : goal.note-requires-clause-within
note-requires-clause-within c =
    let elements = c.args.elements.now in
    let within : c.args.j < length c.args.row.now =
    omega (arith, row-length elements c.args.last.now c.args.row.now c.requires.row, c.requires.inside) in
    let number : ℕ = get_or c.args.row.now c.args.j 0 in
    let at = slice_get-get_or c.args.row.now c.args.j 0 within in
    let gone =
    gone-number elements c.requires.numbers c.args.last.now c.args.row.now c.args.j number c.requires.row
    c.requires.inside c.requires.known at in
    omega (arith, number_within elements c.requires.numbers gone.0 number gone.2, c.requires.fits.size)

pub returns-clause-shown : goal.returns-clause-shown
returns-clause-shown c = λ front just.
    let elements = c.args.elements.now in
    let last : List NameBytes = c.args.last.now in
    let within : c.args.j < length c.args.row.now =
    omega (arith, row-length elements last c.args.row.now c.requires.row, c.requires.inside) in
    let number : ℕ = get_or c.args.row.now c.args.j 0 in
    let at = slice_get-get_or c.args.row.now c.args.j 0 within in
    let gone =
    gone-number elements c.requires.numbers last c.args.row.now c.args.j number c.requires.row
    c.requires.inside c.requires.known at in
    let here : drop c.args.j last ≡ gone.0 ∷ drop (c.args.j + 1) last =
    drop_here last c.args.j gone.0 gone.1 in
    note_gone elements c.requires.numbers number c.args.self.now c.note.new.self c.note.ensures gone.0 front
    (drop (c.args.j + 1) last) gone.2
    (subst (λ l. ShowJust elements c.args.self.now.list.items (front ++ l)) here just)
