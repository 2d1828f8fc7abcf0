-- One place more: the element goes on where the list before has it, or it is fresh.
use Rattle.std.proofs.Common.{◌≡◌, ℕ, ◌<◌, ◌+◌, ◌∙◌, inl, inr, List, [], ◌∷◌, Some, length}
use Rattle.std.proofs.Common.{ap, refl, sym, arith}
use Rattle.std.specs.Prelude.{slice_get}
use Rattle.std.proofs.lemmas.List.{get_or_read}
use Rattle.std.proofs.lemmas.List.Elements.{Contains-push, Contains-append_left, Contains-push_cases}
use Rattle.std.proofs.lemmas.Option.{slice_get-get_or, get_or_from_slice_get}
use Rattle.order_graph.specs.Lists.{lists_of, row, Stands}
use Rattle.bit_tables.specs.Sets.{Has}
use Rattle.bit_tables.specs.Lists.{row_of}
use Rattle.level_search.specs.Fronts.{IsFront}
use Rattle.level_search.proofs.Noting.{back_noted, front_step}
use Rattle.level_search.proofs.before_table.table.note_place.Goals as goal
use Rattle.level_search.proofs.before_table.table.note_place.Goals.{then-goes_on, else-goes_on+in_ok-push}

pub returns-clause-front : goal.returns-clause-front
returns-clause-front c =
    let lists = lists_of c.args.graph.now in
    let l : ℕ = c.args.at.list in
    let j : ℕ = c.args.at.place in
    let x : ℕ = c.in-Some.x in
    let rows : List (List ℕ) = c.args.rows.now in
    let f = c.args.front.now in
    let front : IsFront lists l j rows f = c.requires.front in
    let here : Stands lists l j x =
    record {
      within = c.requires.inside;
      here =
          get_or_from_slice_get (row lists l) j x 0 (sym c.in-Some.ensures.value);
    } in
    let known = c.in-Some.ensures.known in
    let within : x < length rows = omega (arith, c.requires.elements, known) in
    elim c.if-goes_on.branch [
      | then-goes_on w ↦
          let last = c.index-last.result.now in
          let goes = w.if-goes_on.ensures refl in
          let in_last : x < length f.last.items = omega (arith, front.sized.places, within, f.last.ok.0) in
          let read : slice_get f.last.items x ≡ Some last =
          slice_get-get_or f.last.items x last in_last ∙ ap Some (sym c.index-last.ensures) in
          let stands : Stands lists last.list last.place x = front.last x last read goes.1 in
          let row = w.index-rows-x in
          let here_is = sym row.is ∙ get_or_read rows x row.result within row.is [] in
          let added = w.add_few.ensures in
          let new : List ℕ = w.add_few.new.set in
          let kept : (y : ℕ) → Has (row_of rows x) y → Has new y = λ y has. added.kept y (rw here_is has) in
          rw (w.rows-is, w.front-is)
          (front_step lists l j x here rows f new c.insert.new.self f.fresh (last.place + 1) within front
          (added.len ∙ ap length here_is ∙ front.sized.width x within)
          kept
          (λ p y early at. elim (front.known p y early at) [
            | inl contains ↦ added.few y (rw w.as_slice.ensures.value contains)
            | inr back ↦ kept y (back_noted lists l j x rows f last within front goes.0 goes.2 stands y back)
          ])
          (λ y has. elim (added.only y has) [
            | inl was ↦ inl (rw here_is at was)
            | inr early ↦ inr early
          ])
          (rw w.front-is at c.insert.ensures.len)
          (rw w.front-is at c.insert.ensures.has)
          (λ y contains. contains) (λ y contains. inl contains)
          (let late = goes.2 in omega arith)
          (inr (record {
            list = last.list;
            is_before = goes.0;
            place = last.place;
            early =
                omega arith;
            stands = stands;
          })))
      | else-goes_on+in_ok-push w ↦
          let row = w.index-rows-x-else-goes_on in
          let here_is = sym row.is ∙ get_or_read rows x row.result within row.is [] in
          let joined = w.union_with.ensures in
          let new : List ℕ = w.union_with.new.self in
          let pushed = w.in_ok-push.ensures.items in
          rw (w.rows-is, w.front-is)
          (front_step lists l j x here rows f new c.insert.new.self w.push.new.self f.next within front
          (joined.len ∙ ap length here_is ∙ front.sized.width x within)
          (λ y has. (joined.has y).1 (inl (rw here_is has)))
          (λ p y early at. (joined.has y).1
          (inr ((front.before y).1 (record { place = p; early = early; stands = at }))))
          (λ y has. elim ((joined.has y).0 has) [
            | inl was ↦ inl (rw here_is at was)
            | inr early ↦ inr early
          ])
          (rw w.front-is at c.insert.ensures.len)
          (rw w.front-is at c.insert.ensures.has)
          (λ y contains. rw pushed (Contains-append_left f.fresh.items (x ∷ []) y contains))
          (λ y contains. Contains-push_cases f.fresh.items x y (rw pushed at contains))
          (omega arith)
          (inl (rw pushed (Contains-push f.fresh.items x))))
    ]
