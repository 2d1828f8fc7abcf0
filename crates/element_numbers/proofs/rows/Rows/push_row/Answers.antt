-- The row ends where all items end.
use Rattle.std.proofs.Common.{◌∷◌, ◌++◌, [], length, sym, ◌∙◌, ap}
use Rattle.std.proofs.lemmas.Result.{on_ok_weaker}
use Rattle.element_numbers.proofs.Cuts.{row-ended}
use Rattle.element_numbers.proofs.rows.Rows.push_row.Goals as goal

pub returns : goal.returns
returns g c =
    let new = c.end_row.new.self in
    let both = on_ok_weaker c.end_row.result
    (λ ends. row-ended c.args.self.now new c.args.row.now c.requires (c.end_row.ensures.items
    ∙ c.in_ok-extend_from_slice.ensures.items
    ∙ ap (λ items. items ++ c.args.row.now) c.make_first_room.ensures.items)
    (ends ∙ ap (λ n. c.make_first_room.new.self.ends.items ++ n ∷ [])
    (ap length (sym c.end_row.ensures.items))
    ∙ ap (λ ends. ends ++ length new.items.items ∷ []) c.make_first_room.ensures.ends))
    c.end_row.ensures.ends in
    record {
      cut = on_ok_weaker c.end_row.result (λ is. is.1) both;
      rows = on_ok_weaker c.end_row.result (λ is. is.0) both;
    }
