-- The list is shown beside those that were.
use Rattle.std.proofs.Common.{◌≡◌, ◌∙◌, ◌+◌, ◌/◌, ◌⊎◌, ℕ, inr, List, length, ap, subst}
use Rattle.std.proofs.Common.{arith}
use Rattle.std.specs.Prelude.{◌↔◌}
use Rattle.std.proofs.lemmas.List.{take_at}
use Rattle.std.proofs.lemmas.Result.{on_ok_weaker}
use Rattle.bit_tables.specs.Sets.{Has}
use Rattle.bit_tables.specs.Lists.{HasInOrder, HaveWidth, row_of}
use Rattle.bit_tables.proofs.Places.{table_more}
use Rattle.bit_tables.proofs.table.AfterTable.add.Goals as goal

pub returns-clause-table : goal.returns-clause-table
returns-clause-table c =
    let new : List (List ℕ) = c.note.new.rows in
    let same : c.deref_mut.result.now ≡ c.args.self.now = c.deref_mut.ensures.value ∙ c.self.view_is in
    let len : length new ≡ length c.args.self.now = c.note.ensures.len ∙ ap length same in
    let width : HaveWidth (length c.args.self.now / 64 + 1) new =
    subst (λ (rows : List (List ℕ)). HaveWidth (length rows / 64 + 1) new) same c.note.ensures.width in
    rw (take_at new _ _ (c.note.ensures.len ∙ c.deref_mut.ensures.len))
    (on_ok_weaker c.note.result
    (λ noted lists is. table_more lists c.args.list.now c.args.self.now new len width
    (λ a b low. subst (λ (rows : List (List ℕ)). Has (row_of new a) b
    ↔ (Has (row_of rows a) b ⊎ HasInOrder c.args.list.now a b)) same
    (noted a b (omega (arith, low, ap length same)))) is)
    c.note.ensures.shown)

pub returns-clause-known : goal.returns-clause-known
returns-clause-known c =
    rw (take_at c.note.new.rows _ _ (c.note.ensures.len ∙ c.deref_mut.ensures.len))
    (on_ok_weaker c.note.result (λ noted a b low shown. (noted a b (omega (arith, low, c.note.ensures.len))).1
    (inr shown)) c.note.ensures.shown)
