use Rattle.std.proofs.Common.{ℕ, Bool, List, length, subst, sym}
use Rattle.std.specs.Prelude.{◌↔◌, IfOk, IsTrue, slice_index_or}
use Rattle.std.proofs.lemmas.Result.{IfOk-weaker}
use Rattle.bit_tables.specs.Lists.{IsTableOf}
use Rattle.bit_tables.specs.Rule.{MeetsRule}
use Rattle.bit_tables.specs.Narrow.{AreSmall}
use Rattle.bit_tables.proofs.NarrowLemmas.{meets-alike, small-most, small-noted}
use Rattle.bit_tables.proofs.depths.are_deep.Goals as goal

-- what the answer says of these depths
abbrev Tells : List ℕ → ℕ → List (List ℕ) → ℕ → ℕ → Bool → Type 0
Tells depths count rows first source deep =
    (lists : List (List ℕ)) → IsTableOf (length depths) lists rows
    → IsTrue deep ↔ MeetsRule lists first source count (λ x. slice_index_or depths x count)

pub are_deep_in_layers-requires-2-clause-most : goal.are_deep_in_layers-requires-2-clause-most
are_deep_in_layers-requires-2-clause-most c =
    rw c.deref.ensures.value (small-most _ _ _ _ c.in_ok-small.ensures.alike c.requires.most)

pub are_deep_in_layers-requires-2-clause-noted : goal.are_deep_in_layers-requires-2-clause-noted
are_deep_in_layers-requires-2-clause-noted c =
    rw c.deref.ensures.value (small-noted _ _ _ _ c.in_ok-small.ensures.alike _ c.requires.noted)

pub returns : goal.returns
returns c =
    let depths : List ℕ = c.args.depths.now in
    let small : List ℕ = c.in_ok-small.small.items in
    let rows : List (List ℕ) = c.args.table.now in
    let alike : AreSmall depths c.args.count small c.in_ok-small.most = c.in_ok-small.ensures.alike in
    IfOk-weaker c.are_deep_in_layers-2.result (Tells small c.in_ok-small.most rows c.args.first c.args.source)
    (Tells depths c.args.count rows c.args.first c.args.source)
    (λ deep tells lists table.
    let it = tells lists (subst (λ n. IsTableOf n lists rows) (sym alike.len) table) in
    let both =
    meets-alike depths small c.args.count c.in_ok-small.most alike lists c.args.first c.args.source in
    (λ t. both.0 (it.0 t), λ meets. it.1 (both.1 meets)))
    (subst (λ (l : List ℕ). IfOk c.are_deep_in_layers-2.result
    (Tells l c.in_ok-small.most rows c.args.first c.args.source)) c.deref.ensures.value
    c.are_deep_in_layers-2.ensures)
