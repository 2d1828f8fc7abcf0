-- The table that is there now decides.
use Rattle.std.proofs.Common.{◌≡◌, ◌≤◌, ◌∙◌, ℕ, List, length, ap, sym, subst}
use Rattle.std.specs.Prelude.{◌↔◌, All, IsTrue, slice_index_or}
use Rattle.bit_tables.specs.Lists.{IsTableOf}
use Rattle.bit_tables.specs.Rule.{HaveDepths, MeetsRule}
use Rattle.cert_check.specs.Numbering.{lists_of}
use Rattle.cert_check.proofs.ways.are_deep_by_table.Goals as goal

pub are_deep-requires-clause-noted : goal.are_deep-requires-clause-noted
are_deep-requires-clause-noted c =
    subst (λ (l : List ℕ). HaveDepths l c.args.most c.deref-2.result.now) (sym c.deref.ensures.value)
    (subst (λ (l : List ℕ). HaveDepths c.args.depths.now.depths.items c.args.most l)
    (sym c.deref-2.ensures.value) c.requires.noted)

pub are_deep-requires-clause-most : goal.are_deep-requires-clause-most
are_deep-requires-clause-most c =
    subst (λ (ds : List ℕ). All (λ d. d ≤ c.args.most) ds) (sym c.deref.ensures.value) c.requires.most

pub returns-clause-deep : goal.returns-clause-deep
returns-clause-deep c =
    let t = c.args.numbered.now in
    let size : length c.deref.result.now ≡ length t.names.items =
    ap length c.deref.ensures.value ∙ c.requires.size in
    let made = rw c.in-Some.is at c.in_ok-make_table.ensures in
    let table = subst (λ (n : ℕ). IsTableOf n (lists_of t) c.in-Some.made) (sym size) made in
    subst (λ (l : List ℕ). IsTrue c.in_ok-deep.deep ↔ MeetsRule (lists_of t) c.args.first c.args.source
    c.args.most (λ x. slice_index_or l x c.args.most)) c.deref.ensures.value
    (c.in_ok-deep.ensures (lists_of t) table)
