-- The depths and the noted numbers are handed on as slices.
use Rattle.std.proofs.Common.{ℕ, List, sym, subst}
use Rattle.std.specs.Prelude.{◌↔◌, IsTrue, slice_index_or}
use Rattle.bit_tables.specs.Rule.{HaveDepths, MeetsRule}
use Rattle.cert_check.specs.Numbering.{lists_of}
use Rattle.cert_check.proofs.ways.Ways.are_deep.Goals as goal

pub are_deep-requires-clause-noted : goal.are_deep-requires-clause-noted
are_deep-requires-clause-noted c =
    subst (λ (l : List ℕ). HaveDepths l c.args.most c.deref-2.result.now) (sym c.deref.ensures.value)
    (subst (λ (l : List ℕ). HaveDepths c.args.depths.now.depths.items c.args.most l)
    (sym c.deref-2.ensures.value) c.requires.noted)

pub returns-clause-deep : goal.returns-clause-deep
returns-clause-deep c =
    subst (λ (l : List ℕ). IsTrue c.are_deep.result ↔ MeetsRule (lists_of c.args.numbered.now) c.args.first
    c.args.source c.args.most (λ x. slice_index_or l x c.args.most)) c.deref.ensures.value
    c.are_deep.ensures.deep
