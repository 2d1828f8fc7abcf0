-- As many are the same as there are, or the next ones differ.
use Rattle.std.proofs.Common.{◌∙◌, sym, arith}
use Rattle.std.proofs.lemmas.Option.{get_or_from_slice_get, slice_get_within}
use Rattle.events.proofs.SameLanes.{take-same}
use Rattle.events.proofs.response.same_names.same_bytes.Goals as goal

pub returns-clause-same : goal.returns-clause-same
returns-clause-same c =
    take-same _ c.args.a.now c.args.b.now (omega (arith, c.same_within.ensures.within))
    (omega (arith, c.same_within.ensures.within)) c.same_within.ensures.same

pub returns-clause-most : goal.returns-clause-most
returns-clause-most c = λ x at other_at.
    let here = slice_get_within c.args.a.now _ x at in
    let there = slice_get_within c.args.b.now _ x other_at in
    c.same_within.ensures.differs (omega (arith, here, there)) (get_or_from_slice_get c.args.a.now _ x 0 at
    ∙ sym (get_or_from_slice_get c.args.b.now _ x 0 other_at))
