-- The head, the names and the LF, joined to the right.
use Rattle.std.proofs.Common.{◌∷◌, []}
use Rattle.specification.specs.Lines.{names_text}
use Rattle.format_words.proofs.Joined.{joined}
use Rattle.format_words.proofs.verdicts.push_order.Goals as goal

pub returns : goal.returns
returns c =
    joined c.args.text.now.items c.args.head.now (names_text c.args.order.now) (10 ∷ []) _ _ _
    c.in_ok-extend_from_slice.ensures.items c.in_ok-push_list.ensures c.in_ok-push.ensures.items
