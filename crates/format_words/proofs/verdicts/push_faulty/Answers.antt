-- The word, the operation and the end, joined to the right.
use Rattle.specification.specs.Lines.{operation_text}
use Rattle.format_words.proofs.Joined.{joined}
use Rattle.format_words.proofs.verdicts.push_faulty.Goals as goal

pub returns : goal.returns
returns c =
    joined c.args.text.now.items c.args.word.now (operation_text c.args.at) c.args.end.now _ _ _
    c.in_ok-extend_from_slice.ensures.items c.in_ok-push_operation.ensures
    c.in_ok-extend_from_slice-2.ensures.items
