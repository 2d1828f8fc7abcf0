-- ASCII bytes are UTF-8.
use Rattle.std.proofs.lemmas.Str.{IsUtf8-from_ascii}
use Rattle.report.proofs.Ascii.{ascii}
use Rattle.report.proofs.words.ascii_text.Goals as goal

pub unreachable-requires : goal.unreachable-requires
unreachable-requires c = c.in-Err.ensures.cases.0 (IsUtf8-from_ascii c.args.bytes.now (ascii c.args.bytes.now c.requires))
