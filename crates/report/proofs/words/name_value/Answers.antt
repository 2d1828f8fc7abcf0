-- A name's bytes are ASCII.
use Rattle.std.proofs.Common.{ℕ, List, ◌<◌, All, sym, subst}
use Rattle.report.proofs.Ascii.{ascii-name}
use Rattle.report.proofs.words.name_value.Goals as goal

pub ascii_text-requires : goal.ascii_text-requires
ascii_text-requires c =
    subst (λ (bytes : List ℕ). All (λ b. b < 128) bytes) (sym c.bytes.ensures.value)
    (ascii-name c.args.name.now c.bytes.ensures.name)
