-- The pieces of a trace that were read so far, and the one at which memory ran out.
use Rattle.std.proofs.Common.{◌≡◌, ◌++◌, ◌∷◌, [], ℕ, List, None, Some, ap, subst, sym}
use Rattle.std.specs.Io.KnownBytes.{Consumes}
use Rattle.std.proofs.KnownBytes.{Consumes-trans}
use Rattle.byte_streams.specs.Streams.{Makes, ReadCall, SourceState}
use Rattle.byte_streams.proofs.Calls.{Makes-trans, ReadSoFar}
use Rattle.trace_text.specs.Fed.{ReaderState, UNFED}
use Rattle.engines.specs.OutOfMemory.{HasMemoryLine, RunsOutAtPiece}

pub none-faulty : (reader : ReaderState) → reader ≡ UNFED → reader.fault ≡ None
none-faulty reader is = ap (λ r. r.fault) is

-- memory ran out at the last piece
pub ran-out : (old now new : SourceState) (text piece : List ℕ) (asked : ℕ)
    → Consumes old.bytes now.bytes text → Consumes now.bytes new.bytes piece → ReadSoFar old now text
    → Makes now.calls new.calls (record { asked = asked; came = Some piece } ∷ [])
    → HasMemoryLine text piece → RunsOutAtPiece old new
ran-out old now new text piece asked read came before one line =
    let call : ReadCall = record { asked = asked; came = Some piece } in record {
      calls = before.calls;
      asked = asked;
      piece = piece;
      came = before.came;
      made = Makes-trans old.calls now.calls new.calls before.calls (call ∷ []) before.made one;
      bytes = subst (λ t. Consumes old.bytes new.bytes (t ++ piece)) (sym before.gave)
          (Consumes-trans old.bytes now.bytes new.bytes text piece read came);
      line = subst (λ t. HasMemoryLine t piece) (sym before.gave) line;
    }
