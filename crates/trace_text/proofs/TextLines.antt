-- A text falls into its lines in one way.
use Rattle.std.proofs.Common.{◌≡◌, ◌==◌, false, List, ◌∷◌, ◌++◌, map, decimal, codes, refl, arith}
use Rattle.std.specs.List.{All}
use Rattle.std.proofs.lemmas.List.Elements.{All-cons, All-weaker, All-map}
use Rattle.events.specs.History.{History, IsWellFormed}
use Rattle.events.specs.declared.entry.Entry.{Entry}
use Rattle.events.specs.declared.entry.Body.{Body}
use Rattle.events.specs.declared.entry.Body.TheVariants.{Ins, Del, Read, View, Recv}
use Rattle.specification.specs.Lines.{Line, names_text}
use Rattle.specification.specs.TraceText.{header_line, body_text, entry_line, replicas_line, trace_lines}
use Rattle.specification.specs.TraceText.{IsEntry, IsSpelledIn, BeginsSpelling}
use Rattle.specification.specs.Versions.{Version, one, two}
use Rattle.format_words.proofs.Bytes.{lacks-name, lacks-number, lacks-literal, lacks-both}
use Rattle.format_words.proofs.TextLines.{LacksLf, names-one, all-front}

body-one : (b : Body) → IsWellFormed b → LacksLf (body_text b)
body-one (Ins name at response) h =
    lacks-both 10 (((codes " ins " ++ name) ++ 32 ∷ decimal at) ++ codes " :") (names_text response)
    (lacks-both 10 ((codes " ins " ++ name) ++ 32 ∷ decimal at) (codes " :")
    (lacks-both 10 (codes " ins " ++ name) (32 ∷ decimal at)
    (lacks-both 10 (codes " ins ") name (lacks-literal 10 (codes " ins ") refl) (lacks-name 10 name refl h.0))
    (All-cons (λ b. (b == 10) ≡ false) 32 (decimal at) refl (lacks-number 10 at (omega arith) h.1)))
    (lacks-literal 10 (codes " :") refl))
    (names-one response h.2)
body-one (Del name response) h =
    lacks-both 10 ((codes " del " ++ name) ++ codes " :") (names_text response)
    (lacks-both 10 (codes " del " ++ name) (codes " :")
    (lacks-both 10 (codes " del ") name (lacks-literal 10 (codes " del ") refl) (lacks-name 10 name refl h.0))
    (lacks-literal 10 (codes " :") refl))
    (names-one response h.1)
body-one (Read response) h =
    lacks-both 10 (codes " read :") (names_text response) (lacks-literal 10 (codes " read :") refl)
    (names-one response h)
body-one (View response) h =
    lacks-both 10 (codes " view :") (names_text response) (lacks-literal 10 (codes " view :") refl)
    (names-one response h)
body-one (Recv seen) h =
    lacks-both 10 (codes " recv " ++ decimal seen.replica) (32 ∷ decimal seen.n)
    (lacks-both 10 (codes " recv ") (decimal seen.replica) (lacks-literal 10 (codes " recv ") refl)
    (lacks-number 10 seen.replica (omega arith) h.0))
    (All-cons (λ b. (b == 10) ≡ false) 32 (decimal seen.n) refl (lacks-number 10 seen.n (omega arith) h.2))

entry-one : (version : Version) (e : Entry) → IsEntry version e → LacksLf (entry_line e)
entry-one version e h =
    lacks-both 10 (decimal e.replica) (body_text e.body) (lacks-number 10 e.replica (omega arith) h.0)
    (body-one e.body h.1)

-- each entry of a recording has a spelling in the versions that spell the recording
pub legal-entries : (version : Version) (h : History) → IsSpelledIn version h
    → All (IsEntry version) h.entries
legal-entries version h (legal, of_version) k d low = (
  let below = legal.replica_known k d low in omega (arith, below, legal.few_replicas),
  legal.well_formed k d low,
  of_version k d low,
)

header-one : (version : Version) → LacksLf (header_line version)
header-one one = lacks-literal 10 (codes "trace 1") refl
header-one two = lacks-literal 10 (codes "trace 2") refl

pub lines-lack : (version : Version) (h : History) → IsSpelledIn version h
    → All LacksLf (trace_lines version h)
lines-lack version h (legal, of_version) =
    All-cons LacksLf (header_line version) (replicas_line h.replicas ∷ map entry_line h.entries)
    (header-one version)
    (All-cons LacksLf (replicas_line h.replicas) (map entry_line h.entries)
    (lacks-both 10 (codes "replicas ") (decimal h.replicas) (lacks-literal 10 (codes "replicas ") refl)
    (lacks-number 10 h.replicas (omega arith) (omega (arith, legal.few_replicas))))
    (All-map LacksLf entry_line h.entries (All-weaker (IsEntry version) (λ e. LacksLf (entry_line e))
    (entry-one version) h.entries (legal-entries version h (legal, of_version)))))

-- what begins a spelling has no LF within its lines
pub beginning-lacks : (lines : List Line) → BeginsSpelling lines → All LacksLf lines
beginning-lacks lines (version, h, spelled, more, is) =
    all-front LacksLf lines more (rw is (lines-lack version h spelled))
