-- Which lines are faulty after right lines, and what begins a spelling.
use Rattle.std.proofs.Common.{ℕ, ◌≡◌, ◌≢◌, ◌<◌, ◌≤◌, List, [], ◌∷◌, ◌++◌, length, map, refl, sym, ap, ◌∙◌}
use Rattle.std.proofs.Common.{subst, arith, Option, Some, None, Ok, IfSome}
use Rattle.std.proofs.lemmas.List.{append-nil, map_push}
use Rattle.std.proofs.lemmas.List.Elements.{All-nil, All-cons, All-append}
use Rattle.events.proofs.Legal.{legal_more}
use Rattle.format_words.specs.Words.{words_of}
use Rattle.format_words.proofs.ByLines.{one-version}
use Rattle.trace_text.specs.Reading.{entry_at}
use Rattle.trace_text.specs.Versions.{has_views, version_in}
use Rattle.trace_text.proofs.Spelled.{line-spells-none}
use Rattle.events.specs.History.{History, IsLegal, IsWellFormed, with_entry, response_of}
use Rattle.events.specs.Session.{first_refusal, reply_by}
use Rattle.events.specs.declared.TheConstants.{MOST_REPLICAS, MOST_NAMES}
use Rattle.events.specs.declared.entry.Entry.{Entry}
use Rattle.events.specs.declared.entry.Body.{Body}
use Rattle.events.specs.declared.refusal.Refusal.{Refusal}
use Rattle.events.specs.declared.refusal.Refusal.TheVariants.{NoReplica, OwnReceipt, NotYet, EntriesFull}
use Rattle.events.specs.declared.refusal.Refusal.TheVariants.{InsertsFull, LongResponse, PlacesFull, Memory}
use Rattle.specification.specs.Lines.{Line}
use Rattle.specification.specs.TraceText.{header_line, entry_line, replicas_line, trace_lines, IsEntry}
use Rattle.specification.specs.TraceText.{IsOfVersion, IsSpelledIn, IsFaultyLine, BeginsSpelling}
use Rattle.specification.specs.Versions.{Version, one}
use Rattle.trace_text.specs.Causes.{refusal_cause}
use Rattle.trace_text.specs.Progress.{good, IsLegalSoFar}
use Rattle.trace_text.specs.declared.reading.Reading.{Reading}
use Rattle.trace_text.specs.declared.reading.Reading.TheVariants.{Start, Headed, Entries}

-- one entry more is one line more
pub one-line-more : (version : Version) (h : History) (e : Entry) (line : Line) → line ≡ entry_line e
    → trace_lines version (with_entry h e) ≡ trace_lines version h ++ line ∷ []
one-line-more version h e line is =
    ap (λ ls. header_line version ∷ replicas_line h.replicas ∷ ls) (map_push entry_line h.entries e
    ∙ ap (λ l. map entry_line h.entries ++ l ∷ []) (sym is))

-- a line whose entry is refused
pub refused-line : (version : Version) (h : History) (line : Line) (e : Entry) (why : Refusal)
    → IsSpelledIn version h → IsEntry version e → line ≡ entry_line e →
    (why ≢ Memory → first_refusal h.replicas h.entries e ≡ Some why)
    → IfSome (refusal_cause why) (IsFaultyLine (trace_lines version h) line)
refused-line version h line e NoReplica spelled k is first =
    (version, h, spelled, refl, e, k, is, first (λ p. cc))
refused-line version h line e OwnReceipt spelled k is first =
    (version, h, spelled, refl, e, k, is, first (λ p. cc))
refused-line version h line e (NotYet have) spelled k is first =
    (version, h, spelled, refl, e, k, is, first (λ p. cc))
refused-line version h line e EntriesFull spelled k is first =
    (version, h, spelled, refl, e, k, is, first (λ p. cc))
refused-line version h line e InsertsFull spelled k is first =
    (version, h, spelled, refl, e, k, is, first (λ p. cc))
refused-line version h line e LongResponse spelled k is first =
    (version, h, spelled, refl, e, k, is, first (λ p. cc))
refused-line version h line e PlacesFull spelled k is first =
    (version, h, spelled, refl, e, k, is, first (λ p. cc))
refused-line version h line e Memory spelled k is first = tt

-- a line that is not read is no entry's in the version of the first line
pub shape-of : (version : Version) (line : Line) → entry_at (has_views version) (words_of line) ≡ None
    → (other : Version) (e : Entry) → header_line version ≡ header_line other → IsEntry other e
    → line ≢ entry_line e
shape-of version line none other e same k is =
    line-spells-none version line none e
    (subst (λ v. IsEntry v e) (sym (one-version header_line refl version other same)) k) is

-- with an entry that is not refused, the version spells the recording still
pub spelled-more : (version : Version) (h : History) (e : Entry) → IsSpelledIn version h → IsEntry version e
    → first_refusal h.replicas h.entries e ≡ None → IsSpelledIn version (with_entry h e)
spelled-more version h e (legal, of_version) k none = (
  legal_more h e legal k.1 none,
  All-append (IsOfVersion version) h.entries (e ∷ []) of_version
      (All-cons (IsOfVersion version) e [] k.2 (All-nil (IsOfVersion version))),
)

no-split : (earlier later : List Entry) (e : Entry) → [] ≡ earlier ++ e ∷ later → ⊥
no-split [] later e h = cc
no-split (d ∷ earlier) later e h = cc

-- a recording without entries
empty-legal : (n : ℕ) → 1 ≤ n → n ≤ MOST_REPLICAS → IsLegal (record { replicas = n; entries = [] })
empty-legal n low high = record {
  some_replica = low;
  few_replicas = high;
  replica_known = All-nil (λ (e : Entry). e.replica < n);
  well_formed = All-nil (λ (e : Entry). IsWellFormed e.body);
  limits =
      λ r. record {
        entries = omega arith;
        inserts = omega arith;
        names = All-nil (λ (b : Body). length (response_of b) ≤ MOST_NAMES);
        places = omega arith;
      };
  receipts = λ earlier later e h. absurd (no-split earlier later e h);
}

pub empty-spelled : (version : Version) (n : ℕ) → 1 ≤ n → n ≤ MOST_REPLICAS
    → IsSpelledIn version (record { replicas = n; entries = [] })
empty-spelled version n low high = (empty-legal n low high, All-nil (IsOfVersion version))

abbrev smallest : History
smallest = record { replicas = 1; entries = [] }

smallest-spelled : (version : Version) → IsSpelledIn version smallest
smallest-spelled version = empty-spelled version 1 (omega arith) (omega arith)

-- no line, and the first line, begin a spelling
pub nothing-begins : BeginsSpelling []
nothing-begins = (one, smallest, smallest-spelled one, trace_lines one smallest, refl)

pub header-begins : (version : Version) → BeginsSpelling (header_line version ∷ [])
header-begins version = (version, smallest, smallest-spelled version, replicas_line 1 ∷ [], refl)

pub lines-begin : (version : Version) (h : History) → IsSpelledIn version h
    → BeginsSpelling (trace_lines version h)
lines-begin version h spelled = (version, h, spelled, [], append-nil (trace_lines version h))

pub so-far-begins : (r : Reading) → IsLegalSoFar r → BeginsSpelling (good r)
so-far-begins Start legal = nothing-begins
so-far-begins (Headed version) legal = header-begins (version_in version)
so-far-begins (Entries recording) legal = lines-begin recording.0 recording.1 legal

-- what is recorded is not refused
pub none-refused : (why : Option Refusal) (n m : ℕ) → reply_by why n ≡ Ok m → why ≡ None
none-refused None n m is = refl
none-refused (Some why) n m is = absurd (cc)
