-- What is written of a recording: the text, one entry longer, and the version.
use Rattle.std.proofs.Common.{◌≡◌, ℕ, zero, suc, ◌+◌, ◌<◌, Bool, true, false, cond, length, List, [], ◌∷◌}
use Rattle.std.proofs.Common.{◌++◌, map, take, slice_get, Option, Some, None, MatchOption, refl, sym, ap, ◌∙◌}
use Rattle.std.proofs.lemmas.Bool.{false≢true}
use Rattle.std.proofs.lemmas.Option.{same_Some}
use Rattle.std.specs.List.{All}
use Rattle.std.proofs.lemmas.List.Elements.{All-nil, All-cons}
use Rattle.events.specs.History.{History, IsLegal, is_view}
use Rattle.events.specs.declared.entry.Entry.{Entry}
use Rattle.specification.specs.Lines.{Line, text_of}
use Rattle.format_words.proofs.LineLists.{line-more}
use Rattle.format_words.proofs.NameList.{front-more, not-past}
use Rattle.specification.specs.TraceText.{header_line, replicas_line, entry_line, version_of, IsOfVersion}
use Rattle.specification.specs.TraceText.{Spells, trace_text}
use Rattle.specification.specs.Versions.{Version, one, two}

-- the lines of a recording's first entries
abbrev pub first_lines : Version → History → ℕ → List Line
first_lines version h i = header_line version ∷ replicas_line h.replicas ∷ map entry_line (take i h.entries)

pub entry-more : (text : List ℕ) (version : Version) (h : History) (i : ℕ) (e : Entry)
    → text ≡ text_of (first_lines version h i) → slice_get h.entries i ≡ Some e
    → text ++ (entry_line e ++ 10 ∷ []) ≡ text_of (first_lines version h (i + 1))
entry-more text version h i e =
    line-more entry_line [] text (header_line version ∷ replicas_line h.replicas ∷ []) h.entries i e

-- no view so far, and none after it
pub no-view-more : (es : List Entry) (e : Entry) → version_of es ≡ one → is_view e.body ≡ false
    → version_of (es ++ e ∷ []) ≡ one
no-view-more [] e none plain = rw plain refl
no-view-more (x ∷ es) e none plain = go (is_view x.body) none (λ is. no-view-more es e is plain)
  where
    go : (view : Bool) → cond view two (version_of es) ≡ one
        → (version_of es ≡ one → version_of (es ++ e ∷ []) ≡ one)
        → cond view two (version_of (es ++ e ∷ [])) ≡ one
    go true is more = absurd (cc)
    go false is more = more is

pub front-plain : (h : History) (i : ℕ) (seen : Bool)
    → MatchOption (slice_get h.entries i) (seen ≡ false) (λ e. seen ≡ is_view e.body) → seen ≡ false
    → i < length h.entries → version_of (take i h.entries) ≡ one → version_of (take (i + 1) h.entries) ≡ one
front-plain h i seen is plain low none = go (slice_get h.entries i) refl is
  where
    go : (o : Option Entry) → slice_get h.entries i ≡ o
        → MatchOption o (seen ≡ false) (λ e. seen ≡ is_view e.body)
        → version_of (take (i + 1) h.entries) ≡ one
    go None at k = absurd (not-past h.entries i low at)
    go (Some e) at k =
        ap version_of (front-more h.entries i e at) ∙ no-view-more (take i h.entries) e none (sym k ∙ plain)

-- where a view is, the version is the second
view-in : (es : List Entry) (i : ℕ) (e : Entry) → slice_get es i ≡ Some e → is_view e.body ≡ true
    → version_of es ≡ two
view-in [] i e at view = absurd (cc)
view-in (x ∷ es) zero e at view = let same : x ≡ e = same_Some x e at in
    rw (ap (λ (d : Entry). is_view d.body) same ∙ view) refl
view-in (x ∷ es) (suc i) e at view = go (is_view x.body) (view-in es i e at view)
  where
    go : (seen : Bool) → version_of es ≡ two → cond seen two (version_of es) ≡ two
    go true is = refl
    go false is = is

pub view-there : (h : History) (i : ℕ) (seen : Bool)
    → MatchOption (slice_get h.entries i) (seen ≡ false) (λ e. seen ≡ is_view e.body) → seen ≡ true
    → version_of h.entries ≡ two
view-there h i seen is some = go (slice_get h.entries i) refl is
  where
    go : (o : Option Entry) → slice_get h.entries i ≡ o
        → MatchOption o (seen ≡ false) (λ e. seen ≡ is_view e.body) → version_of h.entries ≡ two
    go None at k = absurd (false≢true (sym k ∙ some))
    go (Some e) at k = view-in h.entries i e at (sym k ∙ some)

-- each entry is of the version that is written
of-written : (es : List Entry) → All (IsOfVersion (version_of es)) es
of-written [] = All-nil (IsOfVersion one)
of-written (e ∷ es) = go (is_view e.body) refl (of-written es)
  where
    of-both : (version : Version) → is_view e.body ≡ false → IsOfVersion version e
    of-both one plain = plain
    of-both two plain = tt

    go : (view : Bool) → is_view e.body ≡ view → All (IsOfVersion (version_of es)) es
        → All (IsOfVersion (cond view two (version_of es))) (e ∷ es)
    go true is rest = λ i d low. tt
    go false is rest = All-cons (IsOfVersion (version_of es)) e es (of-both (version_of es) is) rest

-- what is written of a recording spells it
pub written-spells : (h : History) → IsLegal h → Spells (trace_text h) h
written-spells h legal = (version_of h.entries, (legal, of-written h.entries), refl)
