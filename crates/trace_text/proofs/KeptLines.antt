-- What is kept of a line stands for it: the line itself, the line without some of its names, or one space.
use Rattle.std.proofs.Common.{◌≡◌, ◌≢◌, ℕ, ◌+◌, ◌<◌, ◌≤◌, ◌^◌, ◌==◌, false, List, [], ◌∷◌, ◌++◌, get_or}
use Rattle.std.proofs.Common.{length, length-append, map, refl, sym, ap, ◌∙◌, subst, arith, decimal, codes}
use Rattle.std.proofs.Common.{Option, Some, None, IfSome, Result, Ok, Err, ◌↔◌, true, inl, inr}
use Rattle.std.specs.Result.{is_ok}
use Rattle.std.specs.List.{All}
use Rattle.std.proofs.lemmas.List.{append_assoc, append-nil}
use Rattle.std.proofs.lemmas.List.Elements.{All-head, All-tail, All-cons, All-nil, All-append}
use Rattle.std.proofs.lemmas.Bool.{ltb-false}
use Rattle.std.proofs.lemmas.Fmt.{length-decimal-le, decimal_nonempty}
use Rattle.events.specs.History.{History, response_of}
use Rattle.events.specs.Names.{NameBytes, IsName}
use Rattle.events.specs.declared.TheConstants.{MOST_REPLICAS, MOST_NAMES}
use Rattle.events.specs.declared.entry.Entry.{Entry}
use Rattle.events.proofs.Refusals.{is_taken}
use Rattle.specification.specs.Lines.{Line}
use Rattle.specification.specs.TraceText as format
use Rattle.specification.specs.TraceText.{header_line, IsEntry, IsSpelledIn, IsFaultyLine, BeginsSpelling}
use Rattle.specification.specs.TraceText.{entry_line, replicas_line, trace_lines}
use Rattle.specification.specs.Versions.{Version, one, two}
use Rattle.format_words.specs.Words.{Word, words_of}
use Rattle.format_words.specs.Reading.{Says, name_of}
use Rattle.format_words.specs.declared.stop.Shape as unsaid
use Rattle.format_words.proofs.NameWords.{name-is, name_of-name}
use Rattle.std.proofs.lemmas.Option.{none-some}
use Rattle.format_words.proofs.LineWords.{word-then, name-lacks}
use Rattle.trace_text.specs.Kept.{Kept, EMPTY, GIVEN_UP, EndsWithWord, HasNoSpace, IsKeptOf, Keeps, StandsFor}
use Rattle.trace_text.proofs.LineWords.{entry_words, words-of-line}
use Rattle.trace_text.proofs.LongLines.{IsShort, long-entry, words-apart, word-grows, entry-short}
use Rattle.trace_text.proofs.LongLines.{number-short}
use Rattle.format_words.proofs.LineLists.{line-there, all-of}
use Rattle.trace_text.proofs.OneReading.{line-right}
use Rattle.trace_text.proofs.TextLines.{legal-entries}
use Rattle.trace_text.proofs.Accepted.{accepted}
use Rattle.trace_text.proofs.SecondLine.{replicas-words}

-- each line stands for itself
pub stands-itself : (line : Line) → StandsFor line line
stands-itself line =
    record {
      faults = λ lines more cause f. f;
      right = λ lines more begins. refl;
      some = λ h. h;
      none = λ h. h;
    }

pub stands-through : (a b c : Line) → StandsFor a b → StandsFor b c → StandsFor a c
stands-through a b c h k = record {
  faults = λ lines more cause f. k.faults lines more cause (h.faults lines more cause f);
  right = λ lines more begins. let same : a ≡ b = h.right lines more begins in
      same ∙ k.right lines more
      (subst (λ (l : Line). BeginsSpelling (lines ++ (l ++ more) ∷ [])) same begins);
  some = λ l. k.some (h.some l);
  none = λ l. h.none (k.none l);
}

-- with the same bytes behind both
pub stands-on : (a b bytes : Line) → StandsFor a b → StandsFor (a ++ bytes) (b ++ bytes)
stands-on a b bytes h = record {
  faults =
      λ lines more cause f. subst (λ (l : Line). IsFaultyLine lines l cause) (sym (append_assoc b bytes more))
      (h.faults lines (bytes ++ more) cause
      (subst (λ (l : Line). IsFaultyLine lines l cause) (append_assoc a bytes more) f));
  right = λ lines more begins. ap (λ l. l ++ bytes) (h.right lines (bytes ++ more)
      (subst (λ (l : Line). BeginsSpelling (lines ++ l ∷ [])) (append_assoc a bytes more) begins));
  some = λ l. by-length a b h.some l;
  none = λ l. by-length b a h.none l;
}
  where
    by-length : (c d : Line) → (1 ≤ length c → 1 ≤ length d) → 1 ≤ length (c ++ bytes)
        → 1 ≤ length (d ++ bytes)
    by-length [] d k l = omega (arith, l, length-append d bytes)
    by-length (x ∷ c) d k l = omega (arith, k (omega arith), length-append d bytes)

-- where nothing follows
pub stands-faulty : (kept line : Line) (lines : List Line) (cause : Option format.Cause) → StandsFor kept line
    → IfSome cause (IsFaultyLine lines kept) → IfSome cause (IsFaultyLine lines line)
stands-faulty kept line lines None h f = tt
stands-faulty kept line lines (Some cause) h f =
    subst (λ (l : Line). IsFaultyLine lines l cause) (append-nil line)
    (h.faults lines [] cause (subst (λ (l : Line). IsFaultyLine lines l cause) (sym (append-nil kept)) f))

pub stands-right : (kept line : Line) (lines : List Line) → StandsFor kept line
    → BeginsSpelling (lines ++ kept ∷ []) → kept ≡ line
stands-right kept line lines h begins =
    h.right lines [] (subst (λ (l : Line). BeginsSpelling (lines ++ l ∷ [])) (sym (append-nil kept)) begins)

-- whatever follows, the line is not right
pub record IsNever (line : Line) : Type 0 where
  pub first : (more : Line) (version : Version) → line ++ more ≢ header_line version
  pub second : (more : Line) (n : ℕ) → n ≤ MOST_REPLICAS → line ++ more ≢ replicas_line n
  pub entry : (more : Line) (version : Version) (e : Entry) → IsEntry version e → line ++ more ≢ entry_line e

never-right : (lines : List Line) (line more : Line) → IsNever line → (version : Version) (h : History)
    → IsSpelledIn version h → (rest : List Line) → trace_lines version h ≡ lines ++ (line ++ more) ∷ rest → ⊥
never-right [] line more k version h spelled rest is =
    line-right version h [] (line ++ more) rest format.header spelled is (k.first more)
never-right (a ∷ []) line more k version h spelled rest is =
    line-right version h (a ∷ []) (line ++ more) rest format.replicas spelled is
    (λ n low high. k.second more n high)
never-right (a ∷ b ∷ lines) line more k version h spelled rest is =
    line-right version h (a ∷ b ∷ lines) (line ++ more) rest format.shape spelled is
    (λ v e first. k.entry more v e)

never-begins : (lines : List Line) (line more : Line) → IsNever line
    → BeginsSpelling (lines ++ (line ++ more) ∷ []) → ⊥
never-begins lines line more k (version, h, spelled, rest, is) =
    never-right lines line more k version h spelled rest (sym is
    ∙ append_assoc lines ((line ++ more) ∷ []) rest)

never-faults : (a b : Line) → IsNever a → IsNever b → (lines : List Line) (more : Line) (cause : format.Cause)
    → IsFaultyLine lines (a ++ more) cause → IsFaultyLine lines (b ++ more) cause
never-faults a b h k [] more format.header f = k.first more
never-faults a b h k [] more format.replicas f = absurd f
never-faults a b h k [] more format.shape f = absurd f
never-faults a b h k [] more format.cut f = absurd f
never-faults a b h k [] more (format.refused why) f = absurd f
never-faults a b h k (x ∷ []) more format.header f = absurd f
never-faults a b h k (x ∷ []) more format.replicas f = λ n low high. k.second more n high
never-faults a b h k (x ∷ []) more format.shape f = absurd f
never-faults a b h k (x ∷ []) more format.cut f = absurd f
never-faults a b h k (x ∷ []) more (format.refused why) f = absurd f
never-faults a b h k (x ∷ y ∷ lines) more format.header f = absurd f
never-faults a b h k (x ∷ y ∷ lines) more format.replicas f = absurd f
never-faults a b h k (x ∷ y ∷ lines) more format.shape f = λ v e first. k.entry more v e
never-faults a b h k (x ∷ y ∷ lines) more format.cut f = absurd f
never-faults a b h k (x ∷ y ∷ lines) more (format.refused why) (v, g, legal, is, e, well, spelled, refused) =
    absurd (h.entry more v e well spelled)

-- of two lines that are never right, each stands for the other
never-stands : (a b : Line) → IsNever a → IsNever b → 1 ≤ length a → 1 ≤ length b → StandsFor a b
never-stands a b h k some others = record {
  faults = never-faults a b h k;
  right = λ lines more begins. absurd (never-begins lines a more h begins);
  some = λ l. others;
  none = λ l. some;
}

-- one space
space-never : IsNever (32 ∷ [])
space-never = record {
  first = λ more version is. no-header more version is;
  second = λ more n low is. cc;
  entry = λ more version e h is. no-word more version e h (ap words_of is ∙ words-of-line version e h);
}
  where
    no-header : (more : Line) (version : Version) → 32 ∷ more ≢ header_line version
    no-header more one is = absurd (omega (arith, ap (λ l. get_or l 0 0) is))
    no-header more two is = absurd (omega (arith, ap (λ l. get_or l 0 0) is))

    no-word : (more : Line) (version : Version) (e : Entry) → IsEntry version e
        → [] ∷ words_of more ≡ entry_words e → ⊥
    no-word more version e h is = let empty : [] ≡ decimal e.replica = cc in
        absurd (omega (arith, ap length empty, decimal_nonempty e.replica (omega (arith, h.0))))

-- a line that is long before a space
long-never-first : (front rest : Line) → 135333 ≤ length front → (version : Version)
    → front ++ 32 ∷ rest ≢ header_line version
long-never-first front rest long one is =
    absurd (omega (arith, long, ap length is, length-append front (32 ∷ rest)))
long-never-first front rest long two is =
    absurd (omega (arith, long, ap length is, length-append front (32 ∷ rest)))

long-never-second : (front rest : Line) (n : ℕ) → 135333 ≤ length front → n ≤ MOST_REPLICAS
    → front ++ 32 ∷ rest ≢ replicas_line n
long-never-second front rest n long high is =
    let few = length-decimal-le 10 n (omega arith) (omega (arith, high)) (omega (arith, high)) in
    absurd (omega (
      arith,
      few,
      long,
      ap length is,
      length-append front (32 ∷ rest),
      length-append (codes "replicas ") (decimal n),
    ))

one-name : All IsName (words_of (codes "a"))
one-name =
    All-cons IsName (codes "a") [] (record {
      some_byte = omega arith;
      few_bytes = omega arith;
      each_byte = refl;
    }) (All-nil IsName)

-- what stands behind a long front in an entry's line
names-behind : (version : Version) (e : Entry) → IsEntry version e → (front back : Line)
    → front ++ 32 ∷ back ≡ entry_line e → 135333 ≤ length front → All IsName (words_of back)
names-behind version e h front back is long =
    (long-entry version e h front back (codes "a") is long one-name).names

word-in : (front word more : Line) → (((front ++ 32 ∷ []) ++ word) ++ 32 ∷ []) ++ more
    ≡ front ++ 32 ∷ (word ++ 32 ∷ more)
word-in front word more = append_assoc ((front ++ 32 ∷ []) ++ word) (32 ∷ []) more
    ∙ append_assoc (front ++ 32 ∷ []) word (32 ∷ more) ∙ append_assoc front (32 ∷ []) (word ++ 32 ∷ more)

word-out : (front more : Line) → (front ++ 32 ∷ []) ++ more ≡ front ++ 32 ∷ more
word-out front more = append_assoc front (32 ∷ []) more

names-in : (version : Version) (e : Entry) → IsEntry version e → (front word more : Line)
    → front ++ 32 ∷ (word ++ 32 ∷ more) ≡ entry_line e → 135333 ≤ length front → HasNoSpace word
    → All IsName (word ∷ words_of more)
names-in version e h front word more is long alone =
    subst (All IsName) (word-then word more alone)
    (names-behind version e h front (word ++ 32 ∷ more) is long)

-- a word that is no name, behind a long front
bad-name-never : (front word : Line) → 135333 ≤ length front → HasNoSpace word → (IsName word → ⊥)
    → IsNever (((front ++ 32 ∷ []) ++ word) ++ 32 ∷ [])
bad-name-never front word long alone bad = record {
  first = λ more version is. long-never-first front (word ++ 32 ∷ more) long version
      (sym (word-in front word more) ∙ is);
  second =
      λ more n high is. long-never-second front (word ++ 32 ∷ more) n long high
      (sym (word-in front word more) ∙ is);
  entry = λ more version e h is. bad (All-head IsName word (words_of more)
      (names-in version e h front word more (sym (word-in front word more) ∙ is) long alone));
}

-- a word that is too long
long-word : (whole word more : Line) → EndsWithWord whole → HasNoSpace word → 33 ≤ length word
    → All IsShort (words_of ((whole ++ word) ++ more)) → ⊥
long-word whole word more (inl none) alone long short =
    let p = word-grows word more alone in
    let words : words_of ((whole ++ word) ++ more) ≡ (word ++ p.0) ∷ p.1 =
    ap (λ l. words_of ((l ++ word) ++ more)) none ∙ p.2 in
    let few : length (word ++ p.0) ≤ 32 =
    All-head IsShort (word ++ p.0) p.1 (subst (All IsShort) words short) in
    absurd (omega (arith, few, long, length-append word p.0))
long-word whole word more (inr (front, is)) alone long short =
    let p = word-grows word more alone in
    let text : (whole ++ word) ++ more ≡ front ++ 32 ∷ (word ++ more) =
    ap (λ l. (l ++ word) ++ more) is ∙ append_assoc (front ++ 32 ∷ []) word more
    ∙ append_assoc front (32 ∷ []) (word ++ more) in
    let words : words_of ((whole ++ word) ++ more) ≡ words_of front ++ ((word ++ p.0) ∷ p.1) =
    ap words_of text ∙ words-apart front (word ++ more) ∙ ap (λ l. words_of front ++ l) p.2 in
    let few : length (word ++ p.0) ≤ 32 =
    All-head IsShort (word ++ p.0) p.1
    (back (words_of front) ((word ++ p.0) ∷ p.1) (subst (All IsShort) words short)) in
    absurd (omega (arith, few, long, length-append word p.0))
  where
    back : (xs ys : List Word) → All IsShort (xs ++ ys) → All IsShort ys
    back [] ys h = h
    back (x ∷ xs) ys h = back xs ys (All-tail IsShort x (xs ++ ys) h)

header-short : (version : Version) → All IsShort (words_of (header_line version))
header-short one =
    All-cons IsShort (codes "trace") (codes "1" ∷ []) (omega arith)
    (All-cons IsShort (codes "1") [] (omega arith) (All-nil IsShort))
header-short two =
    All-cons IsShort (codes "trace") (codes "2" ∷ []) (omega arith)
    (All-cons IsShort (codes "2") [] (omega arith) (All-nil IsShort))

second-short : (n : ℕ) → n < 2 ^ 32 → All IsShort (words_of (replicas_line n))
second-short n small =
    subst (All IsShort) (sym (replicas-words n small)) (All-cons IsShort (codes "replicas") (decimal n ∷ [])
    (omega arith) (All-cons IsShort (decimal n) [] (number-short n small) (All-nil IsShort)))

long-word-never : (whole word : Line) → EndsWithWord whole → HasNoSpace word → 33 ≤ length word
    → IsNever (whole ++ word)
long-word-never whole word ends alone long = record {
  first = λ more version is. long-word whole word more ends alone long
      (subst (λ (l : Line). All IsShort (words_of l)) (sym is) (header-short version));
  second =
      λ more n high is. long-word whole word more ends alone long
      (subst (λ (l : Line). All IsShort (words_of l)) (sym is) (second-short n (omega (arith, high))));
  entry = λ more version e h is. long-word whole word more ends alone long
      (subst (All IsShort) (sym (ap words_of is ∙ words-of-line version e h)) (entry-short version e h));
}

-- no right line is so long
long-not-right : (version : Version) (h : History) (lines : List Line) (front back : Line) (rest : List Line)
    → IsSpelledIn version h → trace_lines version h ≡ lines ++ (front ++ 32 ∷ back) ∷ rest
    → 135333 ≤ length front → ⊥
long-not-right version h [] front back rest spelled is long =
    line-right version h [] (front ++ 32 ∷ back) rest format.header spelled is
    (long-never-first front back long)
long-not-right version h (a ∷ []) front back rest spelled is long =
    line-right version h (a ∷ []) (front ++ 32 ∷ back) rest format.replicas spelled is
    (λ n low high. long-never-second front back n long high)
long-not-right version h (a ∷ b ∷ lines) front back rest spelled is long =
    let others : map entry_line h.entries ≡ lines ++ (front ++ 32 ∷ back) ∷ rest = cc in
    let p = line-there entry_line h.entries lines rest (front ++ 32 ∷ back) others in
    let k = (all-of (IsEntry version) p.0 p.1 p.2
    (subst (All (IsEntry version)) p.3 (legal-entries version h spelled))).1 in
    let taken = is_taken h.replicas p.0 p.2 (accepted h p.0 p.1 p.2 spelled.0 p.3) in
    let few : length (response_of p.2.body) ≤ MOST_NAMES =
    ltb-false MOST_NAMES (length (response_of p.2.body)) taken.long in
    let le = long-entry version p.2 k front back (codes "a") p.5 long one-name in
    absurd (omega (arith, few, le.many))

left-out-faults : (front word : Line) → 135333 ≤ length front → IsName word
    → (lines : List Line) (more : Line) (cause : format.Cause) → IsFaultyLine lines (front ++ 32 ∷ more) cause
    → IsFaultyLine lines (front ++ 32 ∷ (word ++ 32 ∷ more)) cause
left-out-faults front word long name [] more format.header f = long-never-first front (word ++ 32 ∷ more) long
left-out-faults front word long name [] more format.replicas f = absurd f
left-out-faults front word long name [] more format.shape f = absurd f
left-out-faults front word long name [] more format.cut f = absurd f
left-out-faults front word long name [] more (format.refused why) f = absurd f
left-out-faults front word long name (x ∷ []) more format.header f = absurd f
left-out-faults front word long name (x ∷ []) more format.replicas f =
    λ n low high. long-never-second front (word ++ 32 ∷ more) n long high
left-out-faults front word long name (x ∷ []) more format.shape f = absurd f
left-out-faults front word long name (x ∷ []) more format.cut f = absurd f
left-out-faults front word long name (x ∷ []) more (format.refused why) f = absurd f
left-out-faults front word long name (x ∷ y ∷ lines) more format.header f = absurd f
left-out-faults front word long name (x ∷ y ∷ lines) more format.replicas f = absurd f
left-out-faults front word long name (x ∷ y ∷ lines) more format.shape f = λ version e first h is.
    let names = names-in version e h front word more is long (name-lacks word name) in
    let le =
    long-entry version e h front (word ++ 32 ∷ more) more is long
    (All-tail IsName word (words_of more) names) in
    f version le.other first le.is_entry le.spelled
left-out-faults front word long name (x ∷ y ∷ lines) more format.cut f = absurd f
left-out-faults front word long name (x ∷ y ∷ lines) more (format.refused why)
    (version, g, legal, is, e, h, spelled, refused) =
    let names =
    All-cons IsName word (words_of more) name (names-behind version e h front more spelled long) in
    let le =
    long-entry version e h front more (word ++ 32 ∷ more) spelled long
    (subst (All IsName) (sym (word-then word more (name-lacks word name))) names) in
    (version, g, legal, is, le.other, le.is_entry, le.spelled, le.same g.replicas g.entries ∙ refused)

-- a name may be left out behind a long front
left-out : (front word : Line) → 135333 ≤ length front → IsName word
    → StandsFor (front ++ 32 ∷ []) (((front ++ 32 ∷ []) ++ word) ++ 32 ∷ [])
left-out front word long name = record {
  faults =
      λ lines more cause f. subst (λ (l : Line). IsFaultyLine lines l cause) (sym (word-in front word more))
      (left-out-faults front word long name lines more cause
      (subst (λ (l : Line). IsFaultyLine lines l cause) (word-out front more) f));
  right = λ lines more begins. absurd (not-right lines more begins);
  some = λ l. omega (arith, length-append ((front ++ 32 ∷ []) ++ word) (32 ∷ []));
  none = λ l. omega (arith, length-append front (32 ∷ []));
}
  where
    not-right : (lines : List Line) (more : Line)
        → BeginsSpelling (lines ++ ((front ++ 32 ∷ []) ++ more) ∷ []) → ⊥
    not-right lines more (version, h, spelled, rest, is) =
        long-not-right version h lines front more rest spelled
        (sym is ∙ append_assoc lines (((front ++ 32 ∷ []) ++ more) ∷ []) rest
        ∙ ap (λ l. lines ++ l ∷ rest) (word-out front more)) long

-- what was kept, with one step more
pub part-kept : (kept : Kept) (part : Line) → HasNoSpace part → length kept.word + length part ≤ 32
    → Keeps kept part (record { whole = kept.whole; word = kept.word ++ part })
part-kept kept part alone few line k = record {
  stands =
      subst (λ (l : Line). StandsFor l (line ++ part)) (append_assoc kept.whole kept.word part)
      (stands-on (kept.whole ++ kept.word) line part k.stands);
  ends = k.ends;
  one_word = All-append (λ b. (b == 32) ≡ false) kept.word part k.one_word alone;
  few_whole = k.few_whole;
  few_word = omega (arith, few, length-append kept.word part);
}

given-up : (line : Line) (other : Line) → IsNever other → 1 ≤ length other → StandsFor other line
    → IsKeptOf GIVEN_UP line
given-up line other never some stands = record {
  stands =
      stands-through (32 ∷ []) other line (never-stands (32 ∷ []) other space-never never (omega arith) some)
      stands;
  ends = inr ([], refl);
  one_word = All-nil (λ b. (b == 32) ≡ false);
  few_whole = omega arith;
  few_word = omega arith;
}

pub part-given-up : (kept : Kept) (part : Line) → HasNoSpace part → 32 < length kept.word + length part
    → Keeps kept part GIVEN_UP
part-given-up kept part alone many line k =
    let long : 33 ≤ length (kept.word ++ part) = omega (arith, many, length-append kept.word part) in
    given-up (line ++ part) (kept.whole ++ (kept.word ++ part))
    (long-word-never kept.whole (kept.word ++ part) k.ends
    (All-append (λ b. (b == 32) ≡ false) kept.word part k.one_word alone) long)
    (omega (arith, long, length-append kept.whole (kept.word ++ part)))
    (subst (λ (l : Line). StandsFor l (line ++ part)) (append_assoc kept.whole kept.word part)
    (stands-on (kept.whole ++ kept.word) line part k.stands))

pub word-kept : (kept : Kept) → length kept.whole < 135334
    → Keeps kept (32 ∷ []) (record { whole = (kept.whole ++ kept.word) ++ 32 ∷ []; word = [] })
word-kept kept few line k = record {
  stands =
      subst (λ (l : Line). StandsFor l (line ++ 32 ∷ []))
      (sym (append-nil ((kept.whole ++ kept.word) ++ 32 ∷ [])))
      (stands-on (kept.whole ++ kept.word) line (32 ∷ []) k.stands);
  ends = inr (kept.whole ++ kept.word, refl);
  one_word = All-nil (λ b. (b == 32) ≡ false);
  few_whole =
      omega (
        arith,
        few,
        k.few_word,
        length-append (kept.whole ++ kept.word) (32 ∷ []),
        length-append kept.whole kept.word,
      );
  few_word = omega arith;
}

-- whole words at once, and the begin of one more
pub at-once-kept : (kept : Kept) (bytes words part : List ℕ) → bytes ≡ words ++ part → HasNoSpace part
    → ((front : List ℕ) × (words ≡ front ++ 32 ∷ []))
    → length part ≤ 32 → length kept.whole + length kept.word + length bytes ≤ 135334
    → Keeps kept bytes (record { whole = (kept.whole ++ kept.word) ++ words; word = part })
at-once-kept kept bytes words part is alone ends few room line k =
    let front : List ℕ = kept.whole ++ kept.word in
    let same : front ++ bytes ≡ (front ++ words) ++ part =
    ap (λ b. front ++ b) is ∙ sym (append_assoc front words part) in
    record {
      stands = subst (λ (l : Line). StandsFor l (line ++ bytes)) same (stands-on front line bytes k.stands);
      ends = inr (front ++ ends.0, ap (λ w. front ++ w) ends.1 ∙ sym (append_assoc front ends.0 (32 ∷ [])));
      one_word = alone;
      few_whole =
          omega (
            arith,
            room,
            ap length is,
            length-append words part,
            length-append front words,
            length-append kept.whole kept.word,
          );
      few_word = few;
    }

long-front : (whole : Line) → EndsWithWord whole → 135334 ≤ length whole
    → (front : Line) × (whole ≡ front ++ 32 ∷ []) × (135333 ≤ length front)
long-front whole (inl none) long = absurd (omega (arith, ap length none, long))
long-front whole (inr (front, is)) long =
    (front, is, omega (arith, ap length is, long, length-append front (32 ∷ [])))

pub name-left-out : (kept : Kept) → 135334 ≤ length kept.whole → IsName kept.word
    → Keeps kept (32 ∷ []) (record { whole = kept.whole; word = [] })
name-left-out kept long name line k =
    let p = long-front kept.whole k.ends long in
    let left : StandsFor kept.whole ((kept.whole ++ kept.word) ++ 32 ∷ []) =
    subst (λ (l : Line). StandsFor l ((l ++ kept.word) ++ 32 ∷ [])) (sym p.1)
    (left-out p.0 kept.word p.2 name) in
    record {
      stands = subst (λ (l : Line). StandsFor l (line ++ 32 ∷ [])) (sym (append-nil kept.whole))
          (stands-through kept.whole ((kept.whole ++ kept.word) ++ 32 ∷ []) (line ++ 32 ∷ []) left
          (stands-on (kept.whole ++ kept.word) line (32 ∷ []) k.stands));
      ends = k.ends;
      one_word = All-nil (λ b. (b == 32) ≡ false);
      few_whole = k.few_whole;
      few_word = omega arith;
    }

pub word-given-up : (kept : Kept) → 135334 ≤ length kept.whole → (IsName kept.word → ⊥)
    → Keeps kept (32 ∷ []) GIVEN_UP
word-given-up kept long bad line k =
    let p = long-front kept.whole k.ends long in
    given-up (line ++ 32 ∷ []) ((kept.whole ++ kept.word) ++ 32 ∷ [])
    (subst (λ (l : Line). IsNever ((l ++ kept.word) ++ 32 ∷ [])) (sym p.1)
    (bad-name-never p.0 kept.word p.2 k.one_word bad))
    (omega (arith, length-append (kept.whole ++ kept.word) (32 ∷ [])))
    (stands-on (kept.whole ++ kept.word) line (32 ∷ []) k.stands)

-- nothing is kept of nothing
pub empty-kept : IsKeptOf EMPTY []
empty-kept = record {
  stands = stands-itself [];
  ends = inl refl;
  one_word = All-nil (λ b. (b == 32) ≡ false);
  few_whole = omega arith;
  few_word = omega arith;
}

-- reading a word as a name tells whether it is one
pub says-name : (r : Result NameBytes unsaid.Shape) (w : Word) → Says (λ name. name) r (name_of w)
    → (is_ok r ≡ true) ↔ IsName w
says-name (Ok a) w e = (λ _. let p = name-is w a e in subst IsName (sym p.0) p.1, λ _. refl)
says-name (Err x) w e = (λ h. absurd (cc), λ h. absurd (none-some w (sym e ∙ name_of-name w h)))

never-still : (line bytes : Line) → IsNever line → IsNever (line ++ bytes)
never-still line bytes h = record {
  first = λ more version is. h.first (bytes ++ more) version (sym (append_assoc line bytes more) ∙ is);
  second = λ more n high is. h.second (bytes ++ more) n high (sym (append_assoc line bytes more) ∙ is);
  entry = λ more version e k is. h.entry (bytes ++ more) version e k
      (sym (append_assoc line bytes more) ∙ is);
}

-- what begins with a space is not right, whatever follows
pub still-given-up : (bytes : Line) → Keeps GIVEN_UP bytes GIVEN_UP
still-given-up bytes line k =
    given-up (line ++ bytes) (32 ∷ bytes) (never-still (32 ∷ []) bytes space-never) (omega arith)
    (stands-on (32 ∷ []) line bytes k.stands)

pub keeps-both : (a b c : Kept) (x y : Line) → Keeps a x b → Keeps b y c → Keeps a (x ++ y) c
keeps-both a b c x y h k line kept = subst (IsKeptOf c) (append_assoc line x y) (k (line ++ x) (h line kept))

-- one word more, and the space behind it
pub one-word-more : (a b c : Kept) (bytes front part behind rest : Line) → bytes ≡ front ++ rest
    → rest ≡ part ++ 32 ∷ behind → Keeps a front b → Keeps b (part ++ 32 ∷ []) c →
    (more : List ℕ) × (bytes ≡ more ++ behind) × Keeps a more c
one-word-more a b c bytes front part behind rest whole cut h k = (
  front ++ (part ++ 32 ∷ []),
  whole ∙ ap (λ l. front ++ l) (cut ∙ sym (append_assoc part (32 ∷ []) behind))
      ∙ sym (append_assoc front (part ++ 32 ∷ []) behind),
  keeps-both a b c front (part ++ 32 ∷ []) h k,
)

-- where one space stands for the line, further bytes change nothing
pub given-up-stays : (a b : Kept) (bytes behind : Line) → Keeps a bytes b → b ≡ GIVEN_UP
    → Keeps a (bytes ++ behind) b
given-up-stays a b bytes behind h is =
    keeps-both a b b bytes behind h (subst (λ (z : Kept). Keeps z behind z) (sym is) (still-given-up behind))

-- so where it stands for the line behind a word, the rest of the bytes changes nothing
pub given-up-on : (a b c : Kept) (bytes front part behind rest : Line) → bytes ≡ front ++ rest
    → rest ≡ part ++ 32 ∷ behind → Keeps a front b → Keeps b (part ++ 32 ∷ []) c →
    c ≡ GIVEN_UP → Keeps a bytes c
given-up-on a b c bytes front part behind rest whole cut h k is =
    let so_far = one-word-more a b c bytes front part behind rest whole cut h k in
    subst (λ (l : Line). Keeps a l c) (sym so_far.1) (given-up-stays a c so_far.0 behind so_far.2 is)

no-bytes : (word : Line) → length word ≡ 0 → word ≡ []
no-bytes [] h = refl
no-bytes (b ∷ word) h = absurd (omega (arith, h))

pub given-up-is : (kept : Kept) → length kept.word ≡ 0 → kept.whole ≡ 32 ∷ [] → kept ≡ GIVEN_UP
given-up-is kept none space = λ i. record { whole = space i; word = no-bytes kept.word none i }
