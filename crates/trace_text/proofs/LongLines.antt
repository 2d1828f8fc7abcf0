-- The words of long lines: one that spells an entry has more than the most names, and other names in the
-- place of its last ones spell an entry that is refused for the same cause.
use Rattle.std.proofs.Common.{◌≡◌, ℕ, ◌+◌, ◌*◌, ◌<◌, ◌≤◌, ◌^◌, ◌==◌, ◌||◌, ◌&&◌, Bool, true, false, cond}
use Rattle.std.proofs.Common.{nat_lt, nat_le, List, [], ◌∷◌, ◌++◌, length, length-append, refl, sym, ap, ◌∙◌}
use Rattle.std.proofs.Common.{subst, arith, decimal, codes}
use Rattle.std.specs.Prelude.{count_by, sum_by}
use Rattle.std.specs.List.{All, onto_first, join_with_byte}
use Rattle.std.proofs.lemmas.Bool.{lt-ltb}
use Rattle.std.proofs.lemmas.Fmt.{length-decimal-le}
use Rattle.std.proofs.lemmas.List.{append_assoc}
use Rattle.std.proofs.lemmas.List.Elements.{All-head, All-tail, All-cons, All-nil, All-append, All-weaker}
use Rattle.std.proofs.lemmas.List.Splits.{length-slice_split, slice_split-cons_yes, slice_split-cons_no}
use Rattle.std.proofs.lemmas.List.Splits.{join_with_byte-slice_split}
use Rattle.events.specs.History.{IsWellFormed, response_of, is_insert, is_view, stream_of, count_of}
use Rattle.events.specs.Names.{NameBytes, IsName}
use Rattle.events.specs.Session.{first_refusal, first_that_holds, received, passes, have_of}
use Rattle.events.specs.declared.TheConstants.{MOST_ENTRIES, MOST_INSERTS, MOST_NAMES, MOST_PLACES}
use Rattle.events.specs.declared.entry.Entry.{Entry}
use Rattle.events.specs.declared.entry.Body.{Body}
use Rattle.events.specs.declared.entry.Body.TheVariants.{Ins, Del, Read, View, Recv}
use Rattle.events.specs.declared.refusal.Refusal.{Refusal}
use Rattle.events.specs.declared.refusal.Refusal.TheVariants.{NoReplica, OwnReceipt, NotYet, EntriesFull}
use Rattle.events.specs.declared.refusal.Refusal.TheVariants.{InsertsFull, LongResponse, PlacesFull}
use Rattle.specification.specs.Lines.{Line}
use Rattle.specification.specs.TraceText.{IsEntry, IsOfVersion, entry_line}
use Rattle.specification.specs.Versions.{Version, one, two}
use Rattle.format_words.specs.Words.{Word, words_of}
use Rattle.format_words.proofs.TextLines.{all-front}
use Rattle.trace_text.proofs.LineWords.{body_words, entry_words, line-by-words, words-of-line}

some-word : (text : List ℕ) → 1 ≤ length (words_of text)
some-word text = omega (arith, length-slice_split (λ b. b == 32) text)

split-step : (a : ℕ) (b : Bool) (xs ys : List Word) → 1 ≤ length xs
    → cond b ([] ∷ (xs ++ ys)) (onto_first a (xs ++ ys)) ≡ cond b ([] ∷ xs) (onto_first a xs) ++ ys
split-step a b [] ys h = absurd (omega arith)
split-step a true (x ∷ xs) ys h = refl
split-step a false (x ∷ xs) ys h = refl

-- a space parts the words before it from those behind it
pub words-apart : (front rest : List ℕ) → words_of (front ++ 32 ∷ rest) ≡ words_of front ++ words_of rest
words-apart [] rest = slice_split-cons_yes (λ b. b == 32) 32 rest refl
words-apart (a ∷ front) rest =
    ap (λ ws. cond (a == 32) ([] ∷ ws) (onto_first a ws)) (words-apart front rest)
    ∙ split-step a (a == 32) (words_of front) (words_of rest) (some-word front)

first-of : (ws : List Word) → 1 ≤ length ws → (w : Word) × (more : List Word) × (ws ≡ w ∷ more)
first-of [] h = absurd (omega arith)
first-of (w ∷ ws) h = (w, ws, refl)

-- a word that is begun stands first in the first word
pub word-grows : (w more : List ℕ) → All (λ b. (b == 32) ≡ false) w
    → (u : Word) × (us : List Word) × (words_of (w ++ more) ≡ (w ++ u) ∷ us)
word-grows [] more h = first-of (words_of more) (some-word more)
word-grows (b ∷ w) more h =
    let p = word-grows w more (All-tail (λ b. (b == 32) ≡ false) b w h) in (
      p.0,
      p.1,
      slice_split-cons_no (λ b. b == 32) b (w ++ more) (All-head (λ b. (b == 32) ≡ false) b w h)
          ∙ ap (onto_first b) p.2,
    )

abbrev pub IsShort : Word → Type 0
IsShort w = length w ≤ 32

-- short words make a short line
joined-length : (ws : List Word) → All IsShort ws → length (join_with_byte 32 ws) ≤ 33 * length ws
joined-length [] h = omega arith
joined-length (w ∷ []) h = let first : length w ≤ 32 = All-head IsShort w [] h in omega (arith, first)
joined-length (w ∷ v ∷ ws) h =
    let first : length w ≤ 32 = All-head IsShort w (v ∷ ws) h in
    let others = joined-length (v ∷ ws) (All-tail IsShort w (v ∷ ws) h) in
    omega (arith, first, others, length-append w (32 ∷ join_with_byte 32 (v ∷ ws)))

pub words-of-short : (line : Line) → All IsShort (words_of line) → length line ≤ 33 * length (words_of line)
words-of-short line h =
    subst (λ (l : Line). length l ≤ 33 * length (words_of line)) (join_with_byte-slice_split 32 line)
    (joined-length (words_of line) h)

names-short : (names : List NameBytes) → All IsName names → All IsShort names
names-short names h = All-weaker IsName IsShort (λ a k. k.few_bytes) names h

pub number-short : (n : ℕ) → n < 2 ^ 32 → IsShort (decimal n)
number-short n small = let few = length-decimal-le 10 n (omega arith) (omega arith) (omega arith) in
    omega (arith, few)

body-short : (b : Body) → IsWellFormed b → All IsShort (body_words b)
body-short (Ins name at response) h =
    All-cons IsShort (codes "ins") (name ∷ decimal at ∷ codes ":" ∷ response) (omega arith)
    (All-cons IsShort name (decimal at ∷ codes ":" ∷ response) h.0.few_bytes
    (All-cons IsShort (decimal at) (codes ":" ∷ response) (number-short at h.1)
    (All-cons IsShort (codes ":") response (omega arith) (names-short response h.2))))
body-short (Del name response) h =
    All-cons IsShort (codes "del") (name ∷ codes ":" ∷ response) (omega arith)
    (All-cons IsShort name (codes ":" ∷ response) h.0.few_bytes
    (All-cons IsShort (codes ":") response (omega arith) (names-short response h.1)))
body-short (Read response) h =
    All-cons IsShort (codes "read") (codes ":" ∷ response) (omega arith)
    (All-cons IsShort (codes ":") response (omega arith) (names-short response h))
body-short (View response) h =
    All-cons IsShort (codes "view") (codes ":" ∷ response) (omega arith)
    (All-cons IsShort (codes ":") response (omega arith) (names-short response h))
body-short (Recv seen) h =
    All-cons IsShort (codes "recv") (decimal seen.replica ∷ decimal seen.n ∷ []) (omega arith)
    (All-cons IsShort (decimal seen.replica) (decimal seen.n ∷ []) (number-short seen.replica h.0)
    (All-cons IsShort (decimal seen.n) [] (number-short seen.n h.2) (All-nil IsShort)))

-- the words of an entry are short
pub entry-short : (version : Version) (e : Entry) → IsEntry version e → All IsShort (entry_words e)
entry-short version e h =
    All-cons IsShort (decimal e.replica) (body_words e.body) (number-short e.replica h.0)
    (body-short e.body h.1)

-- what the longer front has besides the shorter
cut-front : (ws xs hs rs : List Word) → ws ++ xs ≡ hs ++ rs → length hs ≤ length ws
    → (ns : List Word) × (ws ≡ hs ++ ns) × (rs ≡ ns ++ xs)
cut-front ws xs [] rs is h = (ws, refl, sym is)
cut-front [] xs (v ∷ hs) rs is h = absurd (omega arith)
cut-front (w ∷ ws) xs (v ∷ hs) rs is h =
    let head : w ≡ v = cc in
    let tail : ws ++ xs ≡ hs ++ rs = cc in
    let p = cut-front ws xs hs rs tail (omega arith) in
    (p.0, ap (λ x. x ∷ ws) head ∙ ap (λ l. v ∷ l) p.1, p.2)

cut-off : (a b c d f : Bool × Refusal) (t : Bool) (why : Refusal) (rest : List (Bool × Refusal)) → t ≡ true →
    first_that_holds (a ∷ b ∷ c ∷ d ∷ f ∷ (t, why) ∷ rest)
    ≡ first_that_holds (a ∷ b ∷ c ∷ d ∷ f ∷ (true, why) ∷ [])
cut-off a b c d f true why rest e = refl
cut-off a b c d f false why rest e = absurd (cc)

-- the refusals of an entry with more than the most names, up to the one for that
abbrev refusals-so-far : ℕ → List Entry → Entry → List (Bool × Refusal)
refusals-so-far replicas entries e =
    (nat_le replicas e.replica || passes (λ o. nat_le replicas o.replica) (received e.body), NoReplica)
    ∷ (passes (λ o. o.replica == e.replica) (received e.body), OwnReceipt)
    ∷ (
      passes (λ o. nat_lt (count_of o.replica entries) o.n) (received e.body),
      NotYet (have_of entries (received e.body)),
    )
    ∷ (nat_le MOST_ENTRIES (length (stream_of e.replica entries)), EntriesFull)
    ∷ (
      is_insert e.body && nat_le MOST_INSERTS (count_by is_insert (stream_of e.replica entries)),
      InsertsFull,
    )
    ∷ (true, LongResponse)
    ∷ []

-- behind it, no other matters
refused-so-far : (n : ℕ) (entries : List Entry) (e : Entry) → MOST_NAMES < length (response_of e.body)
    → first_refusal n entries e ≡ first_that_holds (refusals-so-far n entries e)
refused-so-far n entries e many =
    cut-off (nat_le n e.replica || passes (λ o. nat_le n o.replica) (received e.body), NoReplica)
    (passes (λ o. o.replica == e.replica) (received e.body), OwnReceipt) (
      passes (λ o. nat_lt (count_of o.replica entries) o.n) (received e.body),
      NotYet (have_of entries (received e.body)),
    )
    (nat_le MOST_ENTRIES (length (stream_of e.replica entries)), EntriesFull)
    (is_insert e.body && nat_le MOST_INSERTS (count_by is_insert (stream_of e.replica entries)), InsertsFull)
    (nat_lt MOST_NAMES (length (response_of e.body)))
    LongResponse
    ((
      nat_lt MOST_PLACES (sum_by (λ b. length (response_of b)) (stream_of e.replica entries)
          + length (response_of e.body)),
      PlacesFull,
    ) ∷ [])
    (lt-ltb MOST_NAMES (length (response_of e.body)) many)

-- another entry, with the same words in front, that is refused for the same cause as this one
pub record IsRefusedAs (version : Version) (e : Entry) (words : List Word) : Type 0 where
  pub other : Entry
  pub is_entry : IsEntry version other
  pub words_are : words ≡ entry_words other
  pub many : MOST_NAMES < length (response_of other.body)
  pub same : (n : ℕ) (entries : List Entry) → first_refusal n entries other ≡ first_refusal n entries e

pub record HasManyNames (version : Version) (e : Entry) (front back others : List Word) : Type 0 where
  pub many : MOST_NAMES < length (response_of e.body)
  pub names : All IsName back
  pub refused_as : IsRefusedAs version e (front ++ others)

all-back : (xs ys : List Word) → All IsName (xs ++ ys) → All IsName ys
all-back [] ys h = h
all-back (x ∷ xs) ys h = all-back xs ys (All-tail IsName x (xs ++ ys) h)

-- an entry's words, with a few before its names
names-apart : (hs response front back others : List Word) → front ++ back ≡ hs ++ response → length hs ≤ 5
    → 4101 ≤ length front → 1 ≤ length back → 1 ≤ length others → All IsName response → All IsName others →
    (ns : List Word) × (front ++ others ≡ hs ++ (ns ++ others)) × (MOST_NAMES < length response)
    × (MOST_NAMES < length (ns ++ others)) × All IsName back × All IsName (ns ++ others)
names-apart hs response front back others is few long some more names other_names =
    let p = cut-front front back hs response is (omega (arith, few, long)) in
    let count : length front ≡ length hs + length p.0 = ap length p.1 ∙ length-append hs p.0 in
    let whole = subst (All IsName) p.2 names in (
      p.0,
      ap (λ l. l ++ others) p.1 ∙ append_assoc hs p.0 others,
      omega (arith, few, long, some, count, ap length p.2, length-append p.0 back),
      omega (arith, few, long, more, count, length-append p.0 others),
      all-back p.0 back whole,
      All-append IsName p.0 others (all-front IsName p.0 back whole) other_names,
    )

-- an entry of the version, with a view where the other has one
same-version : (version : Version) (d e : Entry) → is_view d.body ≡ is_view e.body → IsOfVersion version d
    → IsOfVersion version e
same-version one d e same plain = sym same ∙ plain
same-version two d e same of = tt

-- an entry that is like this one up to the refusal for its many names
swapped : (version : Version) (e other : Entry) (front back others : List Word)
    → MOST_NAMES < length (response_of e.body) → All IsName back → IsEntry version other
    → front ++ others ≡ entry_words other →
    MOST_NAMES < length (response_of other.body)
    → ((n : ℕ) (entries : List Entry) → first_that_holds (refusals-so-far n entries other)
    ≡ first_that_holds (refusals-so-far n entries e)) → HasManyNames version e front back others
swapped version e other front back others many names is_entry words_are other_many alike = record {
  many = many;
  names = names;
  refused_as = record {
    other = other;
    is_entry = is_entry;
    words_are = words_are;
    many = other_many;
    same = λ n entries. refused-so-far n entries other other_many ∙ alike n entries
        ∙ sym (refused-so-far n entries e many);
  };
}

swapped-body : (version : Version) (r : ℕ) (b : Body) (front back others : List Word) → r < 2 ^ 32
    → IsWellFormed b → IsOfVersion version (record { replica = r; body = b })
    → front ++ back ≡ decimal r ∷ body_words b → 4101 ≤ length front → 1 ≤ length back → 1 ≤ length others
    → All IsName others →
    HasManyNames version (record { replica = r; body = b }) front back others
swapped-body version r (Ins name at response) front back others small h of is long some more names =
    let q = names-apart (decimal r ∷ codes "ins" ∷ name ∷ decimal at ∷ codes ":" ∷ []) response front back
    others is (omega arith) long some more h.2 names in
    let other : Entry = record { replica = r; body = Ins name at (q.0 ++ others) } in
    swapped version (record { replica = r; body = Ins name at response }) other front back others q.2 q.4 (
      small,
      (h.0, h.1, q.5),
      same-version version (record { replica = r; body = Ins name at response }) other refl of,
    ) q.1 q.3
    (λ n entries. refl)
swapped-body version r (Del name response) front back others small h of is long some more names =
    let q = names-apart (decimal r ∷ codes "del" ∷ name ∷ codes ":" ∷ []) response front back others is
    (omega arith) long some more h.1 names in
    let other : Entry = record { replica = r; body = Del name (q.0 ++ others) } in
    swapped version (record { replica = r; body = Del name response }) other front back others q.2 q.4 (
      small,
      (h.0, q.5),
      same-version version (record { replica = r; body = Del name response }) other refl of,
    ) q.1
    q.3 (λ n entries. refl)
swapped-body version r (Read response) front back others small h of is long some more names =
    let q = names-apart (decimal r ∷ codes "read" ∷ codes ":" ∷ []) response front back others is
    (omega arith) long some more h names in
    let other : Entry = record { replica = r; body = Read (q.0 ++ others) } in
    swapped version (record { replica = r; body = Read response }) other front back others q.2 q.4 (
      small,
      q.5,
      same-version version (record { replica = r; body = Read response }) other refl of,
    ) q.1 q.3
    (λ n entries. refl)
swapped-body version r (View response) front back others small h of is long some more names =
    let q = names-apart (decimal r ∷ codes "view" ∷ codes ":" ∷ []) response front back others is
    (omega arith) long some more h names in
    let other : Entry = record { replica = r; body = View (q.0 ++ others) } in
    swapped version (record { replica = r; body = View response }) other front back others q.2 q.4 (
      small,
      q.5,
      same-version version (record { replica = r; body = View response }) other refl of,
    ) q.1 q.3
    (λ n entries. refl)
swapped-body version r (Recv seen) front back others small h of is long some more names =
    let q = names-apart (decimal r ∷ codes "recv" ∷ decimal seen.replica ∷ decimal seen.n ∷ []) [] front back
    others is (omega arith) long some more (All-nil IsName) names in
    absurd (omega (arith, q.2))

-- a line that is long before a space
pub record LongEntry (version : Version) (e : Entry) (front back others : Line) : Type 0 where
  pub many : MOST_NAMES < length (response_of e.body)
  pub names : All IsName (words_of back)
  pub other : Entry
  pub is_entry : IsEntry version other
  pub spelled : front ++ 32 ∷ others ≡ entry_line other
  pub other_many : MOST_NAMES < length (response_of other.body)
  pub same : (n : ℕ) (entries : List Entry) → first_refusal n entries other ≡ first_refusal n entries e

words-of-parts : (version : Version) (e : Entry) → IsEntry version e → (front back : Line)
    → front ++ 32 ∷ back ≡ entry_line e → words_of front ++ words_of back ≡ entry_words e
words-of-parts version e h front back is =
    sym (words-apart front back) ∙ ap words_of is ∙ words-of-line version e h

many-words : (version : Version) (e : Entry) → IsEntry version e → (front back : Line)
    → front ++ 32 ∷ back ≡ entry_line e → 135333 ≤ length front → 4101 ≤ length (words_of front)
many-words version e h front back is long =
    let short =
    all-front IsShort (words_of front) (words_of back)
    (subst (All IsShort) (sym (words-of-parts version e h front back is)) (entry-short version e h)) in
    let few = words-of-short front short in
    omega (arith, few, long)

-- where it spells an entry, other names behind the space spell one that is refused for the same cause
pub long-entry : (version : Version) (e : Entry) → IsEntry version e → (front back others : Line)
    → front ++ 32 ∷ back ≡ entry_line e → 135333 ≤ length front → All IsName (words_of others)
    → LongEntry version e front back others
long-entry version e h front back others is long names =
    let swapped =
    swapped-body version e.replica e.body (words_of front) (words_of back) (words_of others) h.0 h.1 h.2
    (words-of-parts version e h front back is) (many-words version e h front back is long)
    (some-word back) (some-word others) names in
    let found = swapped.refused_as in
    record {
      many = swapped.many;
      names = swapped.names;
      other = found.other;
      is_entry = found.is_entry;
      spelled = line-by-words (front ++ 32 ∷ others) found.other (words-apart front others ∙ found.words_are);
      other_many = found.many;
      same = found.same;
    }
