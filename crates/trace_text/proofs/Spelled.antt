-- Reading an entry's words gives the entry, and no other words give one.
use Rattle.std.proofs.Common.{◌≡◌, ◌≢◌, ℕ, Bool, true, false, ◌&&◌, cond, nat_le, List, [], ◌∷◌, refl, sym}
use Rattle.std.proofs.Common.{ap, ◌∙◌, subst, decimal, codes, Option, Some, None, ◌⊎◌, inl, inr}
use Rattle.std.specs.Str.{bytes_eq}
use Rattle.std.specs.List.{All}
use Rattle.std.proofs.lemmas.Slice.Eq.{bytes_eq-Decides}
use Rattle.std.proofs.lemmas.Option.{same_Some, cond_some, none-some}
use Rattle.std.proofs.lemmas.Bool.{leb-true, le-leb, and_parts, false≢true}
use Rattle.events.specs.Names.{NameBytes, IsName}
use Rattle.events.specs.History.{IsWellFormed, is_view}
use Rattle.events.specs.declared.entry.Entry.{Entry}
use Rattle.events.specs.declared.entry.Body.{Body}
use Rattle.events.specs.declared.entry.Body.TheVariants.{Ins, Del, Read, View, Recv}
use Rattle.specification.specs.TraceText.{entry_line, IsEntry, IsOfVersion}
use Rattle.specification.specs.Versions.{Version, one, two}
use Rattle.format_words.specs.Words.{Word, words_of}
use Rattle.format_words.specs.Reading.{◌>>=◌, word_at, no_more, number_of, name_of, number_at, after_word}
use Rattle.format_words.specs.Reading.{names_at}
use Rattle.trace_text.specs.Reading.{response_at, insert_at, delete_at, read_at, view_at, receipt_at}
use Rattle.trace_text.specs.Reading.{body_of_kind, body_at, entry_at}
use Rattle.trace_text.specs.Versions.{has_views}
use Rattle.format_words.proofs.Numbers.{number_of-is, number_of-decimal}
use Rattle.format_words.proofs.NameWords.{name-is, name_of-name}
use Rattle.format_words.proofs.NamesRead.{word-at-some}
use Rattle.trace_text.proofs.LineWords.{body_words, entry_words, line-by-words, words-of-line}
use Rattle.format_words.proofs.WordsBack.{bind-some, number-at-is, after-word-is, names-are, no-more-is}
use Rattle.format_words.proofs.WordsBack.{number-again, word-again, names-again}

response-is : (ws : List Word) (names : List NameBytes) → response_at ws ≡ Some names
    → (ws ≡ codes ":" ∷ names) × All IsName names
unfolding response_at
response-is ws names e =
    let p = bind-some (after_word (codes ":") ws) names_at names e in
    let rest = names-are p.0 names p.2 in
    (after-word-is (codes ":") ws p.0 p.1 ∙ ap (λ l. codes ":" ∷ l) rest.0, rest.1)

insert-is : (ws : List Word) (b : Body) → insert_at ws ≡ Some b
    → IsWellFormed b × (codes "ins" ∷ ws ≡ body_words b)
unfolding insert_at
insert-is ws b e =
    let word =
    bind-some (word_at ws) (λ word. name_of word.0 >>= λ name. number_at word.1 >>=
    λ place. response_at place.1 >>= λ response. Some (Ins name place.0 response)) b e in
    let name =
    bind-some (name_of word.0.0) (λ name. number_at word.0.1 >>= λ place. response_at place.1 >>=
    λ response. Some (Ins name place.0 response)) b word.2 in
    let place =
    bind-some (number_at word.0.1) (λ place. response_at place.1 >>=
    λ response. Some (Ins name.0 place.0 response)) b name.2 in
    let response =
    bind-some (response_at place.0.1) (λ response. Some (Ins name.0 place.0.0 response)) b place.2 in
    let body : Ins name.0 place.0.0 response.0 ≡ b =
    same_Some (Ins name.0 place.0.0 response.0) b response.2 in
    let first = name-is word.0.0 name.0 name.1 in
    let second = number-at-is word.0.1 place.0.0 place.0.1 place.1 in
    let third = response-is place.0.1 response.0 response.1 in
    let words : ws ≡ name.0 ∷ decimal place.0.0 ∷ codes ":" ∷ response.0 =
    word-at-some ws word.0.0 word.0.1 word.1
    ∙ ap (λ l. word.0.0 ∷ l) (second.0 ∙ ap (λ l. decimal place.0.0 ∷ l) third.0)
    ∙ ap (λ w. w ∷ decimal place.0.0 ∷ codes ":" ∷ response.0) first.0 in (
      subst IsWellFormed body (first.1, second.1, third.1),
      ap (λ l. codes "ins" ∷ l) words
          ∙ ap body_words body,
    )

delete-is : (ws : List Word) (b : Body) → delete_at ws ≡ Some b
    → IsWellFormed b × (codes "del" ∷ ws ≡ body_words b)
unfolding delete_at
delete-is ws b e =
    let word =
    bind-some (word_at ws) (λ word. name_of word.0 >>= λ name. response_at word.1 >>=
    λ response. Some (Del name response)) b e in
    let name =
    bind-some (name_of word.0.0) (λ name. response_at word.0.1 >>= λ response. Some (Del name response)) b
    word.2 in
    let response = bind-some (response_at word.0.1) (λ response. Some (Del name.0 response)) b name.2 in
    let body : Del name.0 response.0 ≡ b = same_Some (Del name.0 response.0) b response.2 in
    let first = name-is word.0.0 name.0 name.1 in
    let third = response-is word.0.1 response.0 response.1 in
    let words : ws ≡ name.0 ∷ codes ":" ∷ response.0 =
    word-at-some ws word.0.0 word.0.1 word.1 ∙ ap (λ l. word.0.0 ∷ l) third.0
    ∙ ap (λ w. w ∷ codes ":" ∷ response.0) first.0 in
    (subst IsWellFormed body (first.1, third.1), ap (λ l. codes "del" ∷ l) words ∙ ap body_words body)

-- a body that is a response alone
shown-is : (word : Word) (make : List NameBytes → Body)
    → ((names : List NameBytes) → All IsName names → IsWellFormed (make names))
    → ((names : List NameBytes) → word ∷ codes ":" ∷ names ≡ body_words (make names)) →
    (ws : List Word) (b : Body) → (response_at ws >>= λ response. Some (make response)) ≡ Some b
    → IsWellFormed b × (word ∷ ws ≡ body_words b)
shown-is word make well words ws b e =
    let response = bind-some (response_at ws) (λ response. Some (make response)) b e in
    let body : make response.0 ≡ b = same_Some (make response.0) b response.2 in
    let third = response-is ws response.0 response.1 in (
      subst IsWellFormed body (well response.0 third.1),
      ap (λ l. word ∷ l) third.0 ∙ words response.0
          ∙ ap body_words body,
    )

read-is : (ws : List Word) (b : Body) → read_at ws ≡ Some b → IsWellFormed b
    × (codes "read" ∷ ws ≡ body_words b)
unfolding read_at
read-is ws b e = shown-is (codes "read") (λ names. Read names) (λ names h. h) (λ names. refl) ws b e

view-is : (ws : List Word) (b : Body) → view_at ws ≡ Some b → IsWellFormed b
    × (codes "view" ∷ ws ≡ body_words b)
unfolding view_at
view-is ws b e = shown-is (codes "view") (λ names. View names) (λ names h. h) (λ names. refl) ws b e

receipt-is : (ws : List Word) (b : Body) → receipt_at ws ≡ Some b
    → IsWellFormed b × (codes "recv" ∷ ws ≡ body_words b)
unfolding receipt_at
receipt-is ws b e =
    let replica =
    bind-some (number_at ws) (λ replica. number_at replica.1 >>= λ n. no_more n.1 >>=
    λ none. cond (nat_le 1 n.0) (Some (Recv (record { replica = replica.0; n = n.0 }))) None) b e in
    let n = bind-some (number_at replica.0.1) (λ n. no_more n.1 >>= λ none. cond (nat_le 1 n.0)
    (Some (Recv (record { replica = replica.0.0; n = n.0 }))) None) b replica.2 in
    let none =
    bind-some (no_more n.0.1) (λ none. cond (nat_le 1 n.0.0)
    (Some (Recv (record { replica = replica.0.0; n = n.0.0 }))) None) b n.2 in
    let parts = cond_some (nat_le 1 n.0.0) (Recv (record { replica = replica.0.0; n = n.0.0 })) b none.2 in
    let first = number-at-is ws replica.0.0 replica.0.1 replica.1 in
    let second = number-at-is replica.0.1 n.0.0 n.0.1 n.1 in
    let words : ws ≡ decimal replica.0.0 ∷ decimal n.0.0 ∷ [] =
    first.0 ∙ ap (λ l. decimal replica.0.0 ∷ l) (second.0
    ∙ ap (λ l. decimal n.0.0 ∷ l) (no-more-is n.0.1 none.0 none.1)) in (
      subst IsWellFormed parts.1 (first.1, leb-true 1 n.0.0 parts.0, second.1),
      ap (λ l. codes "recv" ∷ l) words ∙ ap body_words parts.1,
    )

chosen : {A : Type 0} (t : Bool) (x y : Option A) (z : A) → cond t x y ≡ Some z
    → ((t ≡ true) × (x ≡ Some z)) ⊎ (y ≡ Some z)
chosen true x y z e = inl (refl, e)
chosen false x y z e = inr e

-- a body that may stand where there are views, or are none
abbrev MayStand : Bool → Body → Type 0
MayStand views b = (is_view b ≡ false) ⊎ (views ≡ true)

not-view : (word : Word) (ws : List Word) (b : Body) → bytes_eq word (codes "view") ≡ false
    → word ∷ ws ≡ body_words b → is_view b ≡ false
not-view word ws (Ins name at response) other is = refl
not-view word ws (Del name response) other is = refl
not-view word ws (Read response) other is = refl
not-view word ws (View response) other is = let same : word ≡ codes "view" = cc in
    absurd (false≢true (sym other ∙ (bytes_eq-Decides word (codes "view")).1 same))
not-view word ws (Recv seen) other is = refl

by-kind : (kind word : Word) (ws : List Word) (b : Body) → bytes_eq kind word ≡ true
    → IsWellFormed b × (word ∷ ws ≡ body_words b) → IsWellFormed b × (kind ∷ ws ≡ body_words b)
by-kind kind word ws b t h = (h.0, ap (λ w. w ∷ ws) ((bytes_eq-Decides kind word).0 t) ∙ h.1)

by-other : (views : Bool) (kind word : Word) (ws : List Word) (b : Body)
    → bytes_eq word (codes "view") ≡ false → bytes_eq kind word ≡ true
    → IsWellFormed b × (word ∷ ws ≡ body_words b) →
    IsWellFormed b × (kind ∷ ws ≡ body_words b) × MayStand views b
by-other views kind word ws b other t h = let p = by-kind kind word ws b t h in
    (p.0, p.1, inl (not-view word ws b other h.1))

cond_some_of : {A : Type 0} (t : Bool) (x : Option A) (z : A) → cond t x None ≡ Some z
    → (t ≡ true) × (x ≡ Some z)
cond_some_of true x z e = (refl, e)
cond_some_of false x z e = absurd (cc)

kind-is : (views : Bool) (kind : Word) (ws : List Word) (b : Body) → body_of_kind views kind ws ≡ Some b
    → IsWellFormed b × (kind ∷ ws ≡ body_words b) × MayStand views b
unfolding body_of_kind
kind-is views kind ws b e = elim (chosen (bytes_eq kind (codes "ins")) _ _ b e) [
  | inl h ↦ by-other views kind (codes "ins") ws b refl h.0 (insert-is ws b h.1)
  | inr e1 ↦ elim (chosen (bytes_eq kind (codes "del")) _ _ b e1) [
    | inl h ↦ by-other views kind (codes "del") ws b refl h.0 (delete-is ws b h.1)
    | inr e2 ↦ elim (chosen (bytes_eq kind (codes "read")) _ _ b e2) [
      | inl h ↦ by-other views kind (codes "read") ws b refl h.0 (read-is ws b h.1)
      | inr e3 ↦ elim (chosen (bytes_eq kind (codes "recv")) _ _ b e3) [
        | inl h ↦ by-other views kind (codes "recv") ws b refl h.0 (receipt-is ws b h.1)
        | inr e4 ↦
            let p = cond_some_of (views && bytes_eq kind (codes "view")) (view_at ws) b e4 in
            let t : (views ≡ true) × (bytes_eq kind (codes "view") ≡ true) =
            and_parts views (bytes_eq kind (codes "view")) p.0 in
            let h = by-kind kind (codes "view") ws b t.1 (view-is ws b p.1) in
            (h.0, h.1, inr t.0)
      ]
    ]
  ]
]

body-is : (views : Bool) (ws : List Word) (b : Body) → body_at views ws ≡ Some b
    → IsWellFormed b × (ws ≡ body_words b) × MayStand views b
unfolding body_at
body-is views ws b e =
    let kind = bind-some (word_at ws) (λ kind. body_of_kind views kind.0 kind.1) b e in
    let is = kind-is views kind.0.0 kind.0.1 b kind.2 in
    (is.0, word-at-some ws kind.0.0 kind.0.1 kind.1 ∙ is.1, is.2)

-- an entry that may stand is of the version, and the other way round
of-version : (version : Version) (e : Entry) → MayStand (has_views version) e.body → IsOfVersion version e
of-version one e (inl plain) = plain
of-version one e (inr views) = absurd (false≢true views)
of-version two e may = tt

may-stand : (version : Version) (e : Entry) → IsOfVersion version e → MayStand (has_views version) e.body
may-stand one e plain = inl plain
may-stand two e of = inr refl

-- what is read of words is an entry with these words
pub entry-is : (version : Version) (ws : List Word) (e : Entry) → entry_at (has_views version) ws ≡ Some e
    → IsEntry version e × (ws ≡ entry_words e)
unfolding entry_at
entry-is version [] e h = absurd (cc)
entry-is version (w ∷ ws) e h =
    let replica =
    bind-some (number_of w) (λ replica. body_at (has_views version) ws >>=
    λ body. Some (record { replica = replica; body = body })) e h in
    let body =
    bind-some (body_at (has_views version) ws)
    (λ body. Some (record { replica = replica.0; body = body })) e replica.2 in
    let same = same_Some (record { replica = replica.0; body = body.0 }) e body.2 in
    let first = number_of-is w replica.0 replica.1 in
    let second = body-is (has_views version) ws body.0 body.1 in (
      subst (IsEntry version) same (
        first.1,
        second.0,
        of-version version (record { replica = replica.0; body = body.0 }) second.2,
      ),
      ap (λ l. l ∷ ws) first.0 ∙ ap (λ l. decimal replica.0 ∷ l) second.1 ∙ ap entry_words same,
    )

response-again : (names : List NameBytes) → All IsName names → response_at (codes ":" ∷ names) ≡ Some names
unfolding response_at
response-again names h = rw (word-again (codes ":") names, names-again names h) refl

body-again : (views : Bool) (b : Body) → IsWellFormed b → MayStand views b
    → body_at views (body_words b) ≡ Some b
unfolding body_at body_of_kind insert_at delete_at read_at view_at receipt_at
body-again views (Ins name at response) h may =
    rw (name_of-name name h.0, number-again at (codes ":" ∷ response) h.1, response-again response h.2) refl
body-again views (Del name response) h may = rw (name_of-name name h.0, response-again response h.1) refl
body-again views (Read response) h may = rw (response-again response h) refl
body-again views (View response) h (inl plain) = absurd (false≢true (sym plain))
body-again views (View response) h (inr some) = rw (some, response-again response h) refl
body-again views (Recv seen) h may =
    rw (
      number-again seen.replica (decimal seen.n ∷ []) h.0,
      number-again seen.n [] h.2,
      le-leb 1 seen.n h.1,
    ) refl

-- an entry's words are read as the entry
pub entry-again : (version : Version) (e : Entry) → IsEntry version e
    → entry_at (has_views version) (entry_words e) ≡ Some e
unfolding entry_at
entry-again version e h =
    rw (number_of-decimal e.replica h.0, body-again (has_views version) e.body h.1 (may-stand version e h.2))
    refl

-- a line that is read spells the entry
pub line-spells : (version : Version) (line : List ℕ) (e : Entry)
    → entry_at (has_views version) (words_of line) ≡ Some e → IsEntry version e × (line ≡ entry_line e)
line-spells version line e h = let p = entry-is version (words_of line) e h in (p.0, line-by-words line e p.1)

-- and an entry's line is read as that entry
pub line-again : (version : Version) (e : Entry) → IsEntry version e
    → entry_at (has_views version) (words_of (entry_line e)) ≡ Some e
line-again version e h =
    ap (entry_at (has_views version)) (words-of-line version e h) ∙ entry-again version e h

-- a line that is not read spells no entry
pub line-spells-none : (version : Version) (line : List ℕ) → entry_at (has_views version) (words_of line)
    ≡ None → (e : Entry) → IsEntry version e → line ≢ entry_line e
line-spells-none version line h e k is =
    let again : entry_at (has_views version) (words_of line) ≡ Some e =
    ap (λ l. entry_at (has_views version) (words_of l)) is ∙ line-again version e k in
    absurd (none-some e (sym h ∙ again))

-- version two has the entries of both
pub entry-of-two : (version : Version) (e : Entry) → IsEntry version e → IsEntry two e
entry-of-two version e h = (h.0, h.1, tt)

-- no two entries have one spelling
pub one-spelling : (v w : Version) (d e : Entry) → IsEntry v d → IsEntry w e → entry_line d ≡ entry_line e
    → d ≡ e
one-spelling v w d e h k is =
    same_Some d e (sym (line-again two d (entry-of-two v d h)) ∙ ap (λ l. entry_at true (words_of l)) is
    ∙ line-again two e (entry-of-two w e k))
