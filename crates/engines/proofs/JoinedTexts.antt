-- Texts one after the other, as far as they are written.
use Rattle.std.proofs.Common.{◌≡◌, ℕ, ◌+◌, ◌<◌, List, Option, ◌++◌, Vec, Global, get_or, take, drop}
use Rattle.std.proofs.Common.{length, length-append, sym, ap, subst, ◌∙◌, arith}
use Rattle.std.proofs.Math.Seq.{take-append-add}
use Rattle.std.proofs.lemmas.Grind.{flat_map-append}
use Rattle.std.proofs.lemmas.List.{drop_more, take_more, take-append-drop, take-append-le}
use Rattle.std.specs.Io.KnownBytes.{Appends}
use Rattle.std.proofs.KnownBytes.{Appends-trans}
use Rattle.byte_streams.specs.Streams.{AppendsFront}
use Rattle.certificate.specs.ByRows.{joined}
use Rattle.certificate.proofs.RowLines.{joined_push}

-- one text more was written
pub written_next : (a b c : Option (List ℕ)) (texts : List (Vec ℕ Global)) (i : ℕ) (d : Vec ℕ Global)
    → i < length texts → Appends a b (joined (take i texts))
    → Appends b c ((get_or texts i d).items) → Appends a c (joined (take (i + 1) texts))
written_next a b c texts i d lt one other =
    subst (Appends a c) (sym (ap joined (take_more texts i d lt)
    ∙ joined_push (take i texts) (get_or texts i d))) (Appends-trans a b c _ _ one other)

-- all texts are those before one, this one, and those behind it
pub joined_around : (texts : List (Vec ℕ Global)) (i : ℕ) (d : Vec ℕ Global) → i < length texts
    → joined texts ≡ joined (take i texts) ++ ((get_or texts i d).items ++ joined (drop (i + 1) texts))
joined_around texts i d lt =
    ap joined (sym (take-append-drop i texts))
    ∙ flat_map-append (λ (text : Vec ℕ Global). text.items) (take i texts) (drop i texts)
    ∙ ap (λ (l : List (Vec ℕ Global)). joined (take i texts) ++ joined l) (drop_more texts i d lt)

-- a prefix of this one, behind those before it, is a prefix of all, and shorter
pub front_around : (before text behind all : List ℕ) (n : ℕ) → all ≡ before ++ (text ++ behind)
    → n < length text
    → (length before + n < length all) × (take (length before + n) all ≡ before ++ take n text)
front_around before text behind all n is lt = (
  omega (arith, ap length is, length-append before (text ++ behind), length-append text behind, lt),
  ap (take (length before + n)) is ∙ take-append-add before (text ++ behind) n
      ∙ ap (λ l. before ++ l) (take-append-le n text behind (omega (arith, lt))),
)

-- a prefix of one text was written behind those before it
pub written_front : (a b c : Option (List ℕ)) (texts : List (Vec ℕ Global)) (i : ℕ) (d : Vec ℕ Global)
    → i < length texts → Appends a b (joined (take i texts))
    → AppendsFront b c ((get_or texts i d).items) → AppendsFront a c (joined texts)
written_front a b c texts i d lt one other =
    let front =
    front_around (joined (take i texts)) ((get_or texts i d).items) (joined (drop (i + 1) texts))
    (joined texts) other.0 (joined_around texts i d lt) other.1 in (
      length (joined (take i texts)) + other.0,
      front.0,
      subst (Appends a c) (sym front.1) (Appends-trans a b c _ _ one other.2),
    )
