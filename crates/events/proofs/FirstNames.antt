-- The names that a text begins with, and one name more.
use Rattle.std.proofs.Common.{◌≡◌, ◌∙◌, ℕ, ◌+◌, ◌*◌, ◌<◌, ◌≤◌, ◌++◌, List, [], ◌∷◌, length, take, drop}
use Rattle.std.proofs.Common.{slice_get, All, sym, refl, ap, ap₂, arith, take-add}
use Rattle.std.proofs.lemmas.List.{append-nil, length-append, length-drop, length-take, drop-take}
use Rattle.std.proofs.lemmas.List.Elements.{All-push}
use Rattle.std.proofs.Math.Seq.{drop-append_seam}
use Rattle.events.specs.Names.{NameBytes, IsName}
use Rattle.events.specs.Packed.{spaced, ends_of}
use Rattle.events.specs.Runs.{AreFirstNames, BeginsWith, may_follow}
use Rattle.events.proofs.Packed.{spaced-append, ends-append}
use Rattle.events.proofs.Places.{drop-get}

-- the text begins with names, n of them in so many bytes, and these are their ends
pub record Taken (text ends : List ℕ) (n bytes : ℕ) : Type 0 where
  pub names : List NameBytes
  pub are : All IsName names
  pub count : n ≡ length names
  pub bytes_are : bytes ≡ length (spaced names)
  pub begins : 0 < length names → BeginsWith text names
  pub ends_are : take n ends ≡ ends_of 0 names
  pub small : bytes ≤ 33 * n
  pub within : bytes ≤ length text

pub none-taken : (text ends : List ℕ) → Taken text ends 0 0
none-taken text ends = record {
  names = [];
  are = λ k d lt. absurd (omega (arith, lt));
  count = refl;
  bytes_are = refl;
  begins = λ some. absurd (omega (arith, some));
  ends_are = refl;
  small = omega arith;
  within = omega arith;
}

module _ (text : List ℕ) (names : List NameBytes) (bytes : ℕ) (is : bytes ≡ length (spaced names)) where
  pub front : (0 < length names → BeginsWith text names) → take bytes text ≡ spaced names
  front = go names is
    where
      go : (l : List NameBytes) → bytes ≡ length (spaced l) → (0 < length l → BeginsWith text l)
          → take bytes text ≡ spaced l
      go [] e h = rw e refl
      go (a ∷ l) e h = ap (λ n. take n text) e ∙ BeginsWith.same (h (omega arith))

  module _ (a : NameBytes) where
    abbrev one : ℕ
    one = length (spaced (a ∷ []))

    size : length (spaced (names ++ a ∷ [])) ≡ bytes + one
    size = omega (
      arith,
      ap length (spaced-append names (a ∷ [])),
      length-append (spaced names) (spaced (a ∷ [])),
      is,
    )

    pub begins-more : take bytes text ≡ spaced names → BeginsWith (drop bytes text) (a ∷ [])
        → BeginsWith text (names ++ a ∷ [])
    begins-more same h = record {
      same =
          ap (λ n. take n text) size ∙ take-add bytes one text ∙ ap₂ (λ (x y : List ℕ). x ++ y) same h.same
          ∙ sym (spaced-append names (a ∷ []));
      ends = ap (λ n. may_follow (slice_get text n)) size ∙ ap may_follow (sym (drop-get bytes one text))
          ∙ h.ends;
    }

    pub begins-last : BeginsWith text (names ++ a ∷ []) → BeginsWith (drop bytes text) (a ∷ [])
    begins-last h = record {
      same =
          sym (drop-take bytes one text) ∙ ap (λ n. drop bytes (take n text)) (sym size)
          ∙ ap (drop bytes) (h.same ∙ spaced-append names (a ∷ []))
          ∙ ap (λ n. drop n (spaced names ++ spaced (a ∷ []))) is
          ∙ drop-append_seam (spaced names) (spaced (a ∷ []));
      ends = ap may_follow (drop-get bytes one text) ∙ ap (λ n. may_follow (slice_get text n)) (sym size)
          ∙ h.ends;
    }

-- one name more
module _ (text ends : List ℕ) (n bytes : ℕ) (t : Taken text ends n bytes) (a : NameBytes) (name : IsName a)
    (begins : BeginsWith (drop bytes text) (a ∷ [])) where
  same : take bytes text ≡ spaced t.names
  same = front text t.names bytes t.bytes_are t.begins

  one-long : length (spaced (a ∷ [])) ≡ 1 + length a
  one-long = omega (arith, ap length (append-nil a))

  behind : bytes + (1 + length a) ≡ length (spaced (t.names ++ a ∷ []))
  behind =
      omega (
        arith,
        ap length (spaced-append t.names (a ∷ [])),
        length-append (spaced t.names) (spaced (a ∷ [])),
        t.bytes_are,
        one-long,
      )

  room : bytes + (1 + length a) ≤ length text
  room =
      let whole : length (take (length (spaced (a ∷ []))) (drop bytes text)) ≡ length (spaced (a ∷ [])) =
      ap length begins.same in
      omega (
        arith,
        whole,
        one-long,
        length-drop bytes text,
        length-take (length (spaced (a ∷ []))) (drop bytes text),
        t.within,
      )

  pub one-more : (ends_behind : List ℕ) → take (n + 1) ends_behind ≡ take n ends ++ (bytes + (1 + length a))
      ∷ [] → Taken text ends_behind (n + 1) (bytes + (1 + length a))
  one-more ends_behind e = record {
    names = t.names ++ a ∷ [];
    are = All-push IsName t.names a t.are name;
    count = omega (arith, t.count, length-append t.names (a ∷ []));
    bytes_are = behind;
    begins = λ some. begins-more text t.names bytes t.bytes_are a same begins;
    ends_are =
        let place : bytes + (1 + length a) ≡ 0 + length (spaced t.names) + 1 + length a =
        omega (arith, t.bytes_are) in
        e ∙ ap₂ (λ (x : List ℕ) (y : ℕ). x ++ y ∷ []) t.ends_are place ∙ sym (ends-append 0 t.names (a ∷ []));
    small = omega (arith, t.small, name.few_bytes);
    within = room;
  }

-- all of them, or as many as there is room for
pub first-names : (text ends : List ℕ) (n bytes : ℕ) (t : Taken text ends n bytes) → n ≤ 64
    → (n < 64 → (a : NameBytes) → IsName a → BeginsWith (drop bytes text) (a ∷ []) → ⊥)
    → (names : List NameBytes) × AreFirstNames 64 text names n bytes × (take n ends ≡ ends_of 0 names)
first-names text ends n bytes t few none = (
  t.names,
  record {
    are = t.are;
    count = t.count;
    bytes_are = t.bytes_are;
    few = omega (arith, t.count, few);
    begins = t.begins;
    all = λ less a name more. none (omega (arith, t.count, less)) a name
        (begins-last text t.names bytes t.bytes_are a more);
  },
  t.ends_are,
)
