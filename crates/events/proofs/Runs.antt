-- How many bytes names take with their spaces, and how far a text goes on with them.
use Rattle.std.proofs.Common.{◌≡◌, ℕ, zero, suc, ◌+◌, ◌-◌, ◌<◌, ◌≤◌, ◌^◌, ◌⊎◌, inl, inr, true, false, List}
use Rattle.std.proofs.Common.{[], ◌∷◌, ◌++◌, length, take, drop, map, get_or, slice_get, Some, All, refl, sym}
use Rattle.std.proofs.Common.{ap, ◌∙◌, subst, arith}
use Rattle.std.proofs.lemmas.Bool.{cases_lt}
use Rattle.std.proofs.lemmas.List.{length-drop, length-append, append-nil, take-take, take-append-drop}
use Rattle.std.proofs.lemmas.List.Elements.{All-drop}
use Rattle.std.proofs.lemmas.Option.{slice_get-get_or}
use Rattle.std.proofs.Math.Seq.{drop-append_seam, take-append_seam}
use Rattle.events.specs.Names.{NameBytes, IsName}
use Rattle.events.specs.Packed.{spaced, ends_of, start_at, pieces, IsPacked}
use Rattle.events.specs.Runs.{BeginsWith, IsLongestRun, may_follow}
use Rattle.events.proofs.Packed.{spaced-append}
use Rattle.events.proofs.Places.{take-get, drop-get}

-- how many bytes the first names take
abbrev pub size : List NameBytes → ℕ → ℕ
size names n = length (spaced (take n names))

split : (names : List NameBytes) (n : ℕ) → spaced names ≡ spaced (take n names) ++ spaced (drop n names)
split names n = ap spaced (sym (take-append-drop n names)) ∙ spaced-append (take n names) (drop n names)

pub take-spaced : (names : List NameBytes) (n : ℕ) → take (size names n) (spaced names)
    ≡ spaced (take n names)
take-spaced names n = ap (take (size names n)) (split names n)
    ∙ take-append_seam (spaced (take n names)) (spaced (drop n names))

pub drop-spaced : (names : List NameBytes) (n : ℕ) → drop (size names n) (spaced names)
    ≡ spaced (drop n names)
drop-spaced names n = ap (drop (size names n)) (split names n)
    ∙ drop-append_seam (spaced (take n names)) (spaced (drop n names))

pub size-within : (names : List NameBytes) (n : ℕ) → size names n ≤ length (spaced names)
size-within names n =
    omega (arith, ap length (split names n), length-append (spaced (take n names)) (spaced (drop n names)))

pub size-rises : (names : List NameBytes) (n m : ℕ) → n ≤ m → size names n ≤ size names m
size-rises names n m h =
    subst (λ l. length (spaced l) ≤ size names m) (take-take n m names h) (size-within (take m names) n)

size-more : (names : List NameBytes) (n : ℕ) → n < length names → size names n + 1 ≤ size names (suc n)
size-more [] n h = absurd (omega (arith, h))
size-more (a ∷ names) zero h = omega arith
size-more (a ∷ names) (suc n) h =
    let more = size-more names n (omega (arith, h)) in
    omega (
      arith,
      more,
      length-append a (spaced (take n names)),
      length-append a (spaced (take (suc n) names)),
    )

first-space : (names : List NameBytes) → 0 < length names → slice_get (spaced names) 0 ≡ Some 32
first-space [] h = absurd (omega (arith, h))
first-space (a ∷ names) h = refl

-- a space stands before each name
space-at : (names : List NameBytes) (n : ℕ) → n < length names
    → slice_get (spaced names) (size names n) ≡ Some 32
space-at names n h =
    let place : size names n ≡ size names n + 0 = omega arith in
    ap (slice_get (spaced names)) place ∙ sym (drop-get (size names n) 0 (spaced names))
    ∙ ap (λ l. slice_get l 0) (drop-spaced names n)
    ∙ first-space (drop n names) (omega (arith, h, length-drop n names))

-- ends
pub ends-length : (start : ℕ) (names : List NameBytes) → length (ends_of start names) ≡ length names
ends-length start [] = refl
ends-length start (a ∷ names) = ap suc (ends-length (start + 1 + length a) names)

pub ends-index : (start : ℕ) (names : List NameBytes) (k d : ℕ) → k < length names
    → get_or (ends_of start names) k d ≡ start + size names (suc k)
ends-index start [] k d h = absurd (omega (arith, h))
ends-index start (a ∷ names) zero d h = omega (arith, ap length (append-nil a))
ends-index start (a ∷ names) (suc k) d h =
    let rest = ends-index (start + 1 + length a) names k d (omega (arith, h)) in
    omega (arith, rest, length-append a (spaced (take (suc k) names)))

pub ends-take : (start : ℕ) (names : List NameBytes) (n : ℕ)
    → take n (ends_of start names) ≡ ends_of start (take n names)
ends-take start names zero = refl
ends-take start [] (suc n) = refl
ends-take start (a ∷ names) (suc n) =
    ap (λ l. (start + 1 + length a) ∷ l) (ends-take (start + 1 + length a) names n)

pub ends-drop : (start : ℕ) (names : List NameBytes) (n : ℕ)
    → drop n (ends_of start names) ≡ ends_of (start_at start (ends_of start names) n) (drop n names)
ends-drop start names zero = refl
ends-drop start [] (suc n) = refl
ends-drop start (a ∷ names) (suc n) = ends-drop (start + 1 + length a) names n

pub start-of : (start : ℕ) (names : List NameBytes) (n : ℕ) → start_at start (ends_of start names) n
    ≡ start + size names n
start-of start names zero = omega arith
start-of start [] (suc n) = omega arith
start-of start (a ∷ names) (suc n) =
    omega (arith, start-of (start + 1 + length a) names n, length-append a (spaced (take n names)))

-- ends of the same names from another place
moved : (from begin d : ℕ) (names : List NameBytes)
    → map (λ end. begin + (end - from)) (ends_of (from + d) names) ≡ ends_of (begin + d) names
moved from begin d [] = refl
moved from begin d (a ∷ names) =
    let next : from + d + 1 + length a ≡ from + (d + 1 + length a) = omega arith in
    let place : begin + (from + d + 1 + length a - from) ≡ begin + d + 1 + length a = omega arith in
    let behind : begin + (d + 1 + length a) ≡ begin + d + 1 + length a = omega arith in
    let rest : map (λ end. begin + (end - from)) (ends_of (from + d + 1 + length a) names)
    ≡ ends_of (begin + d + 1 + length a) names =
    ap (λ x. map (λ end. begin + (end - from)) (ends_of x names)) next
    ∙ moved from begin (d + 1 + length a) names ∙ ap (λ x. ends_of x names) behind in
    rw (place, rest) refl

pub ends-moved : (from begin : ℕ) (names : List NameBytes)
    → map (λ end. begin + (end - from)) (ends_of from names) ≡ ends_of begin names
ends-moved from begin names =
    let here : from ≡ from + 0 = omega arith in
    let there : begin + 0 ≡ begin = omega arith in
    ap (λ x. map (λ end. begin + (end - from)) (ends_of x names)) here ∙ moved from begin 0 names
    ∙ ap (λ x. ends_of x names) there

pub ends-range : (from begin : ℕ) (names : List NameBytes) → begin + length (spaced names) < 2 ^ 32
    → All (λ end. (from ≤ end) × (begin + (end - from) < 2 ^ 32)) (ends_of from names)
ends-range from begin names h k d lt =
    let is : get_or (ends_of from names) k d ≡ from + size names (suc k) =
    ends-index from names k d (omega (arith, lt, ends-length from names)) in
    let within = size-within names (suc k) in
    subst (λ end. (from ≤ end) × (begin + (end - from) < 2 ^ 32)) (sym is)
    (omega arith, omega (arith, h, within))

-- the text and the names' bytes are the same so far, and no farther
module _ (text : List ℕ) (names : List NameBytes) (c : ℕ) (same : take c text ≡ take c (spaced names))
    (differ : (x : ℕ) → slice_get text c ≡ Some x → slice_get (spaced names) c ≡ Some x → ⊥) where
  front-same : (m : ℕ) → size names m ≤ c → take (size names m) text ≡ spaced (take m names)
  front-same m h =
      sym (take-take (size names m) c text h) ∙ ap (take (size names m)) same
      ∙ take-take (size names m) c (spaced names) h ∙ take-spaced names m

  not-past : (m : ℕ) → BeginsWith text (take m names) → size names m ≤ c
  not-past m h = elim (cases_lt c (size names m)) [
    | inl past ↦
        let at : slice_get (spaced (take m names)) c ≡ Some (get_or (spaced (take m names)) c 0) =
        slice_get-get_or (spaced (take m names)) c 0 past in
        let here : slice_get text c ≡ slice_get (spaced (take m names)) c =
        sym (take-get (size names m) c text past) ∙ ap (λ l. slice_get l c) h.same in
        let there : slice_get (spaced names) c ≡ slice_get (spaced (take m names)) c =
        sym (take-get (size names m) c (spaced names) past)
        ∙ ap (λ l. slice_get l c) (take-spaced names m) in
        absurd (differ (get_or (spaced (take m names)) c 0) (here ∙ at) (there ∙ at))
    | inr within ↦ within
  ]

  space-next : (m : ℕ) → m < length names → size names m < c → slice_get text (size names m) ≡ Some 32
  space-next m h lt =
      sym (take-get c (size names m) text lt) ∙ ap (λ l. slice_get l (size names m)) same
      ∙ take-get c (size names m) (spaced names) lt ∙ space-at names m h

  module _ (n : ℕ) (within : n ≤ length names) (low : size names n ≤ c)
      (high : n < length names → c < size names (suc n)) where
    no-more : (m : ℕ) → m ≤ length names → BeginsWith text (take m names) → m ≤ n
    no-more m h begins = elim (cases_lt n m) [
      | inl past ↦
          let far : c < size names (suc n) = high (omega (arith, past, h)) in
          absurd (omega (arith, far, not-past m begins, size-rises names (suc n) m (omega (arith, past))))
      | inr done ↦ done
    ]

    pub all-of-them : (b : ℕ) → b ≡ size names n → (n ≡ 0) ⊎ (may_follow (slice_get text b) ≡ true)
        → IsLongestRun text names n b
    all-of-them b is follows = record {
      within = within;
      bytes_are = is;
      begins = λ some. record {
        same = front-same n low;
        ends = elim follows [
          | inl none ↦ absurd (omega (arith, some, none))
          | inr follow ↦ ap (λ x. may_follow (slice_get text x)) (sym is) ∙ follow
        ];
      };
      most = no-more;
    }

    pub one-less : (b short : ℕ) → b ≡ size names n → short ≡ size names (n - 1) → 0 < n
        → may_follow (slice_get text b) ≡ false → IsLongestRun text names (n - 1) short
    one-less b short size_is short_is some follows =
        let next : suc (n - 1) ≡ n = omega (arith, some) in
        let more : size names (n - 1) + 1 ≤ size names n =
        subst (λ k. size names (n - 1) + 1 ≤ size names k) next
        (size-more names (n - 1) (omega (arith, some, within))) in
        record {
          within = omega (arith, within);
          bytes_are = short_is;
          begins = λ _. record {
            same = front-same (n - 1) (omega (arith, more, low));
            ends = ap may_follow
                (space-next (n - 1) (omega (arith, some, within)) (omega (arith, more, low)));
          };
          most = λ m h begins. elim (cases_lt m n) [
            | inl less ↦ omega (arith, less)
            | inr past ↦
                let is : m ≡ n = omega (arith, past, no-more m h begins) in
                absurd (true-false
                (sym begins.ends ∙ ap (λ k. may_follow (slice_get text (size names k))) is
                ∙ ap (λ x. may_follow (slice_get text x)) (sym size_is) ∙ follows))
          ];
        }
      where
        true-false : true ≡ false → ⊥
        true-false e = cc

-- no names are no run
pub no-run : (text : List ℕ) (names : List NameBytes) → length names ≡ 0 → IsLongestRun text names 0 0
no-run text names none = record {
  within = omega arith;
  bytes_are = refl;
  begins = λ some. absurd (omega (arith, some));
  most = λ m h begins. omega (arith, h, none);
}

pub as-many-ends : {bytes ends : List ℕ} {names : List NameBytes} → IsPacked bytes ends
    → pieces bytes 0 ends ≡ names → length ends ≡ length names
as-many-ends {names} packed are = ap length (packed.ends_are ∙ ap (ends_of 0) are) ∙ ends-length 0 names

-- the bytes of packed names from place j on begin at `from`, and so do their ends
pub record ArePackedFrom (bytes ends : List ℕ) (names : List NameBytes) (j from : ℕ) : Type 0 where
  pub within : from ≤ length bytes
  pub bytes_are : drop from bytes ≡ spaced (drop j names)
  pub ends_are : drop j ends ≡ ends_of from (drop j names)
  pub are : All IsName (drop j names)

pub packed-from : (j : ℕ) {bytes ends own_ends : List ℕ} {names : List NameBytes} {from : ℕ}
    → IsPacked bytes ends → pieces bytes 0 ends ≡ names → from ≡ start_at 0 own_ends j → own_ends ≡ ends
    → ArePackedFrom bytes ends names j from
packed-from j {bytes} {ends} {own_ends} {names} {from} packed are begins same =
    let all_bytes : bytes ≡ spaced names = packed.bytes_are ∙ ap spaced are in
    let all_ends : ends ≡ ends_of 0 names = packed.ends_are ∙ ap (ends_of 0) are in
    let start : from ≡ start_at 0 (ends_of 0 names) j = begins ∙ ap (λ l. start_at 0 l j) (same ∙ all_ends) in
    let size_is : from ≡ size names j = omega (arith, start, start-of 0 names j) in
    record {
      within = omega (arith, size_is, ap length all_bytes, size-within names j);
      bytes_are = rw (size_is, all_bytes) (drop-spaced names j);
      ends_are = ap (drop j) all_ends ∙ ends-drop 0 names j ∙ ap (λ n. ends_of n (drop j names)) (sym start);
      are = All-drop IsName j names (subst (All IsName) are packed.names);
    }
