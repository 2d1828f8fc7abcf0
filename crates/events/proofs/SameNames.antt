-- The text of names begins with other names exactly where the names do.
use Rattle.std.proofs.Common.{◌≡◌, ℕ, zero, suc, ◌+◌, ◌<◌, ◌≤◌, ◌==◌, true, IsTrue, List, [], ◌∷◌, ◌++◌}
use Rattle.std.proofs.Common.{length, take, drop, slice_get, Some, refl, length-take, sym, ap, ◌∙◌, subst}
use Rattle.std.proofs.Common.{arith}
use Rattle.std.specs.List.{All}
use Rattle.std.proofs.lemmas.Bool.Decides.{nat_tests}
use Rattle.std.proofs.lemmas.List.{append_assoc, take-append-drop}
use Rattle.std.proofs.lemmas.List.Elements.{All-head, All-tail, All-take}
use Rattle.std.proofs.lemmas.List.Sums.{AllPass-from_list_all}
use Rattle.std.proofs.lemmas.Option.{slice_get_within}
use Rattle.std.proofs.Math.Seq.{drop-append_seam}
use Rattle.events.specs.Names.{NameBytes, IsName, is_name_byte}
use Rattle.events.specs.Packed.{spaced}
use Rattle.events.specs.Runs.{BeginsWith, IsLongestRun, may_follow}
use Rattle.events.proofs.Packed.{spaced-append}
use Rattle.events.proofs.Places.{drop-get}
use Rattle.events.proofs.Runs.{size, take-spaced}

-- what may stand behind a name
abbrev MayFollow : List ℕ → Type 0
MayFollow rest = IsTrue (may_follow (slice_get rest 0))

word : (a : NameBytes) → IsName a → All (λ b. is_name_byte b ≡ true) a
word a h = AllPass-from_list_all is_name_byte a h.each_byte

-- a byte of a name does not stand behind one
inside : (b : ℕ) (more rest : List ℕ) → is_name_byte b ≡ true → MayFollow rest → rest ≡ b ∷ more → ⊥
inside b more rest h follows is =
    let space : (b == 32) ≡ true = subst MayFollow is follows in
    let same : b ≡ 32 = grind (arith, nat_tests, space) in
    let bad : is_name_byte 32 ≡ true = subst (λ x. is_name_byte x ≡ true) same h in
    cc bad

-- two texts are the same, each a name and what may follow it
same-word : (v w p q : List ℕ) → All (λ b. is_name_byte b ≡ true) v → All (λ b. is_name_byte b ≡ true) w
    → MayFollow p → MayFollow q → v ++ p ≡ w ++ q → (v ≡ w) × (p ≡ q)
same-word [] [] p q a b f g is = (refl, is)
same-word [] (y ∷ w) p q a b f g is =
    absurd (inside y (w ++ q) p (All-head (λ b. is_name_byte b ≡ true) y w b) f is)
same-word (x ∷ v) [] p q a b f g is =
    absurd (inside x (v ++ p) q (All-head (λ b. is_name_byte b ≡ true) x v a) g (sym is))
same-word (x ∷ v) (y ∷ w) p q a b f g is =
    let head : x ≡ y = cc in
    let tail : v ++ p ≡ w ++ q = cc in
    let rest =
    same-word v w p q (All-tail (λ b. is_name_byte b ≡ true) x v a)
    (All-tail (λ b. is_name_byte b ≡ true) y w b) f g tail in
    (rw (head, rest.0) refl, rest.1)

spaced-follows : (names : List NameBytes) → MayFollow (spaced names)
spaced-follows [] = refl
spaced-follows (a ∷ names) = refl

more-follows : (names : List NameBytes) (rest : List ℕ) → MayFollow rest → MayFollow (spaced names ++ rest)
more-follows [] rest h = h
more-follows (a ∷ names) rest h = refl

same-front : (names others : List NameBytes) (rest : List ℕ) → All IsName names → All IsName others
    → MayFollow rest → spaced others ≡ spaced names ++ rest → take (length names) others ≡ names
same-front [] others rest h k follows is = refl
same-front (a ∷ names) [] rest h k follows is = absurd (cc is)
same-front (a ∷ names) (b ∷ others) rest h k follows is =
    let tail : b ++ spaced others ≡ (a ++ spaced names) ++ rest = cc in
    let both =
    same-word b a (spaced others) (spaced names ++ rest) (word b (All-head IsName b others k))
    (word a (All-head IsName a names h)) (spaced-follows others) (more-follows names rest follows)
    (tail ∙ append_assoc a (spaced names) rest) in
    rw (
      both.0,
      same-front names others rest (All-tail IsName a names h)
          (All-tail IsName b others k) follows both.1,
    ) refl

module _ (names others : List NameBytes) (named : All IsName names) (others_named : All IsName others) where
  -- a text of names that begins with names
  front-of : (text : List ℕ) → text ≡ spaced others → BeginsWith text names
      → take (length names) others ≡ names
  front-of text is begins =
      let cut : spaced others ≡ spaced names ++ drop (length (spaced names)) text =
      sym is ∙ sym (take-append-drop (length (spaced names)) text)
      ∙ ap (λ l. l ++ drop (length (spaced names)) text) begins.same in
      let place : length (spaced names) ≡ length (spaced names) + 0 = omega arith in
      let follows : MayFollow (drop (length (spaced names)) text) =
      subst (λ o. IsTrue (may_follow o)) (ap (slice_get text) place
      ∙ sym (drop-get (length (spaced names)) 0 text)) begins.ends in
      same-front names others (drop (length (spaced names)) text) named others_named follows cut

begins-with-front : (others : List NameBytes) (n : ℕ) → BeginsWith (spaced others) (take n others)
begins-with-front others n = record {
  same = take-spaced others n;
  ends =
      let place : size others n ≡ size others n + 0 = omega arith in
      let cut : spaced others ≡ spaced (take n others) ++ spaced (drop n others) =
      ap spaced (sym (take-append-drop n others)) ∙ spaced-append (take n others) (drop n others) in
      let behind : drop (size others n) (spaced others) ≡ spaced (drop n others) =
      ap (drop (size others n)) cut
      ∙ drop-append_seam (spaced (take n others)) (spaced (drop n others)) in
      subst (λ o. IsTrue (may_follow o)) (ap (λ l. slice_get l 0) (sym behind)
      ∙ drop-get (size others n) 0 (spaced others) ∙ ap (slice_get (spaced others)) (sym place))
      (spaced-follows (drop n others));
}

take-one-more : (n : ℕ) (names others : List NameBytes) (a : NameBytes) → take n names ≡ take n others
    → slice_get names n ≡ Some a → slice_get others n ≡ Some a → take (suc n) names ≡ take (suc n) others
take-one-more n [] others a is here there = absurd (cc here)
take-one-more n (b ∷ names) [] a is here there = absurd (cc there)
take-one-more zero (b ∷ names) (c ∷ others) a is here there = cc
take-one-more (suc n) (b ∷ names) (c ∷ others) a is here there =
    let head : b ≡ c = cc in
    let tail : take n names ≡ take n others = cc in
    rw (head, take-one-more n names others a tail here there) refl

-- the longest run of names in the text of others is of the names that both begin with
module _ (names others : List NameBytes) (named : All IsName names) (others_named : All IsName others)
    (n bytes : ℕ) (longest : IsLongestRun (spaced others) names n bytes) where
  fronts-to : (m : ℕ) → m ≡ n → take m names ≡ take m others
  fronts-to zero is = refl
  fronts-to (suc m) is =
      let count : length (take (suc m) names) ≡ suc m =
      omega (arith, length-take (suc m) names, longest.within, is) in
      let some : 0 < n = omega (arith, is) in
      let begins : BeginsWith (spaced others) (take (suc m) names) =
      subst (λ k. BeginsWith (spaced others) (take k names)) (sym is) (longest.begins some) in
      let same =
      front-of (take (suc m) names) others (All-take IsName (suc m) names named) others_named
      (spaced others) refl begins in
      sym same ∙ ap (λ k. take k others) count

  pub fronts : take n names ≡ take n others
  fronts = fronts-to n refl

  pub others-within : n ≤ length others
  others-within = omega (arith, ap length fronts, length-take n names, length-take n others, longest.within)

  pub none-more : (a : NameBytes) → slice_get names n ≡ Some a → slice_get others n ≡ Some a → ⊥
  none-more a here there =
      let more : take (suc n) names ≡ take (suc n) others =
      take-one-more n names others a fronts here there in
      let begins : BeginsWith (spaced others) (take (suc n) names) =
      subst (BeginsWith (spaced others)) (sym more) (begins-with-front others (suc n)) in
      let within : suc n ≤ length names = omega (arith, slice_get_within names n a here) in
      absurd (omega (arith, longest.most (suc n) within begins))
