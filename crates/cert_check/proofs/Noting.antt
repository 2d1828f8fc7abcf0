-- How the noting of words goes on, stops and ends.
use Rattle.std.proofs.Common.{◌≡◌, ℕ, suc, ◌+◌, ◌<◌, ◌==◌, inl, inr, Some, Bool, true, false, List, [], ◌∷◌}
use Rattle.std.proofs.Common.{◌++◌, length, codes, refl, sym, ◌∙◌, ap, subst, arith, append_assoc}
use Rattle.std.proofs.Common.{length-append}
use Rattle.std.specs.Prelude.{All, IsPermutation, MatchBool, bytes_eq}
use Rattle.std.specs.Cmp.Lexicographic.{bytes_decides}
use Rattle.std.proofs.lemmas.Bool.{eqb-true, eqb-false}
use Rattle.std.proofs.lemmas.List.{append-nil}
use Rattle.std.proofs.lemmas.List.Elements.{All-head, All-tail}
use Rattle.std.proofs.lemmas.List.Sorted.{length_permutation}
use Rattle.events.specs.Names.{NameBytes, IsName}
use Rattle.specification.proofs.Members.{Once}
use Rattle.format_words.specs.Words.{Word}
use Rattle.format_words.specs.Reading.{word_at}
use Rattle.format_words.proofs.NamesRead.{word-at-some}
use Rattle.cert_check.specs.Noted.{Noted, Holds, CanBeNoted, placed_from}
use Rattle.cert_check.specs.RowWords.{pairs_of, slashes, IsRowWord, GoesOn, Stops}
use Rattle.cert_check.proofs.NotedNames.{can_front, placed-append}
use Rattle.cert_check.proofs.Ranks.{can_permutation, permutation_noted}
use Rattle.cert_check.proofs.WordPairs.{pairs-slash, pairs-name, slashes-slash, slashes-name}

-- one word of a row
module _ (names : List NameBytes) (unset : ℕ) (noted : List Noted) (d : ℕ) (w : Word) (values : List ℕ) where
  slash : w ≡ codes "/" → bytes_eq w (codes "/") ≡ true
  slash is = (bytes_decides w (codes "/")).1 is

  no-other : (w ≡ codes "/" → ⊥) → (t : Bool) → bytes_eq w (codes "/") ≡ t → t ≡ false
  no-other other false e = refl
  no-other other true e = absurd (other ((bytes_decides w (codes "/")).0 e))

  pub slash-goes-on : w ≡ codes "/" → Holds names unset noted values
      → GoesOn names unset noted d w values (d + 1)
  slash-goes-on is holds = (
    noted,
    holds,
    (λ ws. ap (λ (l : List Noted). noted ++ l) (pairs-slash d w ws (slash is))),
    (λ ws. let e : slashes (w ∷ ws) ≡ slashes ws + 1 = slashes-slash w ws (slash is) in omega (arith, e)),
  )

  pub slash-stops : w ≡ codes "/" → d + 1 ≡ unset → Stops names unset noted d w
  slash-stops is most = λ ws lt can. let e : slashes (w ∷ ws) ≡ slashes ws + 1 =
      slashes-slash w ws (slash is) in absurd (omega (arith, e, lt, most))

  no : (w ≡ codes "/" → ⊥) → bytes_eq w (codes "/") ≡ false
  no other = no-other other (bytes_eq w (codes "/")) refl

  name-on : (ws : List Word) → (w ≡ codes "/" → ⊥) → noted ++ pairs_of d (w ∷ ws)
      ≡ (noted ++ (w, d) ∷ []) ++ pairs_of d ws
  name-on ws h = ap (λ (l : List Noted). noted ++ l) (pairs-name d w ws (no h))
      ∙ sym (append_assoc noted ((w, d) ∷ []) (pairs_of d ws))

  pub name-goes-on : (w ≡ codes "/" → ⊥) → Holds names unset (noted ++ (w, d) ∷ []) values
      → GoesOn names unset noted d w values d
  name-goes-on h holds = (
    noted ++ (w, d) ∷ [],
    holds,
    (λ ws. name-on ws h),
    (λ ws. ap (λ (n : ℕ). d + n) (slashes-name w ws (no h))),
  )

  pub name-stops : (w ≡ codes "/" → ⊥) → (CanBeNoted names (noted ++ (w, d) ∷ []) → ⊥)
      → Stops names unset noted d w
  name-stops h none =
      λ ws lt can. none
      (can_front names (noted ++ (w, d) ∷ []) (pairs_of d ws) (subst (CanBeNoted names) (name-on ws h) can))

  pub word-name : (w ≡ codes "/" → ⊥) → IsRowWord w → IsName w
  word-name other (inl is) = absurd (other is)
  word-name other (inr h) = h

-- what is noted of all words when these are left
module _ (names : List NameBytes) (unset : ℕ) (all : List Word) where
  abbrev pub State : List ℕ → ℕ → List Word → Type 0
  State values d ws =
      (noted : List Noted) × Holds names unset noted values × (pairs_of 0 all ≡ noted ++ pairs_of d ws)
      × (slashes all ≡ d + slashes ws)
      × (All IsRowWord all → All IsRowWord ws)

  pub state-start : (values : List ℕ) → Holds names unset [] values → State values 0 all
  state-start values holds =
      ([], holds, refl, (let e : slashes all ≡ 0 + slashes all = omega arith in e), (λ h. h))

  module _ (values : List ℕ) (d : ℕ) (left : List Word) (w : Word) (ws : List Word)
      (is : word_at left ≡ Some (w, ws)) (so_far : State values d left) where
    state : State values d (w ∷ ws)
    state = subst (State values d) (word-at-some left w ws is) so_far

    pub state-next : (more : List ℕ) (next : ℕ) → ((noted : List Noted) → Holds names unset noted values
        → GoesOn names unset noted d w more next) → State more next ws
    state-next more next on =
        let g = on state.0 state.1 in
        (g.0, g.1, state.2 ∙ g.2 ws, state.3 ∙ g.3 ws, (λ h. All-tail IsRowWord w ws (state.4 h)))

    pub state-stop : ((noted : List Noted) → Holds names unset noted values → IsRowWord w
        → Stops names unset noted d w) → All IsRowWord all → slashes all < unset
        → CanBeNoted names (pairs_of 0 all) → ⊥
    state-stop stops each few can =
        let count : slashes all ≡ d + slashes (w ∷ ws) = state.3 in
        stops state.0 state.1 (All-head IsRowWord w ws (state.4 each)) ws
        (subst (λ (n : ℕ). n < unset) count few) (subst (CanBeNoted names) state.2 can)

  pub state-end : (values : List ℕ) (d : ℕ) → State values d [] → Holds names unset (pairs_of 0 all) values
  state-end values d state =
      subst (λ (ps : List Noted). Holds names unset ps values) (sym (state.2 ∙ append-nil state.0)) state.1

-- the same of an order
module _ (names : List NameBytes) (count : ℕ) (all : List Word) where
  abbrev pub Placed : List ℕ → ℕ → List Word → Type 0
  Placed values place ws = (front : List NameBytes) × Holds names count (placed_from 0 front) values
      × (all ≡ front ++ ws) × (length front ≡ place) × (All IsName all → All IsName ws)

  pub placed-start : (values : List ℕ) → Holds names count [] values → Placed values 0 all
  placed-start values holds = ([], holds, refl, refl, (λ h. h))

  module _ (values : List ℕ) (place : ℕ) (left : List Word) (w : Word) (ws : List Word)
      (is : word_at left ≡ Some (w, ws)) (so_far : Placed values place left) where
    stands : Placed values place (w ∷ ws)
    stands = subst (Placed values place) (word-at-some left w ws is) so_far

    front-next : placed_from 0 (stands.0 ++ w ∷ []) ≡ placed_from 0 stands.0 ++ (w, place) ∷ []
    front-next =
        let size : 0 + length stands.0 ≡ place = omega (arith, stands.3) in
        placed-append 0 stands.0 (w ∷ []) ∙ ap (λ (n : ℕ). placed_from 0 stands.0 ++ (w, n) ∷ []) size

    pub placed-next : (more : List ℕ) → ((noted : List Noted) → Holds names count noted values
        → Holds names count (noted ++ (w, place) ∷ []) more) → Placed more (place + 1) ws
    placed-next more on = (
      stands.0 ++ w ∷ [],
      subst (λ (ps : List Noted). Holds names count ps more) (sym front-next)
          (on (placed_from 0 stands.0) stands.1),
      stands.2 ∙ sym (append_assoc stands.0 (w ∷ []) ws),
      (let n : length (stands.0 ++ w ∷ []) ≡ length stands.0 + 1 = length-append stands.0 (w ∷ []) in
          omega (arith, n, stands.3)),
      λ h. All-tail IsName w ws (stands.4 h),
    )

    placed-all : placed_from 0 all ≡ (placed_from 0 stands.0 ++ (w, place) ∷ [])
        ++ placed_from (0 + length (stands.0 ++ w ∷ [])) ws
    placed-all =
        ap (placed_from 0) (stands.2 ∙ sym (append_assoc stands.0 (w ∷ []) ws))
        ∙ placed-append 0 (stands.0 ++ w ∷ []) ws
        ∙ ap (λ (ps : List Noted). ps ++ placed_from (0 + length (stands.0 ++ w ∷ [])) ws) front-next

    pub placed-stop : Once names → ((noted : List Noted) → Holds names count noted values → IsName w
        → CanBeNoted names (noted ++ (w, place) ∷ []) → ⊥) → All IsName all → IsPermutation names all → ⊥
    placed-stop once stops each perm =
        stops (placed_from 0 stands.0) stands.1 (All-head IsName w ws (stands.4 each))
        (can_front names (placed_from 0 stands.0 ++ (w, place) ∷ [])
        (placed_from (0 + length (stands.0 ++ w ∷ [])) ws)
        (subst (CanBeNoted names) placed-all (can_permutation names all once perm)))

    pub placed-many : count ≡ length names → place ≡ count → IsPermutation names all → ⊥
    placed-many size most perm =
        let e : length all ≡ length names = length_permutation names all perm in
        let n : length all ≡ length stands.0 + suc (length ws) =
        ap (λ (l : List Word). length l) stands.2 ∙ length-append stands.0 (w ∷ ws) in
        omega (arith, e, n, stands.3, size, most)

  pub placed-end : (values : List ℕ) (place : ℕ) → Once names → count ≡ length names → Placed values place []
      → (t : Bool) → (place == count) ≡ t →
      MatchBool t (IsPermutation names all × Holds names count (placed_from 0 all) values)
      (All IsName all → IsPermutation names all → ⊥)
  placed-end values place once is state true e =
      let whole : all ≡ state.0 = state.2 ∙ append-nil state.0 in
      let same : place ≡ count = eqb-true place count e in
      let holds : Holds names count (placed_from 0 all) values =
      subst (λ (l : List Word). Holds names count (placed_from 0 l) values) (sym whole) state.1 in
      let size : length all ≡ length names = ap (λ (l : List Word). length l) whole ∙ state.3 ∙ same ∙ is in
      (permutation_noted names all once size holds.can, holds)
  placed-end values place once is state false e = λ each perm.
      let whole : all ≡ state.0 = state.2 ∙ append-nil state.0 in
      let n : length all ≡ length names = length_permutation names all perm in
      eqb-false place count e (sym state.3 ∙ ap (λ (l : List Word). length l) (sym whole) ∙ n ∙ sym is)
