-- What is noted as shown goes on with each name that is new or gone.
use Rattle.std.proofs.Common.{◌≡◌, ◌⊎◌, ◌↔◌, inl, inr, ℕ, zero, suc, ◌+◌, ◌<◌, ◌≤◌, Bool, true, false, cond}
use Rattle.std.proofs.Common.{Option, Some, None, List, [], ◌∷◌, ◌++◌, length, take, drop, refl, sym, ◌∙◌, ap}
use Rattle.std.proofs.Common.{subst, arith, append_assoc}
use Rattle.std.specs.Prelude.{slice_get, option_map, count_by, nat_eq, not, ◌&&◌}
use Rattle.std.proofs.lemmas.Bool.{eq-eqb, eqb-true, false≢true}
use Rattle.std.proofs.lemmas.List.Sums.{sum_by-cons}
use Rattle.std.proofs.lemmas.List.{drop_all, drop-drop, take_all, take-append-drop}
use Rattle.std.proofs.Math.Seq.{take-add}
use Rattle.std.proofs.lemmas.Option.{same_Some, slice_get_within}
use native.Mathlib.Decide.{ℕ_discrete}
use Rattle.events.specs.Names.{NameBytes}
use Rattle.events.specs.History.{History}
use Rattle.specification.proofs.Members.{In, Once, In-append_left, In-append_right, In-append_cases}
use Rattle.visibility.proofs.Entries.{take_next}
use Rattle.visibility.proofs.Lanes.{slice_get-there}
use Rattle.contents_check.specs.declared.element.Element.{Element}
use Rattle.contents_check.specs.declared.elements.Elements.{Elements}
use Rattle.contents_check.specs.declared.standings.Standing.{Standing}
use Rattle.contents_check.specs.declared.standings.Standings.{Standings}
use Rattle.contents_check.specs.Known.{number_of, AreNumbered}
use Rattle.contents_check.proofs.Fronts.{twice}
use Rattle.contents_check.specs.Shown.{joined, AreOfElements, Fits, HasWhatItMust, IsShown, OnlyNotes}
use Rattle.contents_check.specs.Shown.{ShowJust, ShowsLive}
use Rattle.contents_check.specs.Standings.{is_missing, is_extra, is_live, noted_after, AreBehind, IsDeletedBy}
use Rattle.contents_check.specs.Standings.{IsInsertedBy, KeepsShown, Notes}

-- one more in a list, and one less
module _ {X : Type 0} where
  more_of : (x a : X) (xs ys : List X) → In x (xs ++ a ∷ ys) → (x ≡ a) ⊎ In x (xs ++ ys)
  more_of x a xs ys i = elim (In-append_cases x xs (a ∷ ys) i) [
    | inl l ↦ inr (In-append_left x xs ys l)
    | inr (inl e) ↦ inl e
    | inr (inr r) ↦ inr (In-append_right x xs ys r)
  ]

  in_more : (x a : X) (xs ys : List X) → In x (xs ++ ys) → In x (xs ++ a ∷ ys)
  in_more x a xs ys i = elim (In-append_cases x xs ys i) [
    | inl l ↦ In-append_left x xs (a ∷ ys) l
    | inr r ↦ In-append_right x xs (a ∷ ys) (inr r)
  ]

  here_in : (a : X) (xs ys : List X) → In a (xs ++ a ∷ ys)
  here_in a xs ys = In-append_right a xs (a ∷ ys) (inl refl)

  once_more : (a : X) (xs ys : List X) → Once (xs ++ ys) → (In a (xs ++ ys) → ⊥) → Once (xs ++ a ∷ ys)
  once_more a [] ys o n = (n, o)
  once_more a (x ∷ xs) ys o n = (
    (λ i. elim (more_of x a xs ys i) [
      | inl e ↦ n (inl (sym e))
      | inr r ↦ o.0 r
    ]),
    once_more a xs ys o.1 (λ i. n (inr i)),
  )

  once_less : (a : X) (xs ys : List X) → Once (xs ++ a ∷ ys) → Once (xs ++ ys) × (In a (xs ++ ys) → ⊥)
  once_less a [] ys o = (o.1, o.0)
  once_less a (x ∷ xs) ys o =
      let rest = once_less a xs ys o.1 in (
        ((λ i. o.0 (in_more x a xs ys i)), rest.0),
        (λ i. elim i [
          | inl e ↦ o.0 (subst (λ (z : X). In z (xs ++ a ∷ ys)) e (here_in a xs ys))
          | inr r ↦ rest.1 r
        ]),
      )

-- the standing that was there
pub was_there : (number : ℕ) (b : Bool) (i : ℕ) (y : Standing) (old : Option Standing)
    → Some y ≡ option_map (noted_after number b i) old → (z : Standing) × (old ≡ Some z)
    × (y ≡ noted_after number b i z)
was_there number b i y None e = absurd cc
was_there number b i y (Some z) e = (z, refl, (let same : y ≡ noted_after number b i z = cc in same))

noted_here : (number : ℕ) (b : Bool) (i : ℕ) (z : Standing) → i ≡ number
    → (noted_after number b i z).shown ≡ b
noted_here number b i z e =
    ap (λ t. (cond t (record { inserted = z.inserted; deleted = z.deleted; shown = b }) z).shown)
    (eq-eqb i number e)

noted_else : (number : ℕ) (b : Bool) (i : ℕ) (z : Standing) → (i ≡ number → ⊥)
    → (noted_after number b i z).shown ≡ z.shown
noted_else number b i z n = go (nat_eq i number) refl
  where
    go : (t : Bool) → nat_eq i number ≡ t
        → (cond t (record { inserted = z.inserted; deleted = z.deleted; shown = b }) z).shown ≡ z.shown
    go true e = absurd (n (eqb-true i number e))
    go false e = refl

abbrev note : Bool → Standing → Standing
note b z = record { inserted = z.inserted; deleted = z.deleted; shown = b }

-- what a note leaves alone
noted_same : (part : Standing → Bool) → ((v : Bool) (z : Standing) → part (note v z) ≡ part z)
    → (number : ℕ) (b : Bool) (i : ℕ) (z : Standing) → part (noted_after number b i z) ≡ part z
noted_same part alone number b i z = go (nat_eq i number)
  where
    go : (t : Bool) → part (cond t (note b z) z) ≡ part z
    go true = alone b z
    go false = refl

module _ (elements : Elements) (numbers : AreNumbered elements) (number : ℕ) (b : Bool) (old new : Standings)
    (notes : Notes number b old new) where
  was : (i : ℕ) (y : Standing) → slice_get new.list.items i ≡ Some y
      → (z : Standing) × (slice_get old.list.items i ≡ Some z) × (y ≡ noted_after number b i z)
  was i y at = was_there number b i y (slice_get old.list.items i) (sym at ∙ notes.each i)

  pub fits_noted : Fits elements old → Fits elements new
  fits_noted fits = record { size = notes.size ∙ fits.size; missing = notes.missing; extra = notes.extra }

  -- what was told of the counted operations is told still
  told_noted : (part : Standing → Bool) → ((v : Bool) (z : Standing) → part (note v z) ≡ part z)
      → (Tells : List ℕ → NameBytes → Type 0)
      → ((i : ℕ) (x : Element) (y : Standing) → slice_get elements.list.items i ≡ Some x
      → slice_get old.list.items i ≡ Some y → (part y ≡ true) ↔ Tells old.counts x.name)
      → (i : ℕ) (x : Element) (y : Standing) → slice_get elements.list.items i ≡ Some x
      → slice_get new.list.items i ≡ Some y → (part y ≡ true) ↔ Tells new.counts x.name
  told_noted part alone Tells told i x y there at =
      let w = was i y at in
      let same : part y ≡ part w.0 = ap part w.2 ∙ noted_same part alone number b i w.0 in
      let before = told i x w.0 there w.1 in (
        (λ e. subst (λ (cs : List ℕ). Tells cs x.name) (sym notes.counts) (before.0 (sym same ∙ e))),
        (λ k. same ∙ before.1 (subst (λ (cs : List ℕ). Tells cs x.name) notes.counts k)),
      )

  pub behind_noted : (h : History) → AreBehind h elements old → AreBehind h elements new
  behind_noted h behind = record {
    size = notes.size ∙ behind.size;
    missing = notes.missing;
    extra = notes.extra;
    inserted = told_noted (λ (s : Standing). s.inserted) (λ v z. refl) (IsInsertedBy h) behind.inserted;
    deleted = told_noted (λ (s : Standing). s.deleted) (λ v z. refl) (IsDeletedBy h) behind.deleted;
  }

  same_name : (i : ℕ) (x : Element) (a : NameBytes) → slice_get elements.list.items i ≡ Some x
      → number_of elements a ≡ Some number → i ≡ number → x.name ≡ a
  same_name i x a there numbered e =
      let l = numbers.listed a number numbered in
      let both : Some x ≡ Some l.0 = sym there ∙ ap (slice_get elements.list.items) e ∙ l.1 in
      let same : x ≡ l.0 = cc in
      ap (λ (z : Element). z.name) same ∙ l.2

  other_name : (i : ℕ) (x : Element) (a : NameBytes) → slice_get elements.list.items i ≡ Some x
      → number_of elements a ≡ Some number → (i ≡ number → ⊥) → x.name ≡ a → ⊥
  other_name i x a there numbered differs q =
      differs (same_Some i number (sym (numbers.numbered i x there) ∙ ap (number_of elements) q ∙ numbered))

  -- an element of the name is shown as was noted, and any other as it was before
  noted_or_kept : (a : NameBytes) → number_of elements a ≡ Some number → (i : ℕ) (x : Element) (y : Standing)
      → slice_get elements.list.items i ≡ Some x → slice_get new.list.items i ≡ Some y
      → ((x.name ≡ a) × (y.shown ≡ b))
      ⊎ ((x.name ≡ a → ⊥) × (z : Standing) × (slice_get old.list.items i ≡ Some z) × (y.shown ≡ z.shown))
  noted_or_kept a numbered i x y there at =
      let w = was i y at in
      let of : y.shown ≡ (noted_after number b i w.0).shown = ap (λ (s : Standing). s.shown) w.2 in
      elim (ℕ_discrete i number) [
        | yes e ↦ inl (same_name i x a there numbered e, of ∙ noted_here number b i w.0 e)
        | no n ↦ inr (other_name i x a there numbered n, w.0, w.1, of ∙ noted_else number b i w.0 n)
      ]

-- a name is shown now as well
pub note_new : (elements : Elements) (numbers : AreNumbered elements) (number : ℕ) (old new : Standings)
    → Notes number true old new → (a : NameBytes) (xs ys : List NameBytes)
    → number_of elements a ≡ Some number
    → (In a (xs ++ ys) → ⊥) → ShowJust elements old.list.items (xs ++ ys)
    → ShowJust elements new.list.items (xs ++ a ∷ ys)
note_new elements numbers number old new notes a xs ys numbered absent just = record {
  once = once_more a xs ys just.once absent;
  known = λ z i. elim (more_of z a xs ys i) [
    | inl e ↦ (number, ap (number_of elements) e ∙ numbered)
    | inr r ↦ just.known z r
  ];
  shown = λ i x y there at.
      elim (noted_or_kept elements numbers number true old new notes a numbered i x y there at) [
        | inl w ↦
            ((λ _. subst (λ (z : NameBytes). In z (xs ++ a ∷ ys)) (sym w.0) (here_in a xs ys)), (λ _. w.1))
        | inr w ↦
            (let told = just.shown i x w.1 there w.2 in (
              (λ e. in_more x.name a xs ys (told.0 (sym w.3 ∙ e))),
              (λ m. w.3 ∙ told.1 (elim (more_of x.name a xs ys m) [ inl q ↦ absurd (w.0 q) | inr r ↦ r ])),
            ))
      ];
}

-- a name is not shown any more
pub note_gone : (elements : Elements) (numbers : AreNumbered elements) (number : ℕ) (old new : Standings)
    → Notes number false old new → (a : NameBytes) (xs ys : List NameBytes)
    → number_of elements a ≡ Some number
    → ShowJust elements old.list.items (xs ++ a ∷ ys) → ShowJust elements new.list.items (xs ++ ys)
note_gone elements numbers number old new notes a xs ys numbered just =
    let less = once_less a xs ys just.once in
    record {
      once = less.0;
      known = λ z i. just.known z (in_more z a xs ys i);
      shown = λ i x y there at.
          elim (noted_or_kept elements numbers number false old new notes a numbered i x y there at) [
            | inl w ↦ (
              (λ q. absurd (false≢true (sym w.1 ∙ q))),
              (λ m. absurd (less.1 (subst (λ (z : NameBytes). In z (xs ++ ys)) w.0 m))),
            )
            | inr w ↦
                (let told = just.shown i x w.1 there w.2 in (
                  (λ e. elim (more_of x.name a xs ys (told.0 (sym w.3 ∙ e)))
                      [ inl q ↦ absurd (w.0 q) | inr r ↦ r ]),
                  (λ m. w.3 ∙ told.1 (in_more x.name a xs ys m)),
                ))
          ];
    }

-- what is noted as shown is so of other standings that show the same
shown-at : (old new : List Standing) → KeepsShown old new → (i : ℕ) (y : Standing) → slice_get new i ≡ Some y
    → (z : Standing) × (slice_get old i ≡ Some z) × (y.shown ≡ z.shown)
shown-at [] [] keeps i y at = absurd cc
shown-at [] (y ∷ new) keeps i z at = absurd cc
shown-at (x ∷ old) [] keeps i z at = absurd cc
shown-at (x ∷ old) (y ∷ new) keeps zero z at =
    let same : y ≡ z = cc in
    let first : y.shown ≡ x.shown = cc in
    (x, refl, sym (ap (λ (s : Standing). s.shown) same) ∙ first)
shown-at (x ∷ old) (y ∷ new) keeps (suc i) z at =
    let rest : KeepsShown old new = cc in
    shown-at old new rest i z at

pub just_kept : (elements : Elements) (old new : List Standing) (w : List NameBytes) → KeepsShown old new
    → ShowJust elements old w → ShowJust elements new w
just_kept elements old new w keeps just = record {
  once = just.once;
  known = just.known;
  shown = λ i x y there at.
      let z = shown-at old new keeps i y at in
      let told = just.shown i x z.0 there z.1 in
      ((λ e. told.0 (sym z.2 ∙ e)), (λ m. z.2 ∙ told.1 m));
}

-- where none is counted the test fails of each; and where some are counted one is found
none-counted : (test : Standing → Bool) (ss : List Standing) → count_by test ss ≡ 0 → (i : ℕ) (s : Standing)
    → slice_get ss i ≡ Some s → test s ≡ false
none-counted test [] z i s at = absurd cc
none-counted test (t ∷ ss) z i s at = go (λ e j at. none-counted test ss e j s at) (test t) refl i at
  where
    count : count_by test (t ∷ ss) ≡ cond (test t) 1 0 + count_by test ss
    count = sum_by-cons (λ u. cond (test u) 1 0) t ss

    go : (count_by test ss ≡ 0 → (j : ℕ) → slice_get ss j ≡ Some s → test s ≡ false) → (b : Bool) → test t ≡ b
        → (i : ℕ) → slice_get (t ∷ ss) i ≡ Some s → test s ≡ false
    go rest true is i at = let one : ◌≡◌ {A = ℕ} (cond (test t) 1 0) 1 = ap (λ b. cond b 1 0) is in
        absurd (omega (arith, count, one, z))
    go rest false is zero at = let same : t ≡ s = cc in sym (ap test same) ∙ is
    go rest false is (suc i) at = rest (omega (arith, count, z)) i at

some-counted : (test : Standing → Bool) (ss : List Standing) → (count_by test ss ≡ 0 → ⊥)
    → (i : ℕ) × (s : Standing) × (slice_get ss i ≡ Some s) × (test s ≡ true)
some-counted test [] n = absurd (n refl)
some-counted test (t ∷ ss) n = go (λ m. some-counted test ss m) (test t) refl
  where
    go : ((count_by test ss ≡ 0 → ⊥) → (i : ℕ) × (s : Standing) × (slice_get ss i ≡ Some s) × (test s ≡ true))
        → (b : Bool) → test t ≡ b
        → (i : ℕ) × (s : Standing) × (slice_get (t ∷ ss) i ≡ Some s) × (test s ≡ true)
    go rest true is = (0, t, refl, is)
    go rest false is =
        let none : ◌≡◌ {A = ℕ} (cond (test t) 1 0) 0 = ap (λ b. cond b 1 0) is in
        let r = rest (λ z. n (sum_by-cons (λ u. cond (test u) 1 0) t ss ∙ omega (arith, none, z))) in
        (suc r.0, r.1, r.2, r.3)

-- what is so and not lacking of another is so of it too
both_so : (l m : Bool) → (l && not m) ≡ false → l ≡ true → m ≡ true
both_so true true e q = refl
both_so true false e q = absurd cc
both_so false m e q = absurd cc

one_so : (l m : Bool) → (l && not m) ≡ true → (l ≡ true) × (m ≡ true → ⊥)
one_so true true e = absurd cc
one_so true false e = (refl, (λ q. let bad : false ≡ true = q in cc))
one_so false m e = absurd cc

-- where no more is known than what the test found, it is 0
zero_of : (n : ℕ) → ((n ≡ 0 → ⊥) → ⊥) → n ≡ 0
zero_of zero n = refl
zero_of (suc i) n = absurd (n (λ e. cc))

module _ (elements : Elements) (numbers : AreNumbered elements) (standings : Standings)
    (fits : Fits elements standings) (w : List NameBytes) (MayLeaveOut : Type 0) where
  pub shows_live : ShowJust elements standings.list.items w → HasWhatItMust MayLeaveOut standings
      → ShowsLive MayLeaveOut elements standings.list.items w
  shows_live just must = (just.once, λ a. (to a, from a))
    where
      to : (a : NameBytes) → In a w → IsShown elements standings.list.items a
      to a i =
          let k = just.known a i in
          let l = numbers.listed a k.0 k.1 in
          let within = slice_get_within elements.list.items k.0 l.0 l.1 in
          let y = slice_get-there standings.list.items k.0 (omega (arith, within, fits.size)) in
          let told = (just.shown k.0 l.0 y.0 l.1 y.1).1 (subst (λ (z : NameBytes). In z w) (sym l.2) i) in
          let even = none-counted is_extra standings.list.items (sym fits.extra ∙ must.0) k.0 y.0 y.1 in
          record {
            number = k.0;
            standing = y.0;
            numbered = k.1;
            stands = y.1;
            live = both_so y.0.shown (is_live y.0) even told;
          }

      from : (a : NameBytes) → (MayLeaveOut → ⊥) → IsShown elements standings.list.items a → In a w
      from a whole s =
          let l = numbers.listed a s.number s.numbered in
          let even =
          none-counted is_missing standings.list.items (sym fits.missing ∙ must.1 whole) s.number
          s.standing s.stands in
          subst (λ (z : NameBytes). In z w) l.2 ((just.shown s.number l.0 s.standing l.1 s.stands).0
          (both_so (is_live s.standing) s.standing.shown even s.live))

  pub has_what_it_must : ShowJust elements standings.list.items w
      → ShowsLive MayLeaveOut elements standings.list.items w → HasWhatItMust MayLeaveOut standings
  has_what_it_must just shows =
      (zero_of standings.extra none_extra, λ whole. zero_of standings.missing (none_missing whole))
    where
      element_at : (i : ℕ) (s : Standing) → slice_get standings.list.items i ≡ Some s
          → (x : Element) × (slice_get elements.list.items i ≡ Some x)
      element_at i s at = let within = slice_get_within standings.list.items i s at in
          slice_get-there elements.list.items i (omega (arith, within, fits.size))

      none_extra : (standings.extra ≡ 0 → ⊥) → ⊥
      none_extra some =
          let at = some-counted is_extra standings.list.items (λ z. some (fits.extra ∙ z)) in
          let x = element_at at.0 at.1 at.2 in
          let is = one_so at.1.shown (is_live at.1) at.3 in
          let s = (shows.1 x.0.name).0 ((just.shown at.0 x.0 at.1 x.1 at.2).0 is.0) in
          let place : s.number ≡ at.0 =
          same_Some s.number at.0 (sym s.numbered ∙ numbers.numbered at.0 x.0 x.1) in
          let both : Some s.standing ≡ Some at.1 =
          sym s.stands ∙ ap (slice_get standings.list.items) place ∙ at.2 in
          let same : s.standing ≡ at.1 = cc in
          is.1 (sym (ap is_live same) ∙ s.live)

      none_missing : (MayLeaveOut → ⊥) → (standings.missing ≡ 0 → ⊥) → ⊥
      none_missing whole some =
          let at = some-counted is_missing standings.list.items (λ z. some (fits.missing ∙ z)) in
          let x = element_at at.0 at.1 at.2 in
          let is = one_so (is_live at.1) at.1.shown at.3 in
          let s : IsShown elements standings.list.items x.0.name =
          record {
            number = at.0;
            standing = at.1;
            numbered = numbers.numbered at.0 x.0 x.1;
            stands = at.2;
            live = is.0;
          } in
          is.1 ((just.shown at.0 x.0 at.1 x.1 at.2).1 ((shows.1 x.0.name).1 whole s))

  pub shows_known : ShowsLive MayLeaveOut elements standings.list.items w → AreOfElements elements w
  shows_known shows = (shows.0, λ a i. let s = (shows.1 a).0 i in (s.number, s.numbered))

-- the number of a name is that of an element
pub number_within : (elements : Elements) → AreNumbered elements → (a : NameBytes) (i : ℕ)
    → number_of elements a ≡ Some i → i < length elements.list.items
number_within elements numbers a i e = let x = numbers.listed a i e in
    slice_get_within elements.list.items i x.0 x.1

pub drop_here : (w : List NameBytes) (i : ℕ) (a : NameBytes) → slice_get w i ≡ Some a
    → drop i w ≡ a ∷ drop (i + 1) w
drop_here w i a e = let next : suc i ≡ i + 1 = omega arith in go w i e ∙ ap (λ n. a ∷ drop n w) next
  where
    go : (w : List NameBytes) (i : ℕ) → slice_get w i ≡ Some a → drop i w ≡ a ∷ drop (suc i) w
    go [] i e = absurd cc
    go (b ∷ w) zero e = let same : b ≡ a = cc in ap (λ z. z ∷ w) same
    go (b ∷ w) (suc i) e = go w i e

pub in_drop : (front w : List NameBytes) (i : ℕ) (a : NameBytes) → slice_get w i ≡ Some a
    → In a (front ++ drop i w)
in_drop front w i a e =
    In-append_right a front (drop i w)
    (subst (λ (l : List NameBytes). In a l) (sym (drop_here w i a e)) (inl refl))

-- the names up to a place and the one there
pub joined_next : (w : List NameBytes) (i : ℕ) (last : List NameBytes) (j : ℕ) (a : NameBytes)
    → slice_get w i ≡ Some a → joined w (i + 1) last j ≡ take i w ++ a ∷ drop j last
joined_next w i last j a e =
    ap (λ l. l ++ drop j last) (take_next w i a e) ∙ append_assoc (take i w) (a ∷ []) (drop j last)

-- what is not noted is not there, what is noted is
pub not_shown : (elements : Elements) → AreNumbered elements → (list : List Standing) (w : List NameBytes)
    → ShowJust elements list w → (a : NameBytes) (i : ℕ) (s : Standing) → number_of elements a ≡ Some i
    → slice_get list i ≡ Some s → s.shown ≡ false → In a w → ⊥
not_shown elements numbers list w just a i s numbered at hidden there =
    let x = numbers.listed a i numbered in
    false≢true (sym hidden
    ∙ (just.shown i x.0 s x.1 at).1 (subst (λ (z : NameBytes). In z w) (sym x.2) there))

pub is_shown : (elements : Elements) → AreNumbered elements → (list : List Standing) (w : List NameBytes)
    → ShowJust elements list w → (a : NameBytes) (i : ℕ) (s : Standing) → number_of elements a ≡ Some i
    → slice_get list i ≡ Some s → s.shown ≡ true → In a w
is_shown elements numbers list w just a i s numbered at shown =
    let x = numbers.listed a i numbered in
    subst (λ (z : NameBytes). In z w) x.2 ((just.shown i x.0 s x.1 at).0 shown)

-- where nothing is left of the other, what is noted stood before
pub stands_twice : (w : List NameBytes) (i : ℕ) (last : List NameBytes) (j : ℕ) (a : NameBytes)
    → slice_get w i ≡ Some a → length last ≤ j → In a (joined w i last j) → Once w → ⊥
stands_twice w i last j a at over there once =
    twice w i a at (elim (In-append_cases a (take i w) (drop j last) there) [
      | inl l ↦ l
      | inr r ↦ absurd (subst (λ (l : List NameBytes). In a l) (drop_all j last over) r)
    ]) once

-- as far as both go on alike nothing changes
pub joined_run : (w : List NameBytes) (i : ℕ) (last : List NameBytes) (j n : ℕ)
    → take n (drop i w) ≡ take n (drop j last) → joined w (i + n) last (j + n) ≡ joined w i last j
joined_run w i last j n e =
    ap (λ l. l ++ drop (j + n) last) (take-add i n w ∙ ap (λ l. take i w ++ l) e)
    ∙ append_assoc (take i w) (take n (drop j last)) (drop (j + n) last)
    ∙ ap (λ l. take i w ++ l) (ap (λ l. take n (drop j last) ++ l) (sym (drop-drop n j last))
    ∙ take-append-drop n (drop j last))

-- all of the one
pub joined_all : (w : List NameBytes) (i : ℕ) → length w ≤ i → take i w ≡ w
joined_all w i le = take_all i w le

-- notes behind notes
pub notes-on : {elements : Elements} {old between new : Standings} → OnlyNotes elements old between
    → OnlyNotes elements between new → OnlyNotes elements old new
notes-on first later = record {
  fits = later.fits;
  counts = later.counts ∙ first.counts;
  behind = λ h was. later.behind h (first.behind h was);
}
