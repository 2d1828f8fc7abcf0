-- What is entered, one part after another.
use Rattle.std.proofs.Common.{◌≡◌, ◌≢◌, ℕ, ◌+◌, ◌<◌, ◌≤◌, inl, inr, Bool, true, false, List, [], ◌∷◌}
use Rattle.std.proofs.Common.{◌++◌, length, get_or, set, refl, sym, ap, subst, ◌∙◌, arith, eqb}
use Rattle.std.proofs.Common.{get_or-set_same, get_or-set_other}
use Rattle.std.specs.Prelude.{AllPairs, Contains}
use Rattle.std.specs.List.Sorted.{IsNonDecreasing, IsPermutation, IsStrictlyIncreasing}
use Rattle.std.proofs.lemmas.Bool.{cases_eq, cases_lt}
use Rattle.std.proofs.lemmas.Bool.Decides.{Decides-eqb}
use Rattle.std.proofs.lemmas.List.{get_or_append_left, length-append}
use Rattle.std.proofs.lemmas.List.Elements.{Contains-append_left, Contains-get_or, Contains-push}
use Rattle.std.proofs.lemmas.List.Elements.{Contains-push_cases}
use Rattle.std.proofs.lemmas.Map.Keys.{IsDistinct-IsPermutation, IsStrictlyIncreasing-from_distinct}
use Rattle.std.proofs.lemmas.Map.Made.{IsDistinct-from_AllPairs}
use Rattle.std.proofs.Math.Seq.{get_or-append_seam}
use Rattle.list_layers.specs.declared.state.State.{State}
use Rattle.list_layers.specs.Progress.{AreEntered, Goes, Grows, IsSeen}

pub grows_none : (P : ℕ → Type 0) (first : ℕ) (seen : List Bool) (next : List ℕ)
    → Grows P first seen next seen next
grows_none P first seen next = record {
  stays = λ x was. was;
  kept = λ x c. c;
  fresh = λ x c. inl c;
  only = λ x now. inl now;
  entered = λ all. all;
}

pub grows_weaker : (P Q : ℕ → Type 0) (first : ℕ) (seen more : List Bool) (next longer : List ℕ)
    → ((x : ℕ) → P x → Q x) → Grows P first seen next more longer → Grows Q first seen next more longer
grows_weaker P Q first seen more next longer to grows = record {
  stays = grows.stays;
  kept = grows.kept;
  fresh = λ x c. elim (grows.fresh x c) [
    | inl old ↦ inl old
    | inr new ↦ inr (record { counts = new.counts; unseen = new.unseen; meets = to x new.meets })
  ];
  only = grows.only;
  entered = grows.entered;
}

pub grows_both : (P : ℕ → Type 0) (first : ℕ) (seen more most : List Bool) (next longer longest : List ℕ)
    → Grows P first seen next more longer → Grows P first more longer most longest
    → Grows P first seen next most longest
grows_both P first seen more most next longer longest one two = record {
  stays = λ x was. two.stays x (one.stays x was);
  kept = λ x c. two.kept x (one.kept x c);
  fresh = λ x c. elim (two.fresh x c) [
    | inl old ↦ one.fresh x old
    | inr new ↦
        inr (record { counts = new.counts; unseen = λ was. new.unseen (one.stays x was); meets = new.meets })
  ];
  only = λ x now. elim (two.only x now) [
    | inl old ↦ elim (one.only x old) [ inl was ↦ inl was | inr c ↦ inr (two.kept x c) ]
    | inr c ↦ inr c
  ];
  entered = λ all. two.entered (one.entered all);
}

-- one number more, which is none of them
pairs_more : (xs : List ℕ) (y : ℕ) → AllPairs (λ a b. a ≢ b) xs → ¬ Contains xs y
    → AllPairs (λ a b. a ≢ b) (xs ++ y ∷ [])
pairs_more xs y pairs none i j d lt within e =
    let size : length (xs ++ y ∷ []) ≡ length xs + 1 = length-append xs (y ∷ []) in
    let low : i < length xs = omega (arith, lt, within, size) in
    let one : get_or (xs ++ y ∷ []) i d ≡ get_or xs i d = get_or_append_left xs (y ∷ []) d i low in
    elim (cases_lt j (length xs)) [
      | inl high ↦
          pairs i j d lt high (sym one ∙ e ∙ get_or_append_left xs (y ∷ []) d j high)
      | inr past ↦
          let last : j ≡ length xs = omega (arith, within, size, past) in
          let other : get_or (xs ++ y ∷ []) j d ≡ y =
          ap (λ k. get_or (xs ++ y ∷ []) k d) last ∙ get_or-append_seam xs y [] d in
          none (subst (λ z. Contains xs z) (sym one ∙ e ∙ other) (Contains-get_or xs i d low))
    ]

-- one number is entered
pub entered_one : (first y : ℕ) (seen : List Bool) (next : List ℕ) → y < length seen → first ≤ y
    → get_or seen y false ≡ false → Grows (λ x. x ≡ y) first seen next (set seen y true) (next ++ y ∷ [])
entered_one first y seen next within counts unseen =
    let here : IsSeen (set seen y true) y = get_or-set_same seen y true false within in
    let stays : (x : ℕ) → IsSeen seen x → IsSeen (set seen y true) x = λ x was. elim (cases_eq x y) [
      | inl e ↦ subst (λ z. IsSeen (set seen y true) z) (sym e) here
      | inr other ↦ get_or-set_other seen y x true false other ∙ was
    ] in
    let not : ¬ IsSeen seen y = λ was. (let e : true ≡ false = sym was ∙ unseen in cc) in
    record {
      stays = stays;
      kept = λ x c. Contains-append_left next (y ∷ []) x c;
      fresh = λ x c. elim (Contains-push_cases next y x c) [
        | inl old ↦ inl old
        | inr e ↦ inr (record {
          counts = subst (λ z. first ≤ z) e counts;
          unseen = subst (λ z. ¬ IsSeen seen z) e not;
          meets = sym e;
        })
      ];
      only = λ x now. elim (cases_eq x y) [
        | inl e ↦ inr (subst (λ z. Contains (next ++ y ∷ []) z) (sym e) (Contains-push next y))
        | inr other ↦ inl (sym (get_or-set_other seen y x true false other) ∙ now)
      ];
      entered = λ all. record {
        are_seen = λ x c. elim (Contains-push_cases next y x c) [
          | inl old ↦ stays x (all.are_seen x old)
          | inr e ↦ subst (λ z. IsSeen (set seen y true) z) e here
        ];
        apart = pairs_more next y all.apart (λ c. not (all.are_seen y c));
      };
    }

-- none is entered at first
pub entered_none : (seen : List Bool) → AreEntered seen []
entered_none seen = record {
  are_seen = λ x c. absurd (let lt = c.1 in omega (arith, lt));
  apart = λ i j d lt within. absurd (omega (arith, within));
}

-- numbers that differ rise once they are sorted
eqb-flips : (x y : ℕ) → eqb x y ≡ eqb y x
eqb-flips x y = grind arith

pub sorted_rise : (xs ys : List ℕ) → AllPairs (λ a b. a ≢ b) xs → IsPermutation xs ys → IsNonDecreasing ys
    → IsStrictlyIncreasing ys
sorted_rise xs ys apart moved ordered =
    IsStrictlyIncreasing-from_distinct ys ordered
    (IsDistinct-IsPermutation eqb eqb-flips xs ys moved (IsDistinct-from_AllPairs Decides-eqb xs apart))

-- marks beside it
pub goes_none : (first : ℕ) (P T : ℕ → Type 0) (a : State) (next : List ℕ) → Goes first P T a next a next
goes_none first P T a next = record {
  grows = grows_none P first a.seen.items next;
  falls = λ l. omega arith;
  touched = λ l. inl refl;
}

pub goes_weaker : (first : ℕ) (P Q T U : ℕ → Type 0) (a b : State) (next longer : List ℕ)
    → ((x : ℕ) → P x → Q x) → ((l : ℕ) → T l → U l) → Goes first P T a next b longer
    → Goes first Q U a next b longer
goes_weaker first P Q T U a b next longer to on goes = record {
  grows = grows_weaker P Q first a.seen.items b.seen.items next longer to goes.grows;
  falls = goes.falls;
  touched = λ l. elim (goes.touched l) [ inl same ↦ inl same | inr now ↦ inr (on l now) ];
}

pub goes_both : (first : ℕ) (P T : ℕ → Type 0) (a b c : State) (next longer longest : List ℕ)
    → Goes first P T a next b longer → Goes first P T b longer c longest → Goes first P T a next c longest
goes_both first P T a b c next longer longest one two = record {
  grows =
      grows_both P first a.seen.items b.seen.items c.seen.items next longer longest one.grows two.grows;
  falls = λ l. (let h = one.falls l in let k = two.falls l in omega arith);
  touched = λ l. elim (two.touched l) [
    | inl same ↦ elim (one.touched l) [ inl was ↦ inl (same ∙ was) | inr now ↦ inr now ]
    | inr now ↦ inr now
  ];
}
