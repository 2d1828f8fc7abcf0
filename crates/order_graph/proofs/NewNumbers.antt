-- The new numbers of elements where some are kept: one kept element more gets the next number, and no other's
-- changes.
use Rattle.std.proofs.Common.{◌≡◌, ◌≢◌, ℕ, ◌<◌, inl, inr, Bool, cond, Option, Some, None, List, [], ◌∷◌, ◌++◌}
use Rattle.std.proofs.Common.{length, take, drop, get_or, set, map, replicate, refl, sym, ◌∙◌, ap, subst}
use Rattle.std.proofs.Common.{arith, get_or-set_same, get_or-set_other}
use Rattle.std.specs.Prelude.{AllPairs, bytes_eq}
use Rattle.std.specs.Cmp.Lexicographic.{bytes_decides}
use Rattle.std.proofs.lemmas.Bool.{cases_lt, false_from_ne_true}
use Rattle.std.proofs.lemmas.Bool.Decides.{eqb_tells}
use Rattle.std.proofs.lemmas.List.{get_or-map, get_or-replicate, length-map, length-replicate, length-set}
use Rattle.std.proofs.lemmas.List.{map-append, ext_get_or, take-append-drop}
use Rattle.events.specs.Names.{NameBytes}
use Rattle.specification.specs.Elements.{number_in}
use Rattle.specification.proofs.Members.{Once}
use Rattle.element_numbers.proofs.NameNumbers.{Once-front, number-push}
use Rattle.order_graph.specs.Kept.{names_at}

-- what a copy of no number can be
pub only-none : (C : Option ℕ → Type 0) → ((n : ℕ) → C (Some n) → ⊥) → (y : Option ℕ) → C y → y ≡ None
only-none C never None copy = refl
only-none C never (Some n) copy = absurd (never n copy)

module _ (names : List NameBytes) where
  abbrev name : ℕ → NameBytes
  name x = get_or names x []

  -- each element has its new number
  pub record AreNew (kept : List ℕ) (anew : List (Option ℕ)) : Type 0 where
    pub count : length anew ≡ length names
    pub each : (x : ℕ) → x < length names → get_or anew x None ≡ number_in (names_at names kept) (name x)

  pub none-kept : AreNew [] (replicate (length names) None)
  none-kept =
      record {
        count = length-replicate (length names) None;
        each = λ x lt. get_or-replicate (length names) x None None lt;
      }

  pub all-new : (kept : List ℕ) (anew : List (Option ℕ)) → AreNew kept anew
      → anew ≡ map (number_in (names_at names kept)) names
  all-new kept anew new =
      let number = number_in (names_at names kept) in
      ext_get_or None anew (map number names) (new.count ∙ sym (length-map names number))
      (λ x lt. let low : x < length names = omega (arith, lt, new.count) in
      new.each x low ∙ sym (get_or-map number names x [] None low))

  -- names at two places differ
  differ : AllPairs (λ a b. a ≢ b) names → (x y : ℕ) → x < length names → y < length names → x ≢ y
      → name x ≢ name y
  differ distinct x y low high other same = elim (cases_lt x y) [
    | inl lt ↦ distinct x y [] lt high same
    | inr le ↦ distinct y x [] (omega (arith, le, other)) low (sym same)
  ]

  pub one-more : (kept : List ℕ) (x : ℕ) (anew : List (Option ℕ)) → AllPairs (λ a b. a ≢ b) names
      → Once (names_at names (kept ++ x ∷ [])) → x < length names
      → AreNew kept anew → AreNew (kept ++ x ∷ []) (set anew x (Some (length kept)))
  one-more kept x anew distinct once low new =
      record { count = length-set anew x (Some (length kept)) ∙ new.count; each = each }
    where
      among : List NameBytes
      among = names_at names kept

      longer : names_at names (kept ++ x ∷ []) ≡ among ++ name x ∷ []
      longer = map-append (λ y. get_or names y []) kept (x ∷ [])

      pushed : (a : NameBytes) → number_in (names_at names (kept ++ x ∷ [])) a
          ≡ cond (bytes_eq (name x) a) (Some (length kept)) (number_in among a)
      pushed a =
          ap (λ l. number_in l a) longer ∙ number-push among (name x) a (subst Once longer once)
          ∙ ap (λ n. cond (bytes_eq (name x) a) (Some n) (number_in among a))
          (length-map kept (λ y. get_or names y []))

      each : (y : ℕ) → y < length names → get_or (set anew x (Some (length kept))) y None
          ≡ number_in (names_at names (kept ++ x ∷ [])) (name y)
      each y high = elim (eqb_tells x y) [
        | inl h ↦
            ap (λ i. get_or (set anew x (Some (length kept))) i None) (sym h.1)
            ∙ get_or-set_same anew x (Some (length kept)) None (omega (arith, low, new.count))
            ∙ sym (pushed (name y) ∙ ap (λ (b : Bool). cond b (Some (length kept)) (number_in among (name y)))
            ((bytes_decides (name x) (name y)).1 (ap name h.1)))
        | inr h ↦
            get_or-set_other anew x y (Some (length kept)) None (λ e. h.1 (sym e)) ∙ new.each y high
            ∙ sym (pushed (name y) ∙ ap (λ (b : Bool). cond b (Some (length kept)) (number_in among (name y)))
            (false_from_ne_true (bytes_eq (name x) (name y))
            (λ t. differ distinct x y low high h.1 ((bytes_decides (name x) (name y)).0 t))))
      ]

  -- the names of the first kept elements repeat nothing where those of all don't
  pub once-first : (kept : List ℕ) (n : ℕ) → Once (names_at names kept) → Once (names_at names (take n kept))
  once-first kept n once =
      let split : names_at names (take n kept) ++ names_at names (drop n kept) ≡ names_at names kept =
      sym (map-append name (take n kept) (drop n kept)) ∙ ap (names_at names) (take-append-drop n kept) in
      Once-front (names_at names (take n kept)) (names_at names (drop n kept)) (subst Once (sym split) once)
