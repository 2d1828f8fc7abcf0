-- An order of elements that each list follows: each cycle leads through an element that it leaves out.
use Rattle.std.proofs.Common.{◌≡◌, ℕ, zero, suc, ◌+◌, ◌-◌, ◌<◌, ◌⊎◌, inl, inr, List, [], ◌∷◌, ◌++◌}
use Rattle.std.proofs.Common.{length}
use Rattle.std.proofs.Common.{get_or, set, get_or-set_same, get_or-set_other, slice_index}
use Rattle.std.proofs.Common.{refl, sym, ◌∙◌, subst, arith}
use Rattle.std.specs.Prelude.{Contains}
use Rattle.std.proofs.lemmas.Bool.{cases_lt, cases_eq}
use Rattle.std.proofs.lemmas.List.Elements.{Contains-append_left, Contains-append_right}
use Rattle.specification.proofs.Members.{Contains-from_In}
use Rattle.list_search.specs.Graph.{Before}
use Rattle.list_search.specs.Walks.{HasCycle}
use Rattle.list_search.specs.Rings.{IsRing, Leads, Reaches}
use Rattle.level_search.specs.Sources.{UNRANKED, AreFewerRanks, IsRanked, Rises}
use Rattle.level_search.specs.Rounds.{IsRoundOf}
use Rattle.list_search.proofs.Firsts.{leads_reaches}
use Rattle.list_search.proofs.RingWalks.{ring_through, cycle_ring, leads_cut}

-- what has a rank still had one before
pub fewer-ranked : (old new : List ℕ) → AreFewerRanks old new → (x : ℕ) → IsRanked new x → IsRanked old x
fewer-ranked old new fewer x ranked e = ranked (fewer x ranked ∙ e)

pub fewer-then : (old mid new : List ℕ) → AreFewerRanks old mid → AreFewerRanks mid new → AreFewerRanks old new
fewer-then old mid new first second x ranked = second x ranked ∙ first x (fewer-ranked mid new second x ranked)

pub fewer-none : (ranks : List ℕ) → AreFewerRanks ranks ranks
fewer-none ranks x ranked = refl

-- the rank of one element is taken away
pub unranked-one : (ranks : List ℕ) (x : ℕ) → x < length ranks
    → slice_index (set ranks x UNRANKED) x ≡ UNRANKED
unranked-one ranks x low = get_or-set_same ranks x UNRANKED 0 low

pub fewer-one : (ranks : List ℕ) (x : ℕ) → x < length ranks → AreFewerRanks ranks (set ranks x UNRANKED)
fewer-one ranks x low a ranked = elim (cases_eq a x) [
  | inl e ↦ absurd (ranked (subst (λ i. slice_index (set ranks x UNRANKED) i ≡ UNRANKED) (sym e)
      (unranked-one ranks x low)))
  | inr apart ↦ get_or-set_other ranks x a UNRANKED 0 apart
]

-- fewer ranks rise along the same lists
pub fewer-rise : (rows : List (List ℕ)) (old new : List ℕ) (l : ℕ) → AreFewerRanks old new
    → Rises rows old l → Rises rows new l
fewer-rise rows old new l fewer rise = record {
  rises = λ p q x y lt first second ranked later.
      let was = rise.rises p q x y lt first second (fewer-ranked old new fewer x ranked)
      (fewer-ranked old new fewer y later) in
      omega (arith, fewer x ranked, fewer y later);
}

-- a cycle goes round through each of its elements
pub round_at : (rows : List (List ℕ)) (s n : ℕ) (rest : List ℕ) (j : ℕ) → IsRing rows (s ∷ rest)
    → suc (length rest) ≡ n → j < length (s ∷ rest)
    → IsRoundOf rows (get_or (s ∷ rest) j 0) n s
round_at rows s n rest zero ring count inside =
    (0, n, omega arith, refl, subst (λ k. Reaches rows s k s) count (leads_reaches rows s rest s ring))
round_at rows s n rest (suc j) ring count inside =
    let cut = leads_cut rows s rest s j ring (omega arith) in
    (length rest - j, suc j, omega arith, cut.on, cut.to)

module _ (rows : List (List ℕ)) (ranks : List ℕ) (rise : (l : ℕ) → Rises rows ranks l) where
  before-rises : (a b : ℕ) → Before rows a b → IsRanked ranks a → IsRanked ranks b
      → slice_index ranks a < slice_index ranks b
  before-rises a b before first second =
      (rise before.list).rises before.place before.later a b before.in_order before.first before.second first
      second

  -- an element of the list that is left out; or each is in the order, and the last has a higher rank than the
  -- first
  abbrev LeavesOut : List ℕ → Type 0
  LeavesOut path = (j : ℕ) × (j < length path) × (slice_index ranks (get_or path j 0) ≡ UNRANKED)

  leads-rise : (a : ℕ) (path : List ℕ) (z : ℕ) → Leads rows a path z → IsRanked ranks a → IsRanked ranks z
      → LeavesOut path ⊎ (slice_index ranks a < slice_index ranks z)
  leads-rise a [] z leads first last = inr (before-rises a z leads first last)
  leads-rise a (b ∷ path) z leads first last = elim (cases_eq (slice_index ranks b) UNRANKED) [
    | inl out ↦ inl (0, omega arith, out)
    | inr ranked ↦ elim (leads-rise b path z leads.1 ranked last) [
      | inl found ↦ inl (suc found.0, (let within = found.1 in omega arith), found.2)
      | inr lt ↦ let step = before-rises a b leads.0 first ranked in inr (omega arith)
    ]
  ]

  ring-leaves_out : (ring : List ℕ) → IsRing rows ring → LeavesOut ring
  ring-leaves_out [] is = absurd is
  ring-leaves_out (a ∷ path) is = elim (cases_eq (slice_index ranks a) UNRANKED) [
    | inl out ↦ (0, omega arith, out)
    | inr ranked ↦ elim (leads-rise a path a is ranked ranked) [
      | inl found ↦ (suc found.0, (let within = found.1 in omega arith), found.2)
      | inr lt ↦ absurd (omega arith)
    ]
  ]

  -- a cycle leads through an element that is left out
  pub cycle-leaves_out : (s n : ℕ) → HasCycle rows s n → (t : ℕ) × (slice_index ranks t ≡ UNRANKED)
      × HasCycle rows t n × IsRoundOf rows t n s
  cycle-leaves_out s n cycle =
      let ring = cycle_ring rows s n cycle in
      let found : LeavesOut (s ∷ ring.rest) = ring-leaves_out (s ∷ ring.rest) ring.is_ring in (
        get_or (s ∷ ring.rest) found.0 0,
        found.2,
        subst (λ k. HasCycle rows (get_or (s ∷ ring.rest) found.0 0) k) ring.count
            (ring_through rows (s ∷ ring.rest) found.0 ring.is_ring found.1),
        round_at rows s n ring.rest found.0 ring.is_ring ring.count found.1,
      )

-- a list of all numbers below n that P holds of, with n where P holds of it
pub listed-next : (xs : List ℕ) (n y : ℕ) → (y < n → Contains xs y) → y < n + 1 → Contains (xs ++ n ∷ []) y
listed-next xs n y all under = elim (cases_lt y n) [
  | inl lt ↦ Contains-append_left xs (n ∷ []) y (all lt)
  | inr over ↦ let e : y ≡ n =
      omega arith in Contains-append_right xs (n ∷ []) y (Contains-from_In (n ∷ []) y (inl e))
]
