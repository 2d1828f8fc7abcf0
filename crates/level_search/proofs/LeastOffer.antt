-- A run of the bound in which each source was searched far enough ends with the shortest length, or with no
-- offer and no cycle: the last least number is at most every bound that was seen, and a shortest cycle
-- repeats no element, so it is shorter than the number before any offer.
use Rattle.std.proofs.Common.{◌≡◌, ℕ, ◌<◌, ◌≤◌, ◌⊎◌, inl, inr, List, [], ◌∷◌, map, length, refl, arith}
use Rattle.std.specs.Prelude.{min, slice_index}
use Rattle.std.proofs.lemmas.Bool.{cases_lt}
use Rattle.events.specs.Names.{NameBytes}
use Rattle.specification.specs.Responses.{Responses, AreProper}
use Rattle.specification.specs.Conflict.{IsCycle}
use Rattle.specification.specs.Search.{NoneShorterThrough, IsCycleLength, IsShortestLength, HasNoCycle}
use Rattle.shared_bound.specs.Bound.{BoundState, BoundCall, claim, look, offer, fresh, bound_after}
use Rattle.shared_bound.specs.Bound.{bound_after_all, bound_states, offers}
use Rattle.shared_bound.specs.declared.TheConstants.{NO_OFFER}
use Rattle.level_search.proofs.ShortestFew.{shortest-few}
use Rattle.level_search.specs.BoundLaw.{WasBound, CoversAllSources, LeastOfferIsShortest}
use Rattle.specification.proofs.Members.{In, In-from_Contains, All-member}
use Rattle.specification.proofs.ConflictNumber.{conflict_number_is_shortest_cycle}

-- the least number falls
falls : (n : ℕ) (s : BoundState) (calls : List BoundCall) → (bound_after_all n s calls).least ≤ s.least
falls n s [] = omega arith
falls n s (claim ∷ calls) = falls n (bound_after n s claim) calls
falls n s (look ∷ calls) = falls n s calls
falls n s (offer x ∷ calls) =
    let le : (bound_after_all n (bound_after n s (offer x)) calls).least ≤ min s.least x =
    falls n (bound_after n s (offer x)) calls in omega arith

below_states : (n : ℕ) (s : BoundState) (calls : List BoundCall) (b : ℕ)
    → In b (map (λ (s : BoundState). s.least) (bound_states n s calls))
    → (bound_after_all n s calls).least ≤ b
below_states n s [] b (inl e) = omega arith
below_states n s [] b (inr i) = absurd i
below_states n s (c ∷ calls) b (inl e) = let le : (bound_after_all n s (c ∷ calls)).least ≤ s.least =
    falls n s (c ∷ calls) in omega arith
below_states n s (c ∷ calls) b (inr i) = below_states n (bound_after n s c) calls b i

below_offers : (n : ℕ) (s : BoundState) (calls : List BoundCall) (b : ℕ) → In b (offers calls)
    → (bound_after_all n s calls).least ≤ b
below_offers n s [] b i = absurd i
below_offers n s (claim ∷ calls) b i = below_offers n (bound_after n s claim) calls b i
below_offers n s (look ∷ calls) b i = below_offers n s calls b i
below_offers n s (offer x ∷ calls) b (inl e) =
    let le : (bound_after_all n (bound_after n s (offer x)) calls).least ≤ min s.least x =
    falls n (bound_after n s (offer x)) calls in omega arith
below_offers n s (offer x ∷ calls) b (inr i) = below_offers n (bound_after n s (offer x)) calls b i

-- the least number was there or was offered
came_from : (n : ℕ) (s : BoundState) (calls : List BoundCall)
    → ((bound_after_all n s calls).least ≡ s.least) ⊎ In (bound_after_all n s calls).least (offers calls)
came_from n s [] = inl refl
came_from n s (claim ∷ calls) = came_from n (bound_after n s claim) calls
came_from n s (look ∷ calls) = came_from n s calls
came_from n s (offer x ∷ calls) = go (came_from n (bound_after n s (offer x)) calls) (cases_lt s.least x)
  where
    go : ((bound_after_all n (bound_after n s (offer x)) calls).least ≡ min s.least x)
        ⊎ In (bound_after_all n (bound_after n s (offer x)) calls).least (offers calls)
        → (s.least < x) ⊎ (x ≤ s.least) →
        ((bound_after_all n (bound_after n s (offer x)) calls).least ≡ s.least)
        ⊎ In (bound_after_all n (bound_after n s (offer x)) calls).least (x ∷ offers calls)
    go (inl e) (inl lt) = inl (omega arith)
    go (inl e) (inr le) = inr (inl (omega arith))
    go (inr i) c = inr (inr i)

module _ (v : Responses) (sources : List ℕ) (calls : List BoundCall) (proper : AreProper v)
    (covers : CoversAllSources v sources calls) where
  abbrev last : ℕ
  last = (bound_after_all (length sources) fresh calls).least

  last-le : (b : ℕ) → WasBound (length sources) calls b → last ≤ b
  last-le b (inl c) =
      below_states (length sources) fresh calls b
      (In-from_Contains (map (λ (s : BoundState). s.least) (bound_states (length sources) fresh calls)) b c)
  last-le b (inr (inl c)) = below_offers (length sources) fresh calls b (In-from_Contains (offers calls) b c)
  last-le b (inr (inr le)) = le

  none_shorter : (c : List NameBytes) → IsCycle v c → last ≤ length c
  none_shorter c is =
      let met = covers.met c is in
      let s : (b : ℕ) × WasBound (length sources) calls b
      × NoneShorterThrough v (slice_index sources met.0) b = covers.searched met.0 met.1 in
      let le : s.0 ≤ length met.2.other = s.2 met.2.other met.2.through in
      let low : last ≤ s.0 = last-le s.0 s.1 in
      omega (arith, met.2.long)

  offered : In last (offers calls) → IsCycleLength v last
  offered i = All-member (IsCycleLength v) (offers calls) last covers.offered i

  least_offer : IsShortestLength v last ⊎ ((last ≡ NO_OFFER) × HasNoCycle v)
  least_offer = go (came_from (length sources) fresh calls) ((conflict_number_is_shortest_cycle v proper).2)
    where
      go : (last ≡ NO_OFFER) ⊎ In last (offers calls) → HasNoCycle v ⊎ ((k : ℕ) × IsShortestLength v k)
          → IsShortestLength v last ⊎ ((last ≡ NO_OFFER) × HasNoCycle v)
      go (inr i) c = inl (offered i, none_shorter)
      go (inl e) (inl none) = inr (e, none)
      go (inl e) (inr s) =
          let few : s.0 ≤ length v.elements = shortest-few v proper s.0 s.1 in
          let low : last ≤ length s.1.0.0 = none_shorter s.1.0.0 s.1.0.1 in
          absurd (omega (arith, few, low, e, s.1.0.2, proper.few))

pub least_offer_is_shortest : LeastOfferIsShortest
least_offer_is_shortest v sources calls proper covers = least_offer v sources calls proper covers
