-- Each step on a word keeps the rule, and tells what its play says.
use Rattle.std.proofs.Common.{◌≡◌, ℕ, zero, suc, ◌+◌, ◌%◌, ◌^◌, ◌<◌, ◌≤◌, min, List, [], ◌∷◌, ◌++◌, set, sym}
use Rattle.std.proofs.Common.{refl, ap, subst, arith, le_refl, All}
use Rattle.std.specs.List.{range_with_len}
use mathlib.Core.Logic.{dite}
use mathlib.Core.Option.{none, some}
use native.Mathlib.Decide.{dec_le}
use lib.ListN.{get_elem?}
use Rattle.atomic_table.specs.Table.{State, Me, step, keeps, stepped, Allows}
use Rattle.shared_bound.specs.declared.TheConstants.{MOST_SEATS, NO_OFFER}
use Rattle.shared_bound.specs.declared.rule.Knowledge.{Knowledge}
use Rattle.shared_bound.specs.Bound.{BoundCall, claim, look, offer, fresh, bound_after_all, offers}
use Rattle.shared_bound.specs.Rule.{total, times, Knows, Kept, Holds}
use Rattle.shared_bound.specs.Steps.{finished, passed, claimer, reader, offerer, Looked, Claimed, ReadBest}
use Rattle.shared_bound.specs.Steps.{Offered, Counted}
use Rattle.shared_bound.proofs.Totals.{total_le, one_le_total, times-append}
use Rattle.shared_bound.proofs.Permuted.{all_below, times_next}
use Rattle.shared_bound.proofs.Runs.{leaves_least, least_offer_le_none, times-offers, leads_claim, leads_look}
use Rattle.shared_bound.proofs.Runs.{leads_offer}
use Rattle.shared_bound.proofs.Changes.{changed, claims, best, counted, lowered}

-- the claims are at most as many as there are sources and seats
pub claims_few : (n c m : ℕ) (seats : List Knowledge) → Kept n c m seats → c ≤ n + MOST_SEATS
claims_few n c m seats h =
    let whole = h.whole in
    let within = h.within in
    let few =
    total_le (λ (k : Knowledge). k.past) (λ (k : Knowledge). k.parts) seats
    (λ j k e. (h.each j k e).bounded) in
    omega arith

-- the least offer is no greater than `NO_OFFER`
pub best_small : (n c m : ℕ) (seats : List Knowledge) → Kept n c m seats → m ≤ NO_OFFER
best_small n c m seats h =
    let least = ap (λ s. s.least) h.leads in
    let is = leaves_least n h.history in
    let top = least_offer_le_none (offers h.history) in
    omega arith

-- the words stay, the seat has the same claims and offers, and the history may get a call that changes
-- nothing
same_lists : (n c m : ℕ) (seats : List Knowledge) (id : ℕ) (k l : Knowledge) (h : Kept n c m seats)
    (later : List BoundCall) → get_elem? seats id ≡ some k
    → bound_after_all n fresh later ≡ record { given = min c n; least = m }
    → ((x : ℕ) → times x (offers later) ≡ times x (offers h.history))
    → l.parts ≡ k.parts → l.past ≡ k.past → l.claimed ≡ k.claimed → l.offered ≡ k.offered → Knows n c m l
    → Kept n c m (set seats id l)
same_lists n c m seats id k l h later at leads told parts past claimed offered knows =
    let within = h.within in
    changed n c m c m seats id k l h at
    record {
      later = later;
      leads = leads;
      grows = le_refl c;
      falls = le_refl m;
      parts = parts;
      within = omega arith;
      given = λ x. ap (λ (xs : List ℕ). times x xs + times x (range_with_len 0 (min c n))) claimed;
      told = λ x. let a = told x in let b = ap (times x) offered in omega arith;
      knows = knows;
    }

-- one claim more, and no offer
one_claim : (n c m : ℕ) (seats : List Knowledge) (id : ℕ) (k l : Knowledge) (h : Kept n c m seats)
    → get_elem? seats id ≡ some k → l.parts ≡ k.parts → l.offered ≡ k.offered
    → c + 1 + k.past ≤ n + total (λ (u : Knowledge). u.past) seats + l.past
    → ((x : ℕ) → times x l.claimed + times x (range_with_len 0 (min c n))
    ≡ times x k.claimed + times x (range_with_len 0 (min (c + 1) n)))
    → Knows n (c + 1) m l → Kept n (c + 1) m (set seats id l)
one_claim n c m seats id k l h at parts offered within given knows = changed n c m (c + 1) m seats id k l h at
    record {
      later = h.history ++ claim ∷ [];
      leads = leads_claim n h.history c m h.leads;
      grows = omega arith;
      falls = le_refl m;
      parts = parts;
      within = within;
      given = given;
      told = λ x. let a = times-offers x h.history (claim ∷ []) in let b = ap (times x) offered in
          omega arith;
      knows = knows;
    }

module _ {S : Type 0} (n : ℕ) where
  pub looks : (slots id : ℕ) (me : Me S Knowledge) → me.0.sources ≡ n
      → Allows (Holds n) slots id me 0 (λ x. x) (Looked (step slots 0 0 0 none) me)
  looks slots id me same s holds _ at _ =
      let k : Knowledge = me.0 in
      let c : ℕ = claims n s in
      let m : ℕ = best n s in
      let h = holds.2 in
      let mine : Knows n c m k = h.each id k at in
      dite (dec_le n c)
      (λ (full : n ≤ c).
      let l : Knowledge = finished k in
      let still : min (c + 1) n ≡ min c n = omega arith in (
        l,
        keeps,
        tt,
        counted n s holds id me.1 l c
            (same_lists n c m s.views id k l h (h.history ++ claim ∷ []) at
            (subst (λ (given : ℕ). bound_after_all n fresh (h.history ++ claim ∷ [])
            ≡ record { given = given; least = m }) still (leads_claim n h.history c m h.leads))
            (λ x. let e = times-offers x h.history (claim ∷ []) in omega arith)
            refl refl refl refl
            record {
              bounded = mine.bounded;
              ended = mine.ended;
              finished = λ _. full;
              lowered = mine.lowered;
              nothing = mine.nothing;
            }),
        (refl, (λ less. absurd (omega arith)), λ _. refl),
      ))
      (λ (left : ¬ (n ≤ c)). (
        k,
        keeps,
        tt,
        counted n s holds id me.1 k c
            (same_lists n c m s.views id k k h h.history at h.leads (λ x. refl) refl refl refl refl mine),
        (refl, (λ _. (refl, none_past k.past c mine.ended left)), λ full. absurd (omega arith)),
      ))
    where
      none_past : (past c : ℕ) → (0 < past → n ≤ c) → ¬ (n ≤ c) → past ≡ 0
      none_past zero c ended left = refl
      none_past (suc past) c ended left = absurd (left (ended (omega arith)))

  no_wrap : (s : State S Knowledge) → Holds n s → (claims n s + 1) % 2 ^ 64 ≡ claims n s + 1
  no_wrap s holds = let small = holds.0 in let few = claims_few n (claims n s) (best n s) s.views holds.2 in
      let low : claims n s + 1 < 2 ^ 64 = omega arith in omega arith

  pub claims_one : (slots id : ℕ) (me : Me S Knowledge) → me.0.sources ≡ n → 0 < me.0.parts → me.0.past ≡ 0
      → Allows (Holds n) slots id me 0 (λ x. (x + 1) % 2 ^ 64) (Claimed (step slots 0 1 0 none) me)
  claims_one slots id me same some_part none_past s holds _ at _ =
      let k : Knowledge = me.0 in
      let c : ℕ = claims n s in
      let m : ℕ = best n s in
      let h = holds.2 in
      let mine : Knows n c m k = h.each id k at in
      let then_holds : (l : Knowledge) → Kept n (c + 1) m (set s.views id l)
      → Holds n (stepped s 0 ((c + 1) % 2 ^ 64) id me.1 l keeps) =
      λ l kept. subst (λ (z : ℕ). Holds n (stepped s 0 z id me.1 l keeps)) (sym (no_wrap s holds))
      (counted n s holds id me.1 l (c + 1) kept) in
      dite (dec_le n c)
      (λ (full : n ≤ c).
      let l : Knowledge = passed k in
      let still : min c n ≡ min (c + 1) n = omega arith in (
        l,
        keeps,
        tt,
        then_holds l
            (one_claim n c m s.views id k l h at refl refl (omega (arith, h.within))
            (λ x. ap (λ (z : ℕ). times x k.claimed + times x (range_with_len 0 z)) still)
            record {
              bounded = omega arith;
              ended = λ _. omega arith;
              finished = λ _. omega arith;
              lowered = mine.lowered;
              nothing = mine.nothing;
            }),
        (refl, (λ less. absurd (omega arith)), λ _. refl),
      ))
      (λ (left : ¬ (n ≤ c)).
      let l : Knowledge = claimer k c in
      let low : min c n ≡ c = omega arith in
      let next : min (c + 1) n ≡ c + 1 = omega arith in
      let lower : All (λ x. x < c) k.claimed = all_below c k.claimed (λ x.
      let a = ap (λ (z : ℕ). times x (range_with_len 0 z)) low in
      let b = h.given x in
      let d = one_le_total (λ (u : Knowledge). times x u.claimed) s.views id k at in
      omega arith) in (
        l,
        keeps,
        tt,
        then_holds l
            (one_claim n c m s.views id k l h at refl refl (omega (arith, h.within))
            (λ x.
            let a = ap (λ (z : ℕ). times x (range_with_len 0 z)) low in
            let b = ap (λ (z : ℕ). times x (range_with_len 0 z)) next in
            let d = times_next x c in
            let e = times-append x k.claimed (c ∷ []) in
            omega arith)
            record {
              bounded = mine.bounded;
              ended = λ p. absurd (omega arith);
              finished = λ f. absurd (left (mine.finished f));
              lowered = mine.lowered;
              nothing = λ z. absurd (omega arith);
            }),
        (refl, (λ _. (refl, lower)), λ full. absurd (omega arith)),
      ))

  pub reads : (slots id : ℕ) (me : Me S Knowledge)
      → Allows (Holds n) slots id me 1 (λ x. x) (ReadBest (step slots 1 0 0 none) me)
  reads slots id me s holds _ at _ =
      let k : Knowledge = me.0 in
      let c : ℕ = claims n s in
      let m : ℕ = best n s in
      let h = holds.2 in
      let mine : Knows n c m k = h.each id k at in
      let l : Knowledge = reader k m in (
        l,
        keeps,
        tt,
        lowered n s holds id me.1 l m
            (same_lists n c m s.views id k l h (h.history ++ look ∷ []) at
            (leads_look n h.history (min c n) m h.leads)
            (λ x. let e = times-offers x h.history (look ∷ []) in omega arith)
            refl refl refl refl
            record {
              bounded = mine.bounded;
              ended = mine.ended;
              finished = mine.finished;
              lowered = le_refl m;
              nothing = mine.nothing;
            }),
        (refl, mine.lowered, best_small n c m s.views h),
      )

  pub lowers : (slots id x : ℕ) (me : Me S Knowledge) → 0 < me.0.parts
      → Allows (Holds n) slots id me 1 (λ m. min m x) (Offered (step slots 1 x 0 none) me)
  lowers slots id x me some_part s holds _ at _ =
      let k : Knowledge = me.0 in
      let c : ℕ = claims n s in
      let m : ℕ = best n s in
      let h = holds.2 in
      let mine : Knows n c m k = h.each id k at in
      let low = mine.lowered in
      let l : Knowledge = offerer k m x in (
        l,
        keeps,
        tt,
        lowered n s holds id me.1 l (min m x)
            (changed n c m c (min m x) s.views id k l h at
            record {
              later = h.history ++ offer x ∷ [];
              leads = leads_offer n h.history (min c n) m x h.leads;
              grows = le_refl c;
              falls = omega arith;
              parts = refl;
              within = omega (arith, h.within);
              given = λ y. refl;
              told = λ y. let e = times-append y k.offered (x ∷ []) in
                  let d = times-offers y h.history (offer x ∷ []) in omega arith;
              knows = record {
                bounded = mine.bounded;
                ended = mine.ended;
                finished = mine.finished;
                lowered = omega arith;
                nothing = λ z. absurd (omega arith);
              };
            }),
        (refl, low),
      )

  pub counts : (slots id : ℕ) (me : Me S Knowledge)
      → Allows (Holds n) slots id me 0 (λ x. x) (Counted (step slots 0 0 0 none) me)
  counts slots id me s holds _ at _ =
      let k : Knowledge = me.0 in
      let h = holds.2 in
      let whole = h.whole in
      let a = one_le_total (λ (u : Knowledge). u.parts) s.views id k at in (
        k,
        keeps,
        tt,
        counted n s holds id me.1 k (claims n s)
            (same_lists n (claims n s) (best n s) s.views id k k h h.history at h.leads
            (λ x. refl) refl refl refl refl (h.each id k at)),
        (refl, omega arith),
      )
