-- Cutting one seat's knowledge in two and joining two seats' keep the rule, which holds of a new table.
use Rattle.std.proofs.Common.{◌≡◌, ℕ, zero, suc, ◌+◌, ◌^◌, ◌<◌, ◌≤◌, min, Bool, true, false, ◌||◌, List, []}
use Rattle.std.proofs.Common.{◌∷◌, set, sym, refl, ap, ◌∙◌, subst, ⊎_elim, arith, le_refl, if◌then◌else◌}
use Rattle.std.specs.List.{range_with_len}
use mathlib.Core.Logic.{dite}
use mathlib.Core.Option.{some, some-injective, some-ne-none}
use native.Mathlib.Decide.{ℕ_discrete}
use lib.ListN.{get_elem?}
use Rattle.atomic_table.specs.Table.{opening, Splits, Joins}
use Rattle.atomic_table.proofs.Lists.{at_snoc, set_else}
use Rattle.shared_bound.specs.declared.TheConstants.{MOST_SEATS, NO_OFFER}
use Rattle.shared_bound.specs.declared.rule.Knowledge.{Knowledge}
use Rattle.shared_bound.specs.Rule.{times, Knows, Holds, opening_knowledge}
use Rattle.shared_bound.specs.Steps.{giver, newcomer, joined, nobody}
use Rattle.shared_bound.specs.Tokens.{IsTied}
use Rattle.shared_bound.proofs.Totals.{times-append}
use Rattle.shared_bound.proofs.Changes.{off, each_set, cut, put, claims, best}
use Rattle.shared_bound.proofs.WordSteps.{best_small}

either_done : (a b : Bool) (F : Type 0) → (a ≡ true → F) → (b ≡ true → F) → (a || b) ≡ true → F
either_done true b F x y e = x refl
either_done false b F x y e = y e

module _ {S : Type 0} (n : ℕ) where
  pub splits : (id : ℕ) (k : Knowledge) → 1 < k.parts → Splits {S = S} (Holds n) id k (giver k) (newcomer k)
  splits id k parts s holds at =
      let h = holds.2 in
      let c : ℕ = claims n s in
      let m : ℕ = best n s in
      let mine : Knows n c m k = h.each id k at in
      let within = h.within in
      let bounded = mine.bounded in
      let past = cut (λ (u : Knowledge). u.past) s.views id k (giver k) (newcomer k) at (omega arith) in
      let left : Knows n c m (giver k) =
      record {
        bounded = omega arith;
        ended = λ p. mine.ended (omega arith);
        finished = mine.finished;
        lowered = mine.lowered;
        nothing = λ z. absurd (omega arith);
      } in
      let right : Knows n c m (newcomer k) =
      record {
        bounded = omega arith;
        ended = λ p. mine.ended (omega arith);
        finished = λ f. absurd (off f);
        lowered = mine.lowered;
        nothing = λ z. absurd (omega arith);
      } in (
        holds.0,
        holds.1,
        record {
          history = h.history;
          leads = h.leads;
          whole = cut (λ (u : Knowledge). u.parts) s.views id k (giver k) (newcomer k) at (omega arith)
              ∙ h.whole;
          within = omega arith;
          given = λ x. cut (λ (u : Knowledge). times x u.claimed) s.views id k (giver k) (newcomer k) at
              (omega arith) ∙ h.given x;
          told = λ x. cut (λ (u : Knowledge). times x u.offered) s.views id k (giver k) (newcomer k) at
              (omega arith) ∙ h.told x;
          each = λ j u e.
              ⊎_elim
              (λ was. each_set n c m s.views id (giver k) left (λ i t _ there. h.each i t there) j u was)
              (λ (same : newcomer k ≡ u). subst (Knows n c m) same right)
              (at_snoc (set s.views id (giver k)) (newcomer k) u j e);
        },
      )

  pub joins : (id other : ℕ) (k l : Knowledge) → 0 < k.parts
      → Joins {S = S} (Holds n) id k other l (joined k l) nobody
  joins id other k l some_part s holds at apart there =
      let h = holds.2 in
      let b : Knowledge = joined k l in
      let c : ℕ = claims n s in
      let m : ℕ = best n s in
      let mine : Knows n c m k = h.each id k at in
      let theirs : Knows n c m l = h.each other l (sym (set_else s.views id other b apart) ∙ there) in
      let within = h.within in
      let bounded = mine.bounded in
      let bounded' = theirs.bounded in
      let low = mine.lowered in
      let low' = theirs.lowered in
      let top = best_small n c m s.views h in
      let past = put (λ (u : Knowledge). u.past) s.views id other k l b at there refl refl in
      let both : Knows n c m b = record {
        bounded = omega arith;
        ended = λ p. dite (ℕ_discrete k.past 0) (λ z. theirs.ended (omega arith))
            (λ some_past. mine.ended (omega arith));
        finished = either_done k.done l.done (n ≤ c) mine.finished theirs.finished;
        lowered = omega arith;
        nothing = λ z. absurd (omega arith);
      } in
      let spent : Knows n c m nobody =
      record {
        bounded = omega arith;
        ended = λ p. absurd (omega arith);
        finished = λ f. absurd (off f);
        lowered = top;
        nothing = λ _. (refl, refl);
      } in (
        holds.0,
        holds.1,
        record {
          history = h.history;
          leads = h.leads;
          whole = put (λ (u : Knowledge). u.parts) s.views id other k l b at there refl refl ∙ h.whole;
          within = omega arith;
          given = λ x. put (λ (u : Knowledge). times x u.claimed) s.views id other k l b at there
              (times-append x k.claimed l.claimed) refl ∙ h.given x;
          told = λ x. put (λ (u : Knowledge). times x u.offered) s.views id other k l b at there
              (times-append x k.offered l.offered) refl ∙ h.told x;
          each = each_set n c m (set s.views id b) other nobody spent
              (λ j u _ e. each_set n c m s.views id b both (λ i t _ here. h.each i t here) j u e);
        },
      )

  pub begins : (xs : List S) → n < 2 ^ 32 → Holds n (opening (0 ∷ NO_OFFER ∷ []) xs (opening_knowledge n))
  begins xs small = (
    small,
    refl,
    record {
      history = [];
      leads = let e : 0 ≡ min 0 n =
          omega arith in ap (λ (given : ℕ). record { given = given; least = NO_OFFER }) e;
      whole = refl;
      within = omega arith;
      given = λ x. let e : min 0 n ≡ 0 = omega arith in ap (λ (z : ℕ). times x (range_with_len 0 z)) (sym e);
      told = λ x. refl;
      each = one;
    },
  )
    where
      one : (j : ℕ) (k : Knowledge) → get_elem? (opening_knowledge n ∷ []) j ≡ some k → Knows n 0 NO_OFFER k
      one zero k e = subst (Knows n 0 NO_OFFER) (some-injective _ _ e)
          record {
            bounded = omega arith;
            ended = λ p. absurd (omega arith);
            finished = λ f. absurd (off f);
            lowered = le_refl NO_OFFER;
            nothing = λ z. absurd (omega arith);
          }
      one (suc j) k e = absurd (some-ne-none k (sym e))

-- a seat that is in use has a part
pub has_part : (k : Knowledge) (out shares_left : ℕ) → IsTied k out shares_left → 0 < k.parts
has_part k out shares_left t = go k.is_first refl
  where
    go : (b : Bool) → k.is_first ≡ b → 0 < k.parts
    go true e = let kept : k.parts + out ≡ MOST_SEATS =
        t.kept ∙ ap (λ (b : Bool). if b then MOST_SEATS else 1) e in let few = t.few in omega arith
    go false e = let kept : k.parts + out ≡ 1 = t.kept ∙ ap (λ (b : Bool). if b then MOST_SEATS else 1) e in
        let own = t.own e in omega arith

-- the first seat has all parts but those that are out
pub first_parts : (k : Knowledge) (out shares_left : ℕ) → IsTied k out shares_left → k.is_first ≡ true
    → k.parts + out ≡ MOST_SEATS
first_parts k out shares_left t first = t.kept ∙ ap (λ (b : Bool). if b then MOST_SEATS else 1) first
