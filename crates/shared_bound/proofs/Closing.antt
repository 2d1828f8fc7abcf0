-- What the words say once all parts are back with the first seat.
use Rattle.std.proofs.Common.{◌≡◌, ℕ, zero, suc, ◌≤◌, min, true, List, [], ◌∷◌, length, get_or, sym, ap}
use Rattle.std.proofs.Common.{subst, ◌∙◌, arith, IsPermutation}
use Rattle.std.specs.List.{range_with_len}
use Rattle.std.proofs.lemmas.List.Sorted.{length_permutation}
use Rattle.std.proofs.lemmas.List.FromFn.{length-range_with_len}
use mathlib.Core.Option.{some, some-injective, some-ne-none}
use lib.ListN.{get_elem?}
use Rattle.atomic_table.specs.Seated.{TableId}
use Rattle.atomic_table.specs.Table.{Final, Seen}
use Rattle.shared_bound.specs.declared.TheConstants.{MOST_SEATS, NO_OFFER}
use Rattle.shared_bound.specs.declared.rule.Knowledge.{Knowledge}
use Rattle.shared_bound.specs.Bound.{BoundCall, IsRun, fresh, bound_after_all, offers}
use Rattle.shared_bound.specs.Seats.{SeatView, least_offer}
use Rattle.shared_bound.specs.Rule.{total, times, Knows, Kept, Holds}
use Rattle.shared_bound.specs.Tokens.{shown, IsTied}
use Rattle.shared_bound.proofs.Totals.{total_alone}
use Rattle.shared_bound.proofs.Permuted.{permuted}
use Rattle.shared_bound.proofs.Runs.{leaves_least, same_least, least_offer_le_none, sources_of_run}
use Rattle.shared_bound.proofs.SeatSteps.{first_parts}

-- what `close` promises of a bound of n sources, its first seat and its answer
pub record Closes (n : ℕ) (first : SeatView) (answer : ℕ) : Type 0 where
  pub small : answer ≤ NO_OFFER
  pub least : answer ≡ least_offer first.offered
  pub low : answer ≤ first.low
  pub claimed : (c : ℕ) × (c ≤ n) × IsPermutation (range_with_len 0 c) first.claimed
      × (first.done ≡ true → c ≡ n)
  pub run : (calls : List BoundCall) × IsRun n first.claimed first.offered answer calls

ends : (n c m : ℕ) (seats : List Knowledge) (id : ℕ) (k : Knowledge) (table : TableId) (out shares_left : ℕ)
    → Kept n c m seats → get_elem? seats id ≡ some k → MOST_SEATS ≤ k.parts
    → Closes n (shown table k out shares_left) m
ends n c m seats id k table out shares_left h at all =
    let whole = h.whole in
    let mine : Knows n c m k = h.each id k at in
    let few : total (λ (u : Knowledge). u.parts) seats ≤ k.parts = omega arith in
    let offered : (x : ℕ) → times x k.offered ≡ times x (offers h.history) =
    λ x. sym
    (total_alone (λ (u : Knowledge). times x u.offered) (λ (u : Knowledge). u.parts) seats id k at few
    (λ j u e z. ap (times x) ((h.each j u e).nothing z).1)) ∙ h.told x in
    let claimed : (x : ℕ) → times x k.claimed ≡ times x (range_with_len 0 (min c n)) =
    λ x. sym
    (total_alone (λ (u : Knowledge). times x u.claimed) (λ (u : Knowledge). u.parts) seats id k at few
    (λ j u e z. ap (times x) ((h.each j u e).nothing z).0)) ∙ h.given x in
    let each_once : IsPermutation (range_with_len 0 (min c n)) k.claimed =
    permuted (range_with_len 0 (min c n)) k.claimed (λ x. sym (claimed x)) in
    let count : min c n ≡ length k.claimed =
    sym (length_permutation _ _ each_once ∙ length-range_with_len 0 (min c n)) in
    let least : m ≡ least_offer k.offered = sym (ap (λ s. s.least) h.leads)
    ∙ (leaves_least n h.history ∙ sym (same_least k.offered (offers h.history) offered)) in
    let top = least_offer_le_none k.offered in
    record {
      small = omega arith;
      least = least;
      low = mine.lowered;
      claimed = (min c n, omega arith, each_once, λ done. let full = mine.finished done in omega arith);
      run = (
        h.history,
        record {
          leads = subst (λ (given : ℕ). bound_after_all n fresh h.history
              ≡ record { given = given; least = m }) count h.leads;
          given = subst (λ (xs : List ℕ). IsPermutation xs k.claimed)
              (sym (sources_of_run n h.history (min c n) (ap (λ s. s.given) h.leads))) each_once;
          told = permuted (offers h.history) k.offered (λ x. sym (offered x));
        },
      );
    }

at_index : (xs : List ℕ) (i r : ℕ) → get_elem? xs i ≡ some r → get_or xs i 0 ≡ r
at_index [] i r e = absurd (some-ne-none r (sym e))
at_index (x ∷ xs) zero r e = some-injective x r e
at_index (x ∷ xs) (suc i) r e = at_index xs i r e

-- the table at its end, by the seat that is shown and the word that is read
pub settles : {S : Type 0} (sources key id : ℕ) (k : Knowledge) (table : TableId) (out shares_left : ℕ)
    (first : SeatView) (words : List ℕ) (slots : List S) (answer : ℕ)
    → shown table k out shares_left ≡ first → IsTied k out shares_left → first.is_first ≡ true → first.out ≡ 0
    → key ≡ sources
    → Final (Seen (Holds key) id k) words slots → get_elem? words 1 ≡ some answer
    → Closes sources first answer
settles sources key id k table out shares_left first words slots answer is tied is_first none_out same f
    word =
    let s = f.0 in
    let parts = first_parts k out shares_left tied (ap (λ s. s.is_first) is ∙ is_first) in
    let none : out ≡ 0 = ap (λ s. s.out) is ∙ none_out in
    let read : get_or s.words 1 0 ≡ answer =
    ap (λ (l : List ℕ). get_or l 1 0) f.2 ∙ at_index words 1 answer word in
    let e = ends key (get_or s.words 0 0) (get_or s.words 1 0) s.views id k table out shares_left f.1.0.2
    f.1.1 (omega arith) in
    subst (λ (z : ℕ × SeatView × ℕ). Closes z.0 z.1 z.2) (λ i. (same i, is i, read i)) e
