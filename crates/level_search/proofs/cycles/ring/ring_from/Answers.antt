use Rattle.std.proofs.Common.{◌≡◌, ℕ, suc, ◌+◌, ◌*◌, ◌-◌, ◌<◌, ◌≤◌, ◌++◌, [], ◌∷◌, List, length, get_or, refl}
use Rattle.std.proofs.Common.{subst, sym, ap, ◌∙◌, arith, inl, inr}
use Rattle.std.specs.Prelude.{◌↔◌}
use Rattle.std.proofs.lemmas.Bool.{cases_eq}
use Rattle.std.proofs.lemmas.Grind.{common_steps}
use Rattle.std.proofs.lemmas.List.{get_or_append_left, get_or_push, length_push}
use Rattle.std.proofs.Math.Nat.{add-mul}
use Rattle.specification.specs.Responses.{place_count}
use Rattle.order_graph.specs.Lists.{lists_of}
use Rattle.list_search.specs.Rings.{IsLeastNext, Reaches}
use Rattle.list_search.proofs.Firsts.{reaches_walk}
use Rattle.list_search.proofs.Joining.{before-known}
use Rattle.list_search.specs.Walks.{Walk}
use Rattle.level_search.proofs.OnRing.{distance_on-ring}
use Rattle.level_search.proofs.cycles.ring.ring_from.Goals as goal

pub loop-i-init : goal.loop-i-init
loop-i-init c =
    let k : ℕ = c.args.k in
    let s : ℕ = c.args.element in
    let rows = (lists_of c.args.graph.now) in
    let pushed : c.push.new.self.items ≡ s ∷ [] =
    grind (arith, common_steps, c.in_ok-push.ensures.items, c.new-ring.ensures.items) in
    let some : 1 ≤ k = c.requires.cycle.0 in
    record {
      count = ap length pushed;
      first = ap (λ (l : List ℕ). get_or l 0 0) pushed;
      last = ap (λ (l : List ℕ). get_or l 0 0) pushed;
      walk = refl;
      on = subst (λ n. Reaches rows s n s) (let e : k ≡ k - 1 + 1 = omega arith in e)
          (reaches_walk rows s k s c.requires.cycle.1);
      chosen = λ j low high. absurd (omega arith);
      looked = omega (arith, c.find_to.ensures.looked);
      forward = omega (arith, c.find_to.ensures.forward);
    }

pub next_of_ring-a-requires-clause-depths : goal.next_of_ring-a-requires-clause-depths
next_of_ring-a-requires-clause-depths c =
    let v = c.args.graph.now in
    let rows = (lists_of v) in
    let k : ℕ = c.args.k in
    let z : ℕ = c.args.element in
    let i : ℕ = c.loop-i.i in
    let a : ℕ = c.loop-i.a in
    let depths : List ℕ = c.find_to.new.self.to.depths.items in
    let low : 1 ≤ i = c.loop-i.auto.i in
    let high : i < k = c.loop-i-test.true in
    let same : suc (i - 1) ≡ i = omega arith in
    let lent : c.deref.result.now ≡ depths = c.deref.ensures.value in
    λ y step.
    (let known = before-known v c.elements.ensures.proper a y step in
    let within : y < length depths =
    omega (arith, c.find_to.ensures.fits.to.depths, c.find_to.new.self.to.depths.ok, known.1) in
    let is = c.find_to.ensures.to y within in
    let exact = distance_on-ring rows z k (i - 1) a y (get_or depths y 0) c.requires.shortest
    (omega arith) c.loop-i.invariant.walk step is in
    subst (λ (l : List ℕ). (get_or l y 0 ≡ k - i) ↔ Reaches rows z (k - i) y) (sym lent)
    (subst (λ n. (get_or depths y 0 ≡ k - n) ↔ Reaches rows z (k - n) y) same exact))

pub loop-i-preserved : goal.loop-i-preserved
loop-i-preserved c =
    let before = c.loop-i.invariant in
    let rows = (lists_of c.args.graph.now) in
    let k : ℕ = c.args.k in
    let s : ℕ = c.args.element in
    let i : ℕ = c.loop-i.i in
    let a : ℕ = c.loop-i.a in
    let b : ℕ = c.next_of_ring-a.result in
    let ring : List ℕ = c.loop-i.ring.items in
    let more : List ℕ = c.push-in-loop-i.new.self.items in
    let count : length ring ≡ i = before.count in
    let low = c.loop-i.auto.i in
    let high : i < k = c.loop-i-test.true in
    let pushed : more ≡ ring ++ b ∷ [] = grind (arith, common_steps, c.in_ok-push-2.ensures.items) in
    let old : (j : ℕ) → j < i → get_or ring j 0 ≡ get_or more j 0 =
    λ j h. sym (get_or_append_left ring (b ∷ []) 0 j (omega arith))
    ∙ ap (λ (l : List ℕ). get_or l j 0) (sym pushed) in
    let last : b ≡ get_or more i 0 =
    sym (get_or_push ring b 0 i count) ∙ ap (λ (l : List ℕ). get_or l i 0) (sym pushed) in
    let chosen : IsLeastNext rows s (k - i) a b = c.next_of_ring-a.ensures.next in
    record {
      count = let e = ap length pushed ∙ length_push ring b in omega arith;
      first = sym (old 0 (omega arith)) ∙ before.first;
      last = ap (λ j. get_or more j 0) (let e : i + 1 - 1 ≡ i = omega arith in e) ∙ sym last;
      walk = subst (λ n. Walk rows s n b) (let e : suc (i - 1) ≡ i + 1 - 1 = omega arith in e)
          (a, before.walk, chosen.behind);
      on = subst (λ n. Reaches rows s n b) (let e : k - i ≡ k - (i + 1) + 1 = omega arith in
          e) chosen.reaches;
      chosen = λ j from to. elim (cases_eq j i) [
        | inl same ↦
            let here : a ≡ get_or more (i - 1) 0 = sym before.last ∙ old (i - 1) (omega arith) in
            rw (same, sym here, sym last) chosen
        | inr other ↦
            rw (sym (old (j - 1) (omega arith)), sym (old j (omega arith)))
            (before.chosen j from (omega arith))
      ];
      looked = (let v = c.args.graph.now in let one = c.next_of_ring-a.ensures.looked in
          let was = before.looked in omega (arith, add-mul i 1 (place_count v + length v.elements)));
      forward = (let one = c.next_of_ring-a.ensures.forward in let was = before.forward in omega arith);
    }

pub returns-clause-looked : goal.returns-clause-looked
returns-clause-looked c =
    let v = c.args.graph.now in
    let some : 1 ≤ c.args.k = c.requires.cycle.0 in
    let past = c.loop-i-test.false in
    let same : c.loop-i.i ≡ c.args.k = omega arith in
    subst (λ n. c.loop-i.looked ≤ c.args.looked.now + n * (place_count v + length v.elements)) same
    c.loop-i.invariant.looked
