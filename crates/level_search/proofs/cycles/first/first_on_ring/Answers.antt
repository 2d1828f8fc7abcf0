-- One element and one source more; and at the end the least that was found is the one.
use Rattle.std.proofs.Common.{◌≡◌, ℕ, ◌+◌, ◌*◌, ◌-◌, ◌<◌, ◌≤◌, ◌⊎◌, inl, inr, length, get_or, sym}
use Rattle.std.proofs.Common.{◌∙◌}
use Rattle.std.proofs.Common.{subst, arith}
use Rattle.std.proofs.lemmas.Bool.{cases_eq, false≢true}
use Rattle.std.proofs.Math.Nat.{add-mul}
use Rattle.specification.specs.Responses.{Responses, place_count}
use Rattle.order_graph.specs.Lists.{lists_of}
use Rattle.list_search.specs.Walks.{HasCycle}
use Rattle.level_search.specs.Looks.{HasRisenBy}
use Rattle.level_search.specs.Rounds.{IsRoundOf}
use Rattle.level_search.proofs.Rounds.{least-one, lowest-met, lowest-past}
use Rattle.level_search.proofs.cycles.first.first_on_ring.Goals.{then-least-i-via-then-least-i}
use Rattle.level_search.proofs.cycles.first.first_on_ring.Goals.{then-least-i-via-else-least-i+then-i-sources}
use Rattle.level_search.proofs.cycles.first.first_on_ring.Goals as goal

pub returns-then-least-i-clause-lowest : goal.returns-then-least-i-clause-lowest
returns-then-least-i-clause-lowest c = λ t known cycle.
    let v : Responses = c.args.graph.now in
    let inv = c.loop-i.invariant in
    elim c.then-least-i.branch as (λ _. c.loop-i.least ≤ t) [
      | then-least-i-via-then-least-i w ↦
          lowest-past (lists_of v) c.loop-i.i c.args.k c.loop-i.least inv.none w.if-least-i.true t cycle
      | then-least-i-via-else-least-i+then-i-sources w ↦
          lowest-met (lists_of v) (length v.elements) c.args.k c.loop-i.least c.args.sources.now
          c.requires.met
          (λ j s low round. inv.round j s (let past = w.if-i-sources.true in omega arith) round)
          t known cycle
    ]

pub returns-then-least-i-clause-known : goal.returns-then-least-i-clause-known
returns-then-least-i-clause-known c =
    (least-one c.args.graph.now c.elements-least.ensures.proper c.args.k c.loop-i.least c.requires.shortest
    (returns-then-least-i-clause-lowest c)
    c.loop-i.invariant.found).0

pub returns-then-least-i-clause-cycle : goal.returns-then-least-i-clause-cycle
returns-then-least-i-clause-cycle c =
    (least-one c.args.graph.now c.elements-least.ensures.proper c.args.k c.loop-i.least c.requires.shortest
    (returns-then-least-i-clause-lowest c)
    c.loop-i.invariant.found).1

pub loop-i-preserved : goal.loop-i-preserved
loop-i-preserved c =
    let v : Responses = c.args.graph.now in
    let n : ℕ = length v.elements in
    let i : ℕ = c.loop-i.i in
    let inv = c.loop-i.invariant in
    let more = c.least_of_source-least.ensures in
    let falls = more.falls in
    record {
      fits = more.fits;
      distances = more.distances;
      none = λ t low cycle. elim (cases_eq t i) [
        | inl same ↦
            absurd (false≢true (sym c.if-is_on_ring.false
            ∙ c.is_on_ring.ensures.answer.1
            (subst (λ x. HasCycle (lists_of v) x c.args.k) same cycle)))
        | inr other ↦ inv.none t (omega arith) cycle
      ];
      found = elim more.found as (λ _. (c.least_of_source-least.result ≡ n)
          ⊎ HasCycle (lists_of v) c.least_of_source-least.result c.args.k) [
            | inl same ↦
                subst (λ x. (x ≡ n) ⊎ HasCycle (lists_of v) x c.args.k) (sym same) inv.found
            | inr cycle ↦ inr cycle
          ];
      round = λ j t low round. elim (cases_eq j i)
          as (λ _. c.least_of_source-least.result ≤ t) [
            | inl same ↦
                more.round t
                (subst (λ x. IsRoundOf (lists_of v) (get_or c.args.sources.now x 0) c.args.k t) same
                round)
            | inr other ↦ let old = inv.round j t (omega arith) round in omega arith
          ];
      turns = (let few = c.if-i-sources.false in omega arith);
      looked = (let one = c.is_on_ring.ensures.looked in let two = more.looked in let was = inv.looked in
          omega (arith, add-mul i 1 (6 * (place_count v + n))));
      forward = (let one = c.is_on_ring.ensures.forward in let two = more.forward in let was = inv.forward in
          omega arith);
      searched = (let one = c.is_on_ring.ensures.forward in let two = more.forward in
          let was = inv.forward in
          elim more.searched as (λ _. (c.least_of_source-least.result ≡ n)
          ⊎ HasRisenBy (2 * c.args.k - 1) c.args.looked.now c.least_of_source-least.new.looked) [
            | inl same ↦ elim inv.searched as (λ _. (c.least_of_source-least.result ≡ n)
                ⊎ HasRisenBy (2 * c.args.k - 1) c.args.looked.now c.least_of_source-least.new.looked) [
                  | inl none ↦ inl (same ∙ none)
                  | inr risen ↦ inr (omega arith)
                ]
            | inr risen ↦ inr (omega arith)
          ]);
    }

pub returns-clause-known : goal.returns-clause-known
returns-clause-known c =
    let v : Responses = c.args.graph.now in
    let past = c.loop-i-test.false in
    let all : (t : ℕ) → t < length v.elements → HasCycle (lists_of v) t c.args.k → c.loop-i.least ≤ t =
    λ t known cycle. absurd
    (c.loop-i.invariant.none t (omega (arith, c.elements-i-end.ensures.value)) cycle) in
    (least-one v c.elements-least.ensures.proper c.args.k c.loop-i.least c.requires.shortest all
    c.loop-i.invariant.found).0

pub returns-clause-cycle : goal.returns-clause-cycle
returns-clause-cycle c =
    let v : Responses = c.args.graph.now in
    let past = c.loop-i-test.false in
    let all : (t : ℕ) → t < length v.elements → HasCycle (lists_of v) t c.args.k → c.loop-i.least ≤ t =
    λ t known cycle. absurd
    (c.loop-i.invariant.none t (omega (arith, c.elements-i-end.ensures.value)) cycle) in
    (least-one v c.elements-least.ensures.proper c.args.k c.loop-i.least c.requires.shortest all
    c.loop-i.invariant.found).1

pub returns-then-is_on_ring-clause-found : goal.returns-then-is_on_ring-clause-found
returns-then-is_on_ring-clause-found c =
    let risen = c.is_on_ring.ensures.found c.if-is_on_ring.true in
    let was = c.loop-i.invariant.forward in
    omega arith

pub returns-then-least-i-clause-found : goal.returns-then-least-i-clause-found
returns-then-least-i-clause-found c =
    let known = returns-then-least-i-clause-known c in
    elim c.loop-i.invariant.searched
    as (λ _. HasRisenBy (2 * c.args.k - 1) c.args.looked.now c.loop-i.looked) [
      | inl none ↦ absurd (omega arith)
      | inr risen ↦ risen
    ]

pub returns-clause-found : goal.returns-clause-found
returns-clause-found c =
    let known = returns-clause-known c in
    elim c.loop-i.invariant.searched
    as (λ _. HasRisenBy (2 * c.args.k - 1) c.args.looked.now c.loop-i.looked) [
      | inl none ↦ absurd (omega arith)
      | inr risen ↦ risen
    ]
