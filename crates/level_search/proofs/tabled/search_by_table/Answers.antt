-- From level to level.
use Rattle.std.proofs.Common.{◌≡◌, ℕ, ◌+◌, ◌*◌, ◌≤◌, ◌⊎◌, Option, None, List, length, ◌∙◌, inl}
use Rattle.std.proofs.Common.{inr, refl, subst, arith}
use Rattle.std.specs.Prelude.{◌↔◌}
use Rattle.bit_tables.specs.Sets.{Has}
use Rattle.order_graph.specs.Lists.{lists_of}
use Rattle.level_search.proofs.BallLemmas.{before_shown, cycle_closes, cycle_longer, level_next}
use Rattle.level_search.proofs.BallLemmas.{no_cycle_left}
use Rattle.list_search.proofs.Joining.{before-known}
use Rattle.level_search.specs.LayerSizes.{counted, layer_size, set_size}
use Rattle.level_search.specs.Balls.{IsAtLevel}
use Rattle.level_search.specs.Looks.{HasLooked, IsLastPart}
use Rattle.list_search.specs.Rings.{Reaches}
use Rattle.level_search.specs.declared.tabled.sets.Sets.{Sets}
use Rattle.level_search.proofs.Counts.{count-most}
use Rattle.level_search.proofs.LayerSizes.{looked-as, looked-more, looked-within, near-next, near-none}
use Rattle.level_search.proofs.tabled.search_by_table.Goals as goal
use Rattle.level_search.proofs.tabled.search_by_table.Goals.{then-least-level-2-via-then-least-level-2}
use Rattle.level_search.proofs.tabled.search_by_table.Goals.{then-least-level-2-via-else-least-level-2+then-not-next_layer}

-- a layer is looked at for a cycle that closes there, and once more for the next one
twice : (n : ℕ) (old new : Sets) (begun was closed now : ℕ) → was ≡ counted (2 * set_size n old.near) begun
    → closed ≡ counted (layer_size n old) was → now ≡ counted (layer_size n old) closed
    → ((x : ℕ) → Has new.near x ↔ (Has old.near x ⊎ Has old.reached x))
    → now ≡ counted (2 * set_size n new.near) begun
twice n old new begun was closed now first second third near =
    looked-as (2 * set_size n old.near + layer_size n old + layer_size n old) _ _ _
    (looked-more _ _ _ _ _ (looked-more _ _ _ _ _ first second) third)
    (omega (arith, near-next n old new.near near))

pub returns-then-closes-clause-answer : goal.returns-then-closes-clause-answer
returns-then-closes-clause-answer g c =
    let v = c.args.graph.now in
    let at = c.loop-level.invariant.at in
    let found = c.if-closes.ensures.found refl in
    let last = c.best-least.ensures.answer in
    let bound = c.if-least-level.false in (
      record {
        cycle = cycle_closes _ _ _ c.requires.table (before-known v c.elements.ensures.proper) _ _ _ at
            found.0 found.1.here ((c.requires.table.shown c.args.element found.0 found.1.here.known).1
            (before_shown (lists_of v) c.args.element found.0 found.1.before));
        shortest = λ n cycle. let long = at.long n cycle in omega arith;
      },
      omega arith,
    )

pub returns-then-least-level-2-clause-answer : goal.returns-then-least-level-2-clause-answer
returns-then-least-level-2-clause-answer g c n cycle =
    let v = c.args.graph.now in
    let at = c.loop-level.invariant.at in
    let missed = c.if-closes.ensures.missed refl in
    let known = before-known v c.elements.ensures.proper in
    let last = c.best-least.ensures.answer in
    elim c.then-least-level-2.branch [
      | then-least-level-2-via-then-least-level-2 w ↦
          let long = cycle_longer _ _ _ c.requires.table known _ _ _ at missed n cycle in
          let low = w.if-least-level-2.true in
          omega arith
      | then-least-level-2-via-else-least-level-2+then-not-next_layer w ↦
          let next = w.next_layer.ensures in
          let then =
          level_next _ _ _ c.requires.table known _ _ _ w.next_layer.new.self at missed next.near
          next.reached in
          absurd (no_cycle_left _ _ _ c.requires.table known _ _ _ then
          (w.if-not-next_layer.ensures.last refl) n cycle)
    ]

pub loop-level-init : goal.loop-level-init
loop-level-init g c =
    let n : ℕ = length c.args.graph.now.elements in
    let rows : List (List ℕ) = lists_of c.args.graph.now in
    let s : ℕ = c.args.element in
    let begun = c.begin.ensures in
    let fits = c.requires.fits in
    record {
      at = record {
        near = λ x. (λ has. absurd (begun.near x has), λ m. absurd (let low = m.1 in omega (arith, low)));
        reached = λ x. (
          λ has. (0, omega arith, (begun.reached x).0 has),
          λ m.
              let low = m.1 in
              let none : m.0 ≡ 0 = omega (arith, low) in
              (begun.reached x).1 (subst (λ k. Reaches rows s k x) none m.2),
        );
        long = λ m cycle. cycle.0;
      };
      fits = record {
        near = begun.near_width ∙ fits.near;
        reached = begun.reached_width ∙ fits.reached;
        next = begun.next_width ∙ fits.next;
      };
      bound = omega arith;
      reads = g.met.B.BoundSource.reads_none _;
      times = g.met.B.BoundSource.times_none _;
      looked =
          looked-as 0 _ c.args.looked.now _ refl
          (let none = near-none n c.begin.new.self.near begun.near in omega (arith, none));
      read = λ some. absurd (omega (arith, some));
    }

pub loop-level-preserved : goal.loop-level-preserved
loop-level-preserved g c =
    let v = c.args.graph.now in
    let inv = c.loop-level.invariant in
    let missed = c.if-closes.ensures.missed refl in
    let next = c.next_layer.ensures in
    let last = c.best-least.ensures.answer in
    let falls = c.best-least.ensures.falls in
    let high = c.if-least-level-2.false in
    record {
      at = level_next _ _ _ c.requires.table (before-known v c.elements.ensures.proper) _ _ _ _ inv.at
          missed next.near next.reached;
      fits = next.fits;
      bound = omega (arith, falls, inv.bound);
      reads = g.met.B.BoundSource.reads_more _ _ _ inv.reads c.best-least.ensures.reads;
      times = g.met.B.BoundSource.times_more _ _ _ _ _ inv.times c.best-least.ensures.times;
      looked =
          twice _ _ c.next_layer.new.self _ _ _ _ inv.looked (c.if-closes.ensures.looked refl) next.looked
          next.near;
      read = λ some. (omega (arith, last, high), omega (arith, last));
    }

-- the looks of a search that ends at a level
looks_at : (n : ℕ) (rows : List (List ℕ)) (s low times level part count : ℕ) (sets : Sets) (answer : Option ℕ)
    (old new : ℕ) → IsAtLevel rows s level sets → IsLastPart n rows s low times sets level answer part
    → count ≡ 2 * set_size n sets.near + part → new ≡ counted count old
    → HasLooked n rows s low times sets answer old new
looks_at n rows s low times level part count sets answer old new at part_is sum is = (
  count,
  record {
    level = level;
    near = at.near;
    reached = at.reached;
    part = part;
    is_part = part_is;
    is_sum = sum;
  },
  is,
)

-- the same where it looks at none of the last layer
none_at : (n : ℕ) (rows : List (List ℕ)) (s low times level : ℕ) (sets : Sets) (old new : ℕ)
    → IsAtLevel rows s level sets → IsLastPart n rows s low times sets level None 0
    → new ≡ counted (2 * set_size n sets.near) old → HasLooked n rows s low times sets None old new
none_at n rows s low times level sets old new at part_is =
    looks_at n rows s low times level 0 _ sets None old new at part_is (omega arith)

-- each time the bound was read once more than there are layers before
pub returns-then-least-level-clause-looks : goal.returns-then-least-level-clause-looks
returns-then-least-level-clause-looks g c =
    let inv = c.loop-level.invariant in
    let last = c.best-least.ensures.answer in
    let low = c.if-least-level.true in (
      c.loop-level.level + 1,
      g.met.B.BoundSource.times_more _ _ _ _ _ inv.times c.best-least.ensures.times,
      none_at _ _ _ _ _ c.loop-level.level _ _ _ inv.at (inl (refl, refl, omega (arith, last, low)))
          inv.looked,
    )

pub returns-then-closes-clause-looks : goal.returns-then-closes-clause-looks
returns-then-closes-clause-looks g c =
    let inv = c.loop-level.invariant in
    let found = c.if-closes.ensures.found refl in (
      c.loop-level.level + 1,
      g.met.B.BoundSource.times_more _ _ _ _ _ inv.times c.best-least.ensures.times,
      looks_at _ _ _ _ _ c.loop-level.level _ _ _ _ _ _ inv.at (refl, found.0, found.1, refl, refl) refl
          (looked-more _ _ _ _ _ inv.looked found.2),
    )

pub returns-then-least-level-2-clause-looks : goal.returns-then-least-level-2-clause-looks
returns-then-least-level-2-clause-looks g c =
    let v = c.args.graph.now in
    let inv = c.loop-level.invariant in
    let at = inv.at in
    let missed = c.if-closes.ensures.missed refl in
    let closes = c.if-closes.ensures.looked refl in
    let last = c.best-least.ensures.answer in
    let high = c.if-least-level.false in (
      c.loop-level.level + 1,
      g.met.B.BoundSource.times_more _ _ _ _ _ inv.times c.best-least.ensures.times,
      elim c.then-least-level-2.branch [
        | then-least-level-2-via-then-least-level-2 w ↦
            let low = w.if-least-level-2.true in
            rw (w.sets-is, w.looked-is)
            (looks_at _ _ _ _ _ c.loop-level.level _ _ _ _ _ _ at
            (inr (inl (refl, refl, omega (arith, last, low, high)))) refl
            (looked-more _ _ _ _ _ inv.looked closes))
        | then-least-level-2-via-else-least-level-2+then-not-next_layer w ↦
            let next = w.next_layer.ensures in
            let more = w.if-least-level-2.false in
            let then =
            level_next _ _ _ c.requires.table (before-known v c.elements.ensures.proper) _ _ _
            w.next_layer.new.self at missed next.near next.reached in
            rw (w.sets-is, w.looked-is)
            (none_at _ _ _ _ _ (c.loop-level.level + 1) _ _ _ then
            (inr (inr (
              refl,
              refl,
              omega (arith, last, more),
              λ x here. here.not_near (w.if-not-next_layer.ensures.last refl x here.reached),
            )))
            (twice _ _ w.next_layer.new.self _ _ _ _ inv.looked closes next.looked next.near))
      ],
    )

-- no bound lets a search come so far
pub returns-clause-looks : goal.returns-clause-looks
returns-clause-looks g c =
    let past = c.loop-level-test.false in
    let read = c.loop-level.invariant.read (omega (arith, past)) in
    let high = read.0 in
    let low = read.1 in
    absurd (omega (arith, past, high, low))

-- so many looks are no more than two at the row of each element
few : (n : ℕ) (rows : List (List ℕ)) (s low times : ℕ) (sets : Sets) (answer : Option ℕ) (old new : ℕ)
    → HasLooked n rows s low times sets answer old new → new ≤ old + 2 * n
few n rows s low times sets answer old new is =
    looked-within is.0 (2 * n) old new is.2 (count-most n rows s low times sets answer is.0 is.1)

pub returns-then-least-level-clause-looked : goal.returns-then-least-level-clause-looked
returns-then-least-level-clause-looked g c =
    few _ _ _ _ _ _ _ _ _ (returns-then-least-level-clause-looks g c).2

pub returns-then-closes-clause-looked : goal.returns-then-closes-clause-looked
returns-then-closes-clause-looked g c = few _ _ _ _ _ _ _ _ _ (returns-then-closes-clause-looks g c).2

pub returns-then-least-level-2-clause-looked : goal.returns-then-least-level-2-clause-looked
returns-then-least-level-2-clause-looked g c =
    few _ _ _ _ _ _ _ _ _ (returns-then-least-level-2-clause-looks g c).2

pub returns-clause-looked : goal.returns-clause-looked
returns-clause-looked g c = few _ _ _ _ _ _ _ _ _ (returns-clause-looks g c).2
