-- What is taken in turn is the least order, or there is none.
use Rattle.std.proofs.Common.{◌≡◌, ℕ, ◌+◌, ◌<◌, inl, inr, List, [], ◌∷◌, length, get_or}
use Rattle.std.proofs.Common.{vec_len, sym, ◌∙◌, ap, refl, subst, arith, length-append}
use Rattle.std.specs.Prelude.{All}
use Rattle.std.proofs.lemmas.Grind.{get_or_default_zero}
use Rattle.specification.proofs.Members.{In, In-from_Contains, Contains-from_In, All-member, All-from_members}
use Rattle.order_graph.specs.Lists.{row}
use Rattle.witness_order.specs.declared.successors.Edge.{Edge}
use Rattle.std.specs.List.{range_with_len}
use Rattle.witness_order.specs.Edges.{lists_in, linked_from, linked_lists, indegree, occurrences, edges}
use Rattle.witness_order.proofs.InTurn.{InTurn, AreRemoved, term_le, begins, next, less_taken, ends_first}
use Rattle.witness_order.proofs.InTurn.{ends_closed}
use Rattle.witness_order.proofs.Followed.{least_from_first, none_from_closed}
use Rattle.witness_order.proofs.Earlier.{taken_in_turn, others_led}
use Rattle.witness_order.proofs.Linked.{row-linked}
use Rattle.witness_order.proofs.least_order.taken_in_turn.Goals as goal

pub loop-x-init : goal.loop-x-init
loop-x-init c =
    let n : ℕ = length c.args.graph.now.elements in
    let free : List ℕ = c.args.free.keys in
    let lists : List (List ℕ) = lists_in c.args.successors in
    let degrees : List ℕ = c.args.successors.indegrees.items in
    let kept = c.requires.kept in
    let many : length c.args.successors.heads.items ≡ n =
    omega (arith, c.requires.count, c.args.successors.heads.ok) in
    record {
      size = omega (arith, many, kept.size, c.args.successors.indegrees.ok);
      state = subst (λ taken. InTurn (edges lists) n taken free degrees)
          (sym c.in_ok-taken.ensures.items)
          (begins (edges lists) n free degrees
          (subst (λ m. (y : ℕ) → y < m → get_or degrees y 0 ≡ indegree lists (range_with_len 0 m) y) many
          kept.counted)
          (λ z i. (c.requires.free z).0 (Contains-from_In free z i))
          (λ z lt none. In-from_Contains free z ((c.requires.free z).1 (lt, none))));
    }

-- the least free element is left, and its edges are gone through
module _ (n : ℕ) (es : List Edge) (hs taken free more degrees : List ℕ) (x : ℕ)
    (state : InTurn (edges (linked_lists es hs)) n taken free degrees) (first : free ≡ x ∷ more) where
  first_left : In x state.left
  first_left = state.free_left x (subst (λ (l : List ℕ). In x l) (sym first) (inl refl))

  first_within : x < n
  first_within = state.left_below x first_left

  entries : (slice : List Edge) (head : ℕ) → length hs ≡ n → slice ≡ es → head ≡ get_or hs x head
      → row (linked_lists es hs) x ≡ linked_from slice head
  entries slice head many value is =
      let within : x < length hs = omega (arith, first_within, many) in
      row-linked es hs x
      ∙ ap (linked_from es) (sym (is ∙ get_or_default_zero hs x head within))
      ∙ ap (λ (l : List Edge). linked_from l head) (sym value)

pub index-head-requires : goal.index-head-requires
index-head-requires c =
    let low : c.in-Some.x < length c.args.graph.now.elements =
    first_within (length c.args.graph.now.elements) c.args.successors.edges.items
    c.args.successors.heads.items c.loop-x.taken.items c.loop-x.free.keys c.take_least.new.free.keys
    c.loop-x.indegrees.items c.in-Some.x c.loop-x.invariant.state c.in-Some.ensures.first in
    omega (arith, low, c.requires.count)

pub remove_edges-requires-clause-head : goal.remove_edges-requires-clause-head
remove_edges-requires-clause-head c =
    let hs : List ℕ = c.args.successors.heads.items in
    let x : ℕ = c.in-Some.x in
    let head : ℕ = c.index-head.result.now in
    let low : x < length c.args.graph.now.elements =
    first_within (length c.args.graph.now.elements) c.args.successors.edges.items hs c.loop-x.taken.items
    c.loop-x.free.keys c.take_least.new.free.keys c.loop-x.indegrees.items x c.loop-x.invariant.state
    c.in-Some.ensures.first in
    let within : x < length hs = omega (arith, low, c.requires.count, c.args.successors.heads.ok) in
    let is : head ≡ get_or hs x 0 = c.index-head.ensures ∙ get_or_default_zero hs x head within in
    omega (
      arith,
      is,
      c.requires.kept.within x,
      ap (λ (l : List Edge). length l) c.as_slice.ensures.value,
    )

pub remove_edges-requires-clause-known : goal.remove_edges-requires-clause-known
remove_edges-requires-clause-known c =
    let n : ℕ = length c.args.graph.now.elements in
    let x : ℕ = c.in-Some.x in
    let lists : List (List ℕ) = lists_in c.args.successors in
    let is : row lists x ≡ linked_from c.as_slice.result.now c.index-head.result.now =
    entries n c.args.successors.edges.items c.args.successors.heads.items c.loop-x.taken.items
    c.loop-x.free.keys c.take_least.new.free.keys c.loop-x.indegrees.items x c.loop-x.invariant.state
    c.in-Some.ensures.first c.as_slice.result.now c.index-head.result.now
    (omega (arith, c.requires.count, c.args.successors.heads.ok)) c.as_slice.ensures.value
    c.index-head.ensures in
    subst (λ (l : List ℕ). All (λ y. y < vec_len c.loop-x.indegrees) l) is
    (subst (λ n. All (λ y. y < n) (row lists x)) (sym c.loop-x.invariant.size)
    (c.requires.successors.known x))

pub remove_edges-requires-clause-counted : goal.remove_edges-requires-clause-counted
remove_edges-requires-clause-counted c = λ y lt.
    let n : ℕ = length c.args.graph.now.elements in
    let x : ℕ = c.in-Some.x in
    let lists : List (List ℕ) = lists_in c.args.successors in
    let state = c.loop-x.invariant.state in
    let is : row lists x ≡ linked_from c.as_slice.result.now c.index-head.result.now =
    entries n c.args.successors.edges.items c.args.successors.heads.items c.loop-x.taken.items
    c.loop-x.free.keys c.take_least.new.free.keys c.loop-x.indegrees.items x c.loop-x.invariant.state
    c.in-Some.ensures.first c.as_slice.result.now c.index-head.result.now
    (omega (arith, c.requires.count, c.args.successors.heads.ok)) c.as_slice.ensures.value
    c.index-head.ensures in
    let same : edges lists x y ≡ occurrences (linked_from c.as_slice.result.now c.index-head.result.now) y =
    ap (λ (l : List ℕ). occurrences l y) is in
    let counted = state.counted y (omega (arith, lt, c.loop-x.invariant.size)) in
    let left : In x state.left =
    state.free_left x (subst (λ (l : List ℕ). In x l) (sym c.in-Some.ensures.first) (inl refl)) in
    omega (arith, counted, same, term_le (λ z. edges lists z y) state.left x left)

pub loop-x-smaller : goal.loop-x-smaller
loop-x-smaller c =
    let n : ℕ = length c.args.graph.now.elements in
    let E : ℕ → ℕ → ℕ = edges (lists_in c.args.successors) in
    let state :
    InTurn E n c.loop-x.taken.items (c.in-Some.x ∷ c.take_least.new.free.keys) c.loop-x.indegrees.items =
    subst (λ free. InTurn E n c.loop-x.taken.items free c.loop-x.indegrees.items) c.in-Some.ensures.first
    c.loop-x.invariant.state in
    omega (
      arith,
      less_taken E n c.loop-x.taken.items c.take_least.new.free.keys c.loop-x.indegrees.items c.in-Some.x
          state,
      ap (λ (l : List ℕ). length l) c.in_ok-push.ensures.items,
      length-append {A = ℕ},
    )

pub loop-x-preserved : goal.loop-x-preserved
loop-x-preserved c =
    let n : ℕ = length c.args.graph.now.elements in
    let E : ℕ → ℕ → ℕ = edges (lists_in c.args.successors) in
    let x : ℕ = c.in-Some.x in
    let taken : List ℕ = c.loop-x.taken.items in
    let free : List ℕ = c.take_least.new.free.keys in
    let more : List ℕ = c.remove_edges.new.free.keys in
    let degrees : List ℕ = c.loop-x.indegrees.items in
    let lowered : List ℕ = c.remove_edges.new.indegrees.items in
    let size : vec_len c.loop-x.indegrees ≡ n = c.loop-x.invariant.size in
    let made = c.in_ok-remove_edges.ensures in
    let is : row (lists_in c.args.successors) x ≡ linked_from c.as_slice.result.now c.index-head.result.now =
    entries n c.args.successors.edges.items c.args.successors.heads.items taken c.loop-x.free.keys free
    degrees x c.loop-x.invariant.state c.in-Some.ensures.first c.as_slice.result.now c.index-head.result.now
    (omega (arith, c.requires.count, c.args.successors.heads.ok)) c.as_slice.ensures.value
    c.index-head.ensures in
    let state : InTurn E n taken (x ∷ free) degrees =
    subst (λ l. InTurn E n taken l degrees) c.in-Some.ensures.first c.loop-x.invariant.state in
    let removed : AreRemoved E n x degrees free lowered more = record {
      lowered_by = λ y lt. ap (λ (l : List ℕ). get_or lowered y 0 + occurrences l y) is
          ∙ made.lowered y (omega arith);
      stays_free = λ z i. In-from_Contains more z ((made.free z).1 (inl (Contains-from_In free z i)));
      gets_free = λ z lt some none. In-from_Contains more z ((made.free z).1 (inr (omega arith, some, none)));
      only_free = λ z i. elim ((made.free z).0 (Contains-from_In more z i)) [
        | inl j ↦ inl (In-from_Contains free z j)
        | inr g ↦ inr (omega (arith, g.0), g.1, g.2)
      ];
    } in
    record {
      size = made.size ∙ size;
      state = subst (λ l. InTurn E n l more lowered) (sym c.in_ok-push.ensures.items)
          (next E n taken free degrees x lowered more state
          (λ z i. All-member (λ w. x < w) free z c.in-Some.ensures.least i) removed);
    }

pub returns-clause-taken : goal.returns-clause-taken
returns-clause-taken c =
    let n : ℕ = length c.args.graph.now.elements in
    let E : ℕ → ℕ → ℕ = edges (lists_in c.args.successors) in
    let taken : List ℕ = c.loop-x.taken.items in
    let degrees : List ℕ = c.loop-x.indegrees.items in
    let state = c.loop-x.invariant.state in
    let proper = c.elements.ensures.proper in
    let none : c.loop-x.free.keys ≡ [] = c.in_default.ensures.none in
    let end : InTurn E n taken [] degrees = subst (λ free. InTurn E n taken free degrees) none state in
    record {
      known = All-from_members (λ x. x < n) taken state.taken_below;
      all = λ e. least_from_first c.args.graph.now proper (lists_in c.args.successors)
          c.requires.successors taken state.taken_below
          (ends_first E n taken c.loop-x.free.keys degrees state e);
      some = λ some. none_from_closed c.args.graph.now proper
          (lists_in c.args.successors) c.requires.successors (ends_closed E n taken degrees end some);
      after = taken_in_turn c.args.graph.now proper (lists_in c.args.successors) c.requires.successors
          taken c.loop-x.free.keys degrees state;
      others =
          others_led c.args.graph.now proper (lists_in c.args.successors) c.requires.successors taken
          degrees end;
    }

pub returns-clause-edges : goal.returns-clause-edges
returns-clause-edges c = record {
  successors = c.requires.successors;
  count = c.requires.count;
  falling = c.requires.kept.falling;
  within = c.requires.kept.within;
}
