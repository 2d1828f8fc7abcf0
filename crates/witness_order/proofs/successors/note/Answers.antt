-- One edge more.
use Rattle.std.proofs.Common.{◌≡◌, ℕ, ◌+◌, ◌-◌, ◌<◌, ◌⊎◌, List, [], ◌∷◌, ◌++◌, length, get_or, set, refl, sym}
use Rattle.std.proofs.Common.{◌∙◌, ap, subst, arith, length-append}
use Rattle.std.specs.Prelude.{◌↔◌, Contains}
use Rattle.std.proofs.lemmas.Grind.{get_or_default_zero}
use Rattle.order_graph.specs.Lists.{row}
use Rattle.witness_order.specs.declared.successors.Edge.{Edge}
use Rattle.witness_order.specs.Edges.{edge_at, linked_lists, AreLinked}
use Rattle.witness_order.proofs.Linked.{listed-again, listed-more, linked-more}
use Rattle.witness_order.proofs.successors.note.Goals as goal

-- what is written is what was read
module _ (es new : List Edge) (hs ds : List ℕ) (x y head number count : ℕ) (from : x < length hs)
    (to : y < length hs) (kept : AreLinked es hs ds) (is : head ≡ get_or hs x head)
    (pushed : new ≡ es ++ (record { to = y; next = head }) ∷ []) (long : number ≡ length new) where
  head_is : head ≡ get_or hs x 0
  head_is = is ∙ get_or_default_zero hs x head from

  number_is : number ≡ length es + 1
  number_is =
      let e : Edge = record { to = y; next = head } in
      omega (arith, long, ap (λ (l : List Edge). length l) pushed, length-append es (e ∷ []))

  linked : count ≡ get_or ds y count → AreLinked new (set hs x number) (set ds y (count + 1))
  linked counted =
      let e : Edge = record { to = y; next = head } in
      let known : y < length ds = omega (arith, to, kept.size) in
      let count_is : count ≡ get_or ds y 0 = counted ∙ get_or_default_zero ds y count known in
      subst (λ (l : List Edge). AreLinked l (set hs x number) (set ds y (count + 1))) (sym pushed)
      (subst (λ n. AreLinked (es ++ e ∷ []) (set hs x n) (set ds y (count + 1))) (sym number_is)
      (subst (λ n. AreLinked (es ++ e ∷ []) (set hs x (length es + 1)) (set ds y (n + 1))) (sym count_is)
      (linked-more es e hs ds x from to head_is kept)))

  listed : (z w : ℕ) → Contains (row (linked_lists new (set hs x number)) z) w
      ↔ (Contains (row (linked_lists es hs) z) w ⊎ ((z ≡ x) × (w ≡ y)))
  listed z w =
      let e : Edge = record { to = y; next = head } in
      let Old : Type 0 = Contains (row (linked_lists es hs) z) w ⊎ ((z ≡ x) × (w ≡ y)) in
      subst (λ (l : List Edge). Contains (row (linked_lists l (set hs x number)) z) w ↔ Old) (sym pushed)
      (subst (λ n. Contains (row (linked_lists (es ++ e ∷ []) (set hs x n)) z) w ↔ Old) (sym number_is)
      (listed-more es e hs ds x from to head_is kept z w))

pub returns-then-leads_to-clause-listed : goal.returns-then-leads_to-clause-listed
returns-then-leads_to-clause-listed c =
    let es : List Edge = c.args.successors.now.edges.items in
    let hs : List ℕ = c.args.successors.now.heads.items in
    let ds : List ℕ = c.args.successors.now.indegrees.items in
    let x : ℕ = c.args.x in
    let y : ℕ = c.args.y in
    let head : ℕ = c.index-head.result.now in
    let from : x < length hs = omega (arith, c.requires.from, c.args.successors.now.heads.ok) in
    let is : head ≡ get_or hs x 0 = c.index-head.ensures ∙ get_or_default_zero hs x head from in
    let last = c.if-leads_to.ensures.0 refl in
    listed-again es hs ds x y c.requires.kept (omega (arith, last.0, is))
    (subst (λ k. (edge_at es (k - 1)).to ≡ y) is
    (subst (λ (l : List Edge). (edge_at l (head - 1)).to ≡ y) c.as_slice.ensures.value last.1))

pub overflow_add-index_mut : goal.overflow_add-index_mut
overflow_add-index_mut c =
    let ds : List ℕ = c.args.successors.now.indegrees.items in
    let y : ℕ = c.args.y in
    let count : ℕ = c.index_mut-2.result.now in
    let kept = c.requires.kept in
    let known : y < length ds =
    omega (arith, c.requires.to, kept.size, c.args.successors.now.heads.ok) in
    let is : count ≡ get_or ds y 0 = c.index_mut-2.ensures.value ∙ get_or_default_zero ds y count known in
    omega (arith, is, kept.few y, c.requires.room, c.args.successors.now.edges.ok)

pub returns-clause-kept : goal.returns-clause-kept
returns-clause-kept c =
    linked c.args.successors.now.edges.items c.push.new.self.items c.args.successors.now.heads.items
    c.args.successors.now.indegrees.items c.args.x c.args.y c.index-head.result.now c.len.result
    c.index_mut-2.result.now
    (omega (arith, c.requires.from, c.args.successors.now.heads.ok))
    (omega (arith, c.requires.to, c.args.successors.now.heads.ok))
    c.requires.kept c.index-head.ensures c.in_ok-push.ensures.items
    (omega (arith, c.len.ensures, c.push.new.self.ok))
    c.index_mut-2.ensures.value

pub returns-clause-listed : goal.returns-clause-listed
returns-clause-listed c =
    listed c.args.successors.now.edges.items c.push.new.self.items c.args.successors.now.heads.items
    c.args.successors.now.indegrees.items c.args.x c.args.y c.index-head.result.now c.len.result
    c.index_mut-2.result.now
    (omega (arith, c.requires.from, c.args.successors.now.heads.ok))
    (omega (arith, c.requires.to, c.args.successors.now.heads.ok))
    c.requires.kept c.index-head.ensures c.in_ok-push.ensures.items
    (omega (arith, c.len.ensures, c.push.new.self.ok))
