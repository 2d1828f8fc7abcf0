-- Where a search by levels is between two layers: what each level holds, and what walks reach.
use Rattle.std.proofs.Common.{◌≡◌, ℕ, zero, suc, ◌+◌, ◌<◌, ◌≤◌, slice_index, sym, ◌∙◌, subst, arith, inl, inr}
use Rattle.std.proofs.Common.{add-one}
use Rattle.std.proofs.lemmas.Bool.{cases_lt}
use Rattle.list_search.specs.Graph.{Graph, Before}
use Rattle.list_search.specs.Progress.{FollowsLayer, Grows, IsExpanded, IsGood, IsReached}
use Rattle.list_search.specs.Readings.{NothingLeftAfter}
use Rattle.list_search.specs.Walks.{Walk}
use Rattle.list_search.specs.declared.searching.state.State.{State}
use Rattle.list_search.proofs.Growth.{still_expanded}

-- the queue before `head` is expanded, and the rest of it is the layer of this level
pub record IsLevelled (g : Graph) (s : ℕ) (st : State) (head level : ℕ) : Type 0 where
  pub good : IsGood g s st
  pub first : slice_index st.queue.items 0 ≡ s
  pub some : 0 < st.tail
  pub head_in : head ≤ st.tail
  pub level_in : level ≤ head
  pub done : (k : ℕ) → k < head → IsExpanded g.rows st.marks.items (slice_index st.queue.items k)
  pub walks : (k : ℕ) → head ≤ k → k < st.tail → Walk g.rows s level (slice_index st.queue.items k)
  pub short : (k : ℕ) → k < head → (m : ℕ) × (m < level) × Walk g.rows s m (slice_index st.queue.items k)
  pub near : (n x : ℕ) → n < level → Walk g.rows s n x → IsExpanded g.rows st.marks.items x

-- what stands after an expanded element is reached
pub after_expanded : (g : Graph) (s : ℕ) (st : State) → IsGood g s st → (c x : ℕ)
    → IsExpanded g.rows st.marks.items c → Before g.rows c x → IsReached st.queue.items st.tail x
after_expanded g s st good c x expanded leads =
    good.covered leads.list leads.later x (let h = expanded leads.list leads.place leads.first in
    let k = leads.in_order in omega arith) leads.second

-- a walk of at most `level` steps ends at an element that is reached
pub walk_reached : (g : Graph) (s head level : ℕ) (st : State) → IsLevelled g s st head level → (n x : ℕ)
    → n ≤ level → Walk g.rows s n x → IsReached st.queue.items st.tail x
walk_reached g s head level st at zero x h walk =
    record { at = 0; early = at.some; here = at.first ∙ sym walk }
walk_reached g s head level st at (suc n) x h walk =
    after_expanded g s st at.good walk.0 x (at.near n walk.0 (omega arith) walk.1) walk.2

-- where the layer is empty every walk ends at an expanded element
reached_expanded : (g : Graph) (s head level : ℕ) (st : State) → IsLevelled g s st head level → st.tail ≤ head
    → (x : ℕ) → IsReached st.queue.items st.tail x → IsExpanded g.rows st.marks.items x
reached_expanded g s head level st at empty x reached =
    subst (λ y. IsExpanded g.rows st.marks.items y) reached.here
    (at.done reached.at (let h = reached.early in omega arith))

pub every_walk_reached : (g : Graph) (s head level : ℕ) (st : State) → IsLevelled g s st head level
    → st.tail ≤ head → (n x : ℕ) → Walk g.rows s n x → IsReached st.queue.items st.tail x
every_walk_reached g s head level st at empty zero x walk =
    record { at = 0; early = at.some; here = at.first ∙ sym walk }
every_walk_reached g s head level st at empty (suc n) x walk =
    after_expanded g s st at.good walk.0 x
    (reached_expanded g s head level st at empty walk.0
    (every_walk_reached g s head level st at empty n walk.0 walk.1)) walk.2

pub walk_expanded : (g : Graph) (s head level : ℕ) (st : State) → IsLevelled g s st head level
    → st.tail ≤ head → (n x : ℕ) → Walk g.rows s n x → IsExpanded g.rows st.marks.items x
walk_expanded g s head level st at empty n x walk =
    reached_expanded g s head level st at empty x (every_walk_reached g s head level st at empty n x walk)

-- and fewer steps than the level lead there
pub nothing_left : (g : Graph) (s head level : ℕ) (st : State) → IsLevelled g s st head level → st.tail ≤ head
    → NothingLeftAfter g.rows s level
nothing_left g s head level st at empty n x walk =
    let reached = every_walk_reached g s head level st at empty n x walk in
    subst (λ y. (m : ℕ) × (m < level) × Walk g.rows s m y) reached.here
    (at.short reached.at (let h = reached.early in omega arith))

-- what follows the layer has a walk of one step more
pub walk_follows : (g : Graph) (s head level x : ℕ) (st : State) → IsLevelled g s st head level
    → FollowsLayer g.rows st.queue.items head st.tail x → Walk g.rows s (level + 1) x
walk_follows g s head level x st at leads =
    subst (λ n. Walk g.rows s n x) (sym (add-one level)) (
      slice_index st.queue.items leads.at,
      at.walks leads.at leads.from leads.to,
      leads.before,
    )

-- the next level
pub levelled_next : (g : Graph) (s head level : ℕ) (a b : State) → IsLevelled g s a head level → head < a.tail
    → IsGood g s b → Grows (FollowsLayer g.rows a.queue.items head a.tail) s a b
    → ((k : ℕ) → head ≤ k → k < a.tail → IsExpanded g.rows b.marks.items (slice_index b.queue.items k))
    → IsLevelled g s b a.tail (level + 1)
levelled_next g s head level a b at some good grows expanded =
    let P : ℕ → Type 0 = FollowsLayer g.rows a.queue.items head a.tail in
    let done : (k : ℕ) → k < a.tail → IsExpanded g.rows b.marks.items (slice_index b.queue.items k) =
    λ k h. elim (cases_lt k head) [
      | inl early ↦ subst (λ y. IsExpanded g.rows b.marks.items y) (sym (grows.kept k h))
          (still_expanded P s a b g.rows (slice_index a.queue.items k) grows (at.done k early))
      | inr late ↦ expanded k late h
    ] in
    record {
      good = good;
      first = grows.kept 0 at.some ∙ at.first;
      some = let h = at.some in let k = grows.tail in omega arith;
      head_in = grows.tail;
      level_in = let h = at.level_in in omega arith;
      done = done;
      walks = λ k low high. walk_follows g s head level (slice_index b.queue.items k) a at
          (grows.fresh k low high);
      short = λ k h. subst (λ y. (m : ℕ) × (m < level + 1) × Walk g.rows s m y) (sym (grows.kept k h))
          (elim (cases_lt k head) [
            | inl early ↦ let m = at.short k early in (m.0, (let lt = m.1 in omega arith), m.2)
            | inr late ↦ (level, omega arith, at.walks k late h)
          ]);
      near = λ n x h walk.
          let reached = walk_reached g s head level a at n x (omega arith) walk in
          let early : reached.at < a.tail = reached.early in
          subst (λ y. IsExpanded g.rows b.marks.items y) (grows.kept reached.at early ∙ reached.here)
          (done reached.at early);
    }
