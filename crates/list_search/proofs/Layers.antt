-- Where a search for a cycle is between two layers, and what follows from it.
use Rattle.std.proofs.Common.{◌≡◌, ℕ, zero, suc, ◌+◌, ◌<◌, ◌≤◌, true, false, slice_index, arith, inl, inr}
use Rattle.std.proofs.lemmas.Bool.{cases_lt}
use Rattle.list_search.specs.Graph.{Graph, Before}
use Rattle.list_search.specs.Progress.{FollowsLayer, Grows, IsExpanded, IsGood}
use Rattle.list_search.specs.Walks.{HasCycle}
use Rattle.list_search.specs.declared.searching.state.State.{State}
use Rattle.list_search.proofs.Levelled.{IsLevelled, walk_expanded, walk_follows, levelled_next}

-- the search is at this level, and s was not reached again
pub record IsLayered (g : Graph) (s : ℕ) (st : State) (head level : ℕ) : Type 0 where
  pub levelled : IsLevelled g s st head level
  pub unfound : st.found ≡ false

-- what stands after an expanded element is not s
pub source_not_after : (g : Graph) (s : ℕ) (st : State) → IsGood g s st → st.found ≡ false → (c : ℕ)
    → IsExpanded g.rows st.marks.items c → ¬ Before g.rows c s
source_not_after g s st good unfound c expanded leads =
    good.unfound unfound leads.list leads.later (let h = expanded leads.list leads.place leads.first in
    let k = leads.in_order in omega arith) leads.second

-- no cycle through s is as short as the level
pub cycle_long : (g : Graph) (s head level : ℕ) (st : State) → IsLayered g s st head level → (n : ℕ)
    → HasCycle g.rows s n → level + 1 ≤ n
cycle_long g s head level st at zero cycle = absurd (let h = cycle.0 in omega arith)
cycle_long g s head level st at (suc n) cycle = elim (cases_lt n level) [
  | inl early ↦
      absurd (source_not_after g s st at.levelled.good at.unfound cycle.1.0
      (at.levelled.near n cycle.1.0 early cycle.1.1) cycle.1.2)
  | inr late ↦ omega arith
]

pub no_cycle : (g : Graph) (s head level : ℕ) (st : State) → IsLayered g s st head level → st.tail ≤ head
    → (n : ℕ) → ¬ HasCycle g.rows s n
no_cycle g s head level st at empty zero cycle = let h = cycle.0 in omega arith
no_cycle g s head level st at empty (suc n) cycle =
    source_not_after g s st at.levelled.good at.unfound cycle.1.0
    (walk_expanded g s head level st at.levelled empty n cycle.1.0 cycle.1.1) cycle.1.2

pub cycle_found : (g : Graph) (s head level : ℕ) (a b : State) → IsLayered g s a head level
    → Grows (FollowsLayer g.rows a.queue.items head a.tail) s a b → b.found ≡ true
    → HasCycle g.rows s (level + 1)
cycle_found g s head level a b at grows found = elim (grows.found found) [
  | inl old ↦ absurd (let h = at.unfound in cc)
  | inr leads ↦ (omega arith, walk_follows g s head level s a at.levelled leads)
]

-- the next layer
pub layered_next : (g : Graph) (s head level : ℕ) (a b : State) → IsLayered g s a head level → head < a.tail
    → IsGood g s b → Grows (FollowsLayer g.rows a.queue.items head a.tail) s a b
    → ((k : ℕ) → head ≤ k → k < a.tail → IsExpanded g.rows b.marks.items (slice_index b.queue.items k))
    → b.found ≡ false → IsLayered g s b a.tail (level + 1)
layered_next g s head level a b at some good grows expanded unfound =
    record {
      levelled = levelled_next g s head level a b at.levelled some good grows expanded;
      unfound = unfound;
    }
