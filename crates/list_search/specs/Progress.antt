-- What holds of a search on its way, and what a part of it does.
use Rattle.std.specs.Prelude.{◌≡◌, ℕ, ◌+◌, ◌<◌, ◌≤◌, ◌⊎◌, true, false, not, List, length, slice_index}
use Rattle.std.specs.Prelude.{slice_index_or, count_by, vec_len}
use Rattle.order_graph.specs.Lists.{row, Stands, ticked}
use Rattle.list_search.specs.Graph.{Graph, Before}
use Rattle.list_search.specs.declared.searching.state.State.{State}

-- x is among the first `tail` of the queue
pub record IsReached (queue : List ℕ) (tail x : ℕ) : Type 0 where
  pub at : ℕ
  pub early : at < tail
  pub here : slice_index queue at ≡ x

-- the queue holds what is seen, and has a free place for each element that is not
pub record IsQueued (st : State) : Type 0 where
  pub queue_len : vec_len st.queue ≡ vec_len st.seen
  pub room : st.tail + count_by not st.seen.items ≡ vec_len st.queue
  pub seen : (x : ℕ) → slice_index_or st.seen.items x false ≡ true → IsReached st.queue.items st.tail x

-- the queue still holds what is seen, of as many elements
abbrev pub StaysQueued : State → State → Type 0
StaysQueued old new = IsQueued new × (vec_len new.seen ≡ vec_len old.seen)

-- the state has a mark for each list, and place for each element
pub record FitsState (g : Graph) (st : State) : Type 0 where
  pub marks_len : vec_len st.marks ≡ length g.rows
  pub seen_len : vec_len st.seen ≡ g.elements
  pub queue_len : vec_len st.queue ≡ g.elements

-- the places from a list's mark on have been read
pub record IsGood (g : Graph) (s : ℕ) (st : State) : Type 0 where
  pub fits : FitsState g st
  pub queued : IsQueued st
  pub known : (k : ℕ) → k < st.tail → slice_index st.queue.items k < g.elements
  pub marks_in : (l : ℕ) → slice_index st.marks.items l ≤ length (row g.rows l)
  pub covered : (l j x : ℕ) → slice_index st.marks.items l ≤ j → Stands g.rows l j x
      → IsReached st.queue.items st.tail x
  pub unfound : st.found ≡ false → (l j : ℕ) → slice_index st.marks.items l ≤ j → ¬ Stands g.rows l j s

-- the search went on, and each element that it reached, s too, meets P
pub record Grows (P : ℕ → Type 0) (s : ℕ) (old new : State) : Type 0 where
  pub tail : old.tail ≤ new.tail
  pub kept : (k : ℕ) → k < old.tail → slice_index new.queue.items k ≡ slice_index old.queue.items k
  pub fresh : (k : ℕ) → old.tail ≤ k → k < new.tail → P (slice_index new.queue.items k)
  pub found : new.found ≡ true → (old.found ≡ true) ⊎ P s
  pub stays : old.found ≡ true → new.found ≡ true
  pub marks : (l : ℕ) → slice_index new.marks.items l ≤ slice_index old.marks.items l

-- from `before` steps to `after`: none is taken back, and what was reached cost one
pub record Works (old new : State) (before after : ℕ) : Type 0 where
  pub forward : before ≤ after
  pub reach : old.tail < new.tail → ticked before ≤ after
  pub found : old.found ≡ false → new.found ≡ true → ticked before ≤ after

-- x stands in this list at a later place than p
pub record IsAfter (rows : List (List ℕ)) (l p x : ℕ) : Type 0 where
  pub later : ℕ
  pub in_order : p < later
  pub stands : Stands rows l later x

-- every place where x stands is expanded
abbrev pub IsExpanded : List (List ℕ) → List ℕ → ℕ → Type 0
IsExpanded rows marks x = (l p : ℕ) → Stands rows l p x → slice_index marks l ≤ p + 1

-- some element of this layer stands before x
pub record FollowsLayer (rows : List (List ℕ)) (queue : List ℕ) (head end x : ℕ) : Type 0 where
  pub at : ℕ
  pub from : head ≤ at
  pub to : at < end
  pub before : Before rows (slice_index queue at) x
