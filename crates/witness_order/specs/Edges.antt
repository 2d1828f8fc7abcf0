-- What stands right after each element, and the edges of a graph that this makes: one from an element to each
-- of its successors, as often as it is listed.
use Rattle.std.specs.Prelude.{◌≡◌, ℕ, zero, suc, ◌+◌, ◌<◌, ◌≤◌, ◌==◌, ◌↔◌, if◌then◌else◌, List, [], ◌∷◌}
use Rattle.std.specs.Prelude.{All, Contains, map, length, sum_by, count_by, slice_index, slice_index_or, vec_len}
use Rattle.std.specs.List.{range_with_len}
use Rattle.order_graph.specs.Lists.{row, Stands}
use Rattle.witness_order.specs.declared.successors.Edge.{Edge}
use Rattle.witness_order.specs.declared.successors.Successors.{Successors}

-- the edge at this place, from 0
abbrev pub edge_at : List Edge → ℕ → Edge
edge_at edges i = slice_index_or edges i (record { to = 0; next = 0 })

-- Where the edges of a linked list lead, of the first n edges: the one with this number, and then those that
-- it goes on with. Numbers begin at 1; 0 is the number of none.
abbrev pub linked : List Edge → ℕ → ℕ → List ℕ
linked edges zero number = []
linked edges (suc n) number =
    (if number == suc n then (edge_at edges n).to ∷ linked edges n (edge_at edges n).next else linked edges n
    number)

-- where they lead, of all edges
abbrev pub linked_from : List Edge → ℕ → List ℕ
linked_from edges number = linked edges (length edges) number

-- the linked lists with these heads
abbrev pub linked_lists : List Edge → List ℕ → List (List ℕ)
linked_lists edges heads = map (linked_from edges) heads

-- the linked list of each element
abbrev pub lists_in : Successors → List (List ℕ)
lists_in s = linked_lists s.edges.items s.heads.items

-- y stands right after x in this list
pub record IsNext (list : List ℕ) (x y : ℕ) : Type 0 where
  pub place : ℕ
  pub within : place + 1 < length list
  pub first : slice_index list place ≡ x
  pub second : slice_index list (place + 1) ≡ y

-- y stands right after x in one of the lists
pub record AreNeighbours (rows : List (List ℕ)) (x y : ℕ) : Type 0 where
  pub list : ℕ
  pub place : ℕ
  pub first : Stands rows list place x
  pub second : Stands rows list (place + 1) y

-- for each of n elements, what stands right after it in one of the lists, and nothing else
pub record AreSuccessors (rows : List (List ℕ)) (n : ℕ) (successors : List (List ℕ)) : Type 0 where
  pub size : length successors ≡ n
  pub known : (x : ℕ) → All (λ y. y < n) (row successors x)
  pub listed : (x y : ℕ) → Contains (row successors x) y ↔ AreNeighbours rows x y

-- how often y is in a list
abbrev pub occurrences : List ℕ → ℕ → ℕ
occurrences list y = count_by (λ z. z == y) list

-- how often y is listed as a successor of x
abbrev pub edges : List (List ℕ) → ℕ → ℕ → ℕ
edges successors x y = occurrences (row successors x) y

-- how often y is listed as a successor of one of these
abbrev pub indegree : List (List ℕ) → List ℕ → ℕ → ℕ
indegree successors xs y = sum_by (λ x. edges successors x y) xs

-- each edge goes on with one that was listed before it, or with none
abbrev pub AreFalling : List Edge → Type 0
AreFalling edges = (i : ℕ) → i < length edges → (edge_at edges i).next ≤ i

-- Each head is the number of an edge, or 0, and each count is that of the edges that lead to an element.
pub record AreLinked (edges : List Edge) (heads indegrees : List ℕ) : Type 0 where
  pub size : length indegrees ≡ length heads
  pub falling : AreFalling edges
  pub within : (x : ℕ) → slice_index heads x ≤ length edges
  pub counted : (y : ℕ) → y < length heads → slice_index indegrees y
      ≡ indegree (linked_lists edges heads) (range_with_len 0 (length heads)) y
  pub few : (y : ℕ) → slice_index indegrees y ≤ length edges

-- the same of the edges of all elements
abbrev pub AreKept : Successors → Type 0
AreKept s = AreLinked s.edges.items s.heads.items s.indegrees.items

-- the edges between what stands side by side in these lists, of n elements; nothing is said of the counts
pub record AreEdgesOf (rows : List (List ℕ)) (n : ℕ) (s : Successors) : Type 0 where
  pub successors : AreSuccessors rows n (lists_in s)
  pub count : vec_len s.heads ≡ n
  pub falling : AreFalling s.edges.items
  pub within : (x : ℕ) → slice_index s.heads.items x ≤ length s.edges.items
