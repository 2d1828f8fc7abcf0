-- Where a search for distances is between two layers: what is noted are the least numbers of steps up to its
-- level.
use Rattle.std.proofs.Common.{◌≡◌, ℕ, ◌+◌, ◌<◌, ◌≤◌, ◌⊎◌, List, length, slice_index, sym, ◌∙◌, subst, arith}
use Rattle.std.proofs.Common.{inl, inr}
use Rattle.std.proofs.lemmas.Bool.{cases_lt}
use Rattle.list_search.specs.Distances.{AreReached, IsDistanceBelow, IsAmong}
use Rattle.list_search.specs.Graph.{Graph}
use Rattle.list_search.specs.Progress.{IsReached}
use Rattle.list_search.specs.Walks.{Walk}
use Rattle.list_search.specs.declared.searching.state.State.{State}
use Rattle.list_search.proofs.Levelled.{IsLevelled, walk_reached, every_walk_reached}

pub record IsNoted (g : Graph) (s limit level : ℕ) (st : State) (depths : List ℕ) : Type 0 where
  pub count : length depths ≡ g.elements
  pub most : (x : ℕ) → x < g.elements → slice_index depths x ≤ limit
  pub walk : (x : ℕ) → x < g.elements → slice_index depths x < limit → Walk g.rows s (slice_index depths x) x
  pub reached : (k : ℕ) → k < st.tail → slice_index depths (slice_index st.queue.items k) ≤ level
  pub near : (n x : ℕ) → n ≤ level → Walk g.rows s n x → slice_index depths x ≤ n

-- what is noted of the reached elements bounds the walks of this level
deep : (g : Graph) (s level : ℕ) (st : State) (depths : List ℕ)
    → ((k : ℕ) → k < st.tail → slice_index depths (slice_index st.queue.items k) ≤ level)
    → (x : ℕ) → IsReached st.queue.items st.tail x → slice_index depths x ≤ level
deep g s level st depths reached x at =
    subst (λ y. slice_index depths y ≤ level) at.here (reached at.at at.early)

-- the next layer is noted
pub noted_next : (g : Graph) (s limit head level : ℕ) (a b : State) (old new : List ℕ)
    → IsLevelled g s b head (level + 1) → IsNoted g s limit level a old
    → a.tail ≤ head → head ≤ a.tail
    → ((k : ℕ) → k < a.tail → slice_index b.queue.items k ≡ slice_index a.queue.items k)
    → length new ≡ length old
    → ((x : ℕ) → slice_index new x ≤ slice_index old x)
    → ((k : ℕ) → head ≤ k → k < b.tail → slice_index new (slice_index b.queue.items k) ≤ level + 1)
    → ((x : ℕ) → (slice_index new x ≡ slice_index old x)
    ⊎ ((slice_index new x ≡ level + 1) × IsAmong b.queue.items head b.tail x))
    → IsNoted g s limit (level + 1) b new
noted_next g s limit head level a b old new levelled noted low high kept count falls here others = record {
  count = count ∙ noted.count;
  most = λ x known. let h = falls x in let k = noted.most x known in omega arith;
  walk = λ x known below. elim (others x) [
    | inl same ↦ subst (λ d. Walk g.rows s d x) (sym same) (noted.walk x known (omega (arith, same)))
    | inr now ↦
        subst (λ d. Walk g.rows s d x) (sym now.0)
        (subst (λ y. Walk g.rows s (level + 1) y) now.1.here (levelled.walks now.1.at now.1.from now.1.to))
  ];
  reached = reached;
  near = λ n x le w. elim (cases_lt n (level + 1)) [
    | inl early ↦ (let h = falls x in let k = noted.near n x (omega arith) w in omega arith)
    | inr late ↦
        (let h =
        deep g s (level + 1) b new reached x (walk_reached g s head (level + 1) b levelled n x le w) in
        omega arith)
  ];
}
  where
    reached : (k : ℕ) → k < b.tail → slice_index new (slice_index b.queue.items k) ≤ level + 1
    reached k lt = elim (cases_lt k a.tail) [
      | inl early ↦ (let x : ℕ = slice_index b.queue.items k in
          let was : slice_index old x ≤ level =
          subst (λ y. slice_index old y ≤ level) (sym (kept k early)) (noted.reached k early) in
          let h : slice_index new x ≤ slice_index old x = falls x in
          omega arith)
      | inr late ↦ here k (omega arith) lt
    ]

-- at the limit, and where a layer is empty
pub noted-limit : (g : Graph) (s limit level : ℕ) (st : State) (depths : List ℕ)
    → IsNoted g s limit level st depths → limit ≤ level + 1
    → (x : ℕ) → x < length depths → IsDistanceBelow g.rows s limit x (slice_index depths x)
noted-limit g s limit level st depths noted end x inside =
    let known : x < g.elements = omega (arith, noted.count) in
    record {
      within = noted.most x known;
      walk = noted.walk x known;
      least = λ n w. elim (cases_lt level n) [
        | inl above ↦ (let h = noted.most x known in omega arith)
        | inr below ↦ noted.near n x below w
      ];
    }

pub noted-all : (g : Graph) (s limit head level : ℕ) (st : State) (depths : List ℕ)
    → IsLevelled g s st head level → IsNoted g s limit level st depths → st.tail ≤ head
    → (x : ℕ) → x < length depths → IsDistanceBelow g.rows s limit x (slice_index depths x)
noted-all g s limit head level st depths levelled noted empty x inside =
    let known : x < g.elements = omega (arith, noted.count) in
    record {
      within = noted.most x known;
      walk = noted.walk x known;
      least = λ n w. elim (cases_lt level n) [
        | inl above ↦
            (let h =
            deep g s level st depths noted.reached x
            (every_walk_reached g s head level st levelled empty n x w) in omega arith)
        | inr below ↦ noted.near n x below w
      ];
    }

-- what the next layer notes is among what is reached then
pub reached_next : (limit level : ℕ) (old new queue queue' : List ℕ) (tail tail' : ℕ)
    → ((k : ℕ) → k < tail → slice_index queue' k ≡ slice_index queue k) → tail ≤ tail'
    → AreReached limit old queue tail → length new ≡ length old
    → ((x : ℕ) → (slice_index new x ≡ slice_index old x)
    ⊎ ((slice_index new x ≡ level) × IsAmong queue' tail tail' x))
    → AreReached limit new queue' tail'
reached_next limit level old new queue queue' tail tail' kept more reached count others x inside =
    elim (others x) [
      | inl same ↦ elim (reached x (omega arith)) [
        | inl at ↦ inl (same ∙ at)
        | inr among ↦
            let early = among.to in
            inr (record {
              at = among.at;
              from = among.from;
              to = omega arith;
              here = kept among.at among.to ∙ among.here;
            })
      ]
      | inr now ↦ inr (record {
        at = now.1.at;
        from = omega arith;
        to = now.1.to;
        here = now.1.here;
      })
    ]
