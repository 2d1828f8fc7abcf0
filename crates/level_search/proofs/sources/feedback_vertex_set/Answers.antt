-- Each cycle leads through an element that the order leaves out.
use Rattle.std.proofs.Common.{◌≡◌, ℕ, ◌<◌, inl, inr, List, length, slice_index, refl, sym, subst, arith}
use Rattle.std.proofs.Common.{◌∙◌, ap}
use Rattle.std.specs.Prelude.{Contains}
use Rattle.std.proofs.lemmas.Bool.{cases_lt}
use Rattle.std.proofs.lemmas.List.{get_or_past}
use Rattle.std.proofs.lemmas.Result.{IfOk-weaker}
use Rattle.specification.specs.Responses.{Responses}
use Rattle.order_graph.specs.Lists.{lists_of}
use Rattle.level_search.specs.Sources.{UNRANKED, MeetsCycles, Rises}
use Rattle.list_search.proofs.Firsts.{reaches_walk}
use Rattle.level_search.proofs.Rising.{cycle-leaves_out}
use Rattle.level_search.proofs.Teams.{written}
use Rattle.level_search.proofs.sources.feedback_vertex_set.Goals as goal

-- an element without a rank is one of them
ranks-within : (ranks : List ℕ) (t : ℕ) → slice_index ranks t ≡ UNRANKED → t < length ranks
ranks-within ranks t out = elim (cases_lt t (length ranks)) [
  | inl lt ↦ lt
  | inr past ↦ absurd (let none : slice_index ranks t ≡ 0 = get_or_past ranks t 0 past in omega arith)
]

left-out_meet : (rows : List (List ℕ)) (made ranks sources : List ℕ) (elements : ℕ) → ranks ≡ made
    → ((l : ℕ) → Rises rows made l)
    → ((x : ℕ) → x < length ranks → slice_index ranks x ≡ UNRANKED → Contains sources x)
    → MeetsCycles rows elements sources
left-out_meet rows made ranks sources elements same rise all = λ s n known cycle.
    let found =
    cycle-leaves_out rows ranks (λ l. subst (λ (r : List ℕ). Rises rows r l) (sym same) (rise l)) s n
    cycle in
    (found.0, all found.0 (ranks-within ranks found.0 found.1) found.1, found.2, found.3)

pub returns-clause-met : goal.returns-clause-met
returns-clause-met c =
    let v : Responses = c.args.graph.now in
    let risen : List ℕ = c.rise_along.new.ranks in
    let many : length risen ≡ length c.in_ok-ranks.ranks.items =
    c.rise_along.ensures.count ∙ ap length c.as_mut_slice.ensures.value in
    let same = c.deref-2.ensures.value
    ∙ written c.in_ok-ranks.ranks.len c.in_ok-ranks.ranks.items risen many
    (omega (arith, c.in_ok-ranks.ranks.ok.0)) in
    IfOk-weaker c.unranked.result _ _
    (λ sources all. left-out_meet (lists_of v) risen c.deref-2.result.now sources.items (length v.elements)
    same c.rise_along.ensures.rise all)
    c.unranked.ensures.all

-- where all elements are sources, each is its own
pub returns-then-elements-le-FEW-clause-met : goal.returns-then-elements-le-FEW-clause-met
returns-then-elements-le-FEW-clause-met c =
    IfOk-weaker c.all_elements.result _ _
    (λ sources all. λ s n known cycle. (
      s,
      all s known,
      cycle,
      (0, n, omega arith, refl, reaches_walk (lists_of c.args.graph.now) s n s cycle.1),
    ))
    c.all_elements.ensures.all
