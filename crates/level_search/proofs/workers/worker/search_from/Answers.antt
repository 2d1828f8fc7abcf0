use Rattle.std.proofs.Common.{◌≡◌, ℕ, Some, None, List, [], ◌∷◌, ◌++◌, ap, sym, subst, ◌∙◌, arith, All}
use Rattle.std.proofs.lemmas.List.{append-nil}
use Rattle.std.proofs.lemmas.List.Elements.{All-push}
use Rattle.order_graph.specs.Lists.{lists_of}
use Rattle.shared_bound.specs.Seats.{SeatView}
use Rattle.level_search.specs.Team.{IsLength}
use Rattle.level_search.specs.declared.workers.worker.Worker.{Worker}
use Rattle.level_search.proofs.Counts.{looked-lower}
use Rattle.level_search.proofs.workers.worker.search_from.Goals as goal
use Rattle.level_search.proofs.workers.worker.search_from.Goals.{in-Some, in_default}

pub returns-clause-offers : goal.returns-clause-offers
returns-clause-offers g c =
    let P : ℕ → Type 0 = IsLength (lists_of c.args.graph.now) in
    let read : c.search_through.new.bound.offered ≡ c.args.worker.now.seat.offered =
    ap (λ (s : SeatView). s.offered) c.search_through.ensures.reads in
    λ all. (
    elim c.match-search_through.branch [
      | in-Some w ↦ (
          let told : w.offer.new.self.offered ≡ c.search_through.new.bound.offered ++ w.in-Some.length ∷ [] =
          ap (λ (s : SeatView). s.offered) w.offer.ensures.seat in
          let here : c.match-search_through.worker.seat.offered ≡ w.offer.new.self.offered =
          ap (λ (k : Worker). k.seat.offered) w.worker-is in
          subst (All P) (sym (here ∙ (told ∙ ap (λ (l : List ℕ). l ++ w.in-Some.length ∷ []) read)))
          (All-push P _ w.in-Some.length all (c.args.source, w.in-Some.ensures.answer.0.cycle))
          )
      | in_default w ↦ (
          let here : c.match-search_through.worker.seat.offered ≡ c.search_through.new.bound.offered =
          ap (λ (k : Worker). k.seat.offered) w.worker-is in
          subst (All P) (sym (here ∙ read)) all
          )
    ]
    )

-- the least length that the seat knows of is no greater than the bound that was read last
pub returns-clause-looks : goal.returns-clause-looks
returns-clause-looks g c =
    let read : c.search_through.new.bound.offered ≡ c.args.worker.now.seat.offered =
    ap (λ (s : SeatView). s.offered) c.search_through.ensures.reads in
    elim c.match-search_through.branch [
      | in-Some w ↦
          let less = w.offer.ensures.low in
          let told : w.offer.new.self.offered ≡ c.search_through.new.bound.offered ++ w.in-Some.length ∷ [] =
          ap (λ (s : SeatView). s.offered) w.offer.ensures.seat in
          rw w.worker-is (
            c.search_through.new.room.sets,
            Some w.in-Some.length,
            told ∙ ap (λ (l : List ℕ). l ++ w.in-Some.length ∷ []) read,
            w.in-Some.ensures.answer.0,
            looked-lower _ _ _ c.search_through.new.bound.low _ _ _ _ _ (omega (arith, less))
                w.in-Some.ensures.looks,
          )
      | in_default w ↦
          rw w.worker-is (
            c.search_through.new.room.sets,
            None,
            read ∙ sym (append-nil c.args.worker.now.seat.offered),
            w.in_default.ensures.answer,
            w.in_default.ensures.looks,
          )
    ]
