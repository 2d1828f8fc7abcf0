use Rattle.std.proofs.Common.{inl, inr, arith}
use Rattle.list_search.proofs.searching.distance.note_level.Goals as goal

pub returns-clause-others : goal.returns-clause-others
returns-clause-others c = λ x. elim (c.loop-k.invariant.others x) [
  | inl same ↦ inl same
  | inr now ↦
      inr (
        now.0,
        record {
          at = now.1.at;
          from = now.1.from;
          to = let low = now.1.from in
              let high = now.1.to in omega arith;
          here = now.1.here;
        },
      )
]
