use Rattle.std.proofs.Common.{◌≡◌, ◌<◌, [], ◌∷◌, ◌++◌, inl, inr, length, arith}
use Rattle.std.proofs.lemmas.Grind.{common_steps}
use Rattle.bit_tables.proofs.DepthLemmas.{put-has}
use Rattle.bit_tables.proofs.depths.put.Goals as goal

pub returns-in_ok-push-clause-layers : goal.returns-in_ok-push-clause-layers
returns-in_ok-push-clause-layers c =
    let rows = c.args.layers.now.items in
    let known : c.args.depth < length rows = omega arith in
    let pushed : c.push.new.self.items ≡ c.index_mut.result.now.items ++ c.args.number ∷ [] =
    grind (arith, common_steps, c.in_ok-push.ensures.items) in
    λ d x inside.
    let has =
    put-has rows c.args.depth c.index_mut.result.now c.push.new.self c.args.number known
    c.index_mut.ensures.value pushed d x in (
      λ h. elim (has.0 h) [ inl old ↦ inl old | inr p ↦ inr (omega arith, p.0, p.1) ],
      λ s. has.1 (elim s [ inl old ↦ inl old | inr p ↦ inr (p.1, p.2) ]),
    )
