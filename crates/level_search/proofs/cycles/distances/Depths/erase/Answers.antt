-- Who was among those reached is set back in turn; in the end none is left.
use Rattle.std.proofs.Common.{inl, inr, replicate, sym, ◌∙◌, arith}
use Rattle.std.proofs.lemmas.List.{ext_get_or, get_or-replicate, length-replicate}
use Rattle.level_search.proofs.cycles.distances.Depths.erase.Goals as goal

pub returns-clause-erased : goal.returns-clause-erased
returns-clause-erased c =
    let inv = c.loop-k.invariant in
    let depths = c.loop-k.self.depths in
    ext_get_or 0 depths.items (replicate c.args.self.now.depths.len c.args.limit)
    (omega (arith, inv.places, depths.ok, length-replicate c.args.self.now.depths.len c.args.limit))
    (λ x under. elim (inv.left x (omega (arith, depths.ok))) [
      | inl at ↦ at ∙ sym (get_or-replicate c.args.self.now.depths.len x c.args.limit 0
          (omega (arith, inv.places, depths.ok)))
      | inr among ↦
          let low = among.from in
          let high = among.to in
          absurd (omega (arith, c.loop-k-test.false, inv.count))
    ])
