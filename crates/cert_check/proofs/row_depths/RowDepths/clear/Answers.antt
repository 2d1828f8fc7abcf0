-- All that was noted is taken back.
use Rattle.std.proofs.Common.{◌≡◌, ◌≤◌, ◌++◌, ◌∙◌, ℕ, List, length, take, drop, ap, sym, subst, arith}
use Rattle.std.specs.Prelude.{All}
use Rattle.std.proofs.lemmas.Grind.{common_steps}
use Rattle.std.proofs.lemmas.List.{take_at}
use Rattle.bit_tables.specs.Rule.{HaveDepths}
use Rattle.cert_check.proofs.row_depths.RowDepths.clear.Goals as goal

pub take_back-requires-clause-noted : goal.take_back-requires-clause-noted
take_back-requires-clause-noted c =
    subst (λ (l : List ℕ). HaveDepths l c.args.unset c.deref.result.now) (sym c.deref_mut.ensures.value)
    (subst (λ (l : List ℕ). HaveDepths c.args.self.now.depths.items c.args.unset l)
    (sym c.deref.ensures.value) c.requires.noted)

pub take_back-requires-clause-most : goal.take_back-requires-clause-most
take_back-requires-clause-most c =
    subst (λ (l : List ℕ). All (λ d. d ≤ c.args.unset) l) (sym c.deref_mut.ensures.value) c.requires.most

pub returns : goal.returns
returns c =
    let new = c.take_back.new.depths in
    let old = c.args.self.now.depths.items in
    let whole : take c.args.self.now.depths.len (new ++ drop (length new) old) ≡ new =
    take_at new _ _ (omega (arith, c.take_back.ensures.len, c.deref_mut.ensures.len)) in
    record {
      size = ap length whole ∙ c.take_back.ensures.len ∙ ap length c.deref_mut.ensures.value;
      depths = rw whole c.take_back.ensures.unset;
      noted = grind (arith, common_steps);
    }
