use Rattle.std.proofs.Common.{◌≡◌, ℕ, rules, ◌+◌, ◌<◌, ◌≤◌, ◌*◌, List, [], ◌∷◌, ◌++◌, length, get_or, arith}
use Rattle.std.proofs.Common.{sym, subst}
use Rattle.std.specs.Prelude.{All}
use Rattle.std.proofs.lemmas.Grind.{common_steps}
use Rattle.std.proofs.lemmas.List.Elements.{All-push}
use Rattle.bit_tables.proofs.NarrowLemmas.{IsAhead, IsNarrowedTo, ahead-by, narrowed-all, narrowed-more}
use Rattle.bit_tables.proofs.narrow.narrowed.Goals as goal

pub loop-i-preserved : goal.loop-i-preserved
loop-i-preserved c =
    let inv = c.loop-i.invariant in
    let wide : List ℕ = c.args.wide.now in
    let i : ℕ = c.loop-i.i in
    let small : ℕ = c.loop-i.small in
    let next : ℕ = small + c.min-small.result in
    let within : i < length wide = omega arith in
    let rise : c.loop-i.last ≤ get_or wide i 0 = inv.last i (omega arith) within in
    let grown : IsAhead c.loop-i.last (get_or wide i 0) small next =
    ahead-by c.loop-i.last (get_or wide i 0) small c.min-small.result rise c.min-small.ensures in
    let few : next ≤ 2 * (i + 1) = search rules in
    let pushed : c.push.new.self.items ≡ c.loop-i.narrow.items ++ next ∷ [] =
    grind (arith, common_steps, c.in_ok-push.ensures.items) in
    record {
      last = λ j from low. c.requires i j 0 (omega (arith, from)) low;
      below = omega (arith, grown.less, inv.below);
      few = few;
      each = subst (λ (l : List ℕ). All (λ x. x ≤ 2 * length wide) l) (sym pushed)
          (All-push (λ x. x ≤ 2 * length wide) c.loop-i.narrow.items next inv.each
          (omega (arith, few, within)));
      narrowed =
          subst (λ (l : List ℕ). IsNarrowedTo wide (i + 1) l (get_or wide i 0) next) (sym pushed)
          (narrowed-more wide i c.loop-i.narrow.items c.loop-i.last small next inv.narrowed grown);
    }

pub returns-clause-alike : goal.returns-clause-alike
returns-clause-alike c =
    narrowed-all c.args.wide.now c.loop-i.narrow.items c.loop-i.i c.loop-i.last c.loop-i.small
    (omega arith) c.loop-i.invariant.narrowed
