-- The piece before it ends at its end.
use Rattle.std.proofs.Common.{◌≡◌, ◌-◌, ◌≤◌, ◌<◌, ℕ, suc, List, length, get_or, sym, subst, arith}
use Rattle.events.specs.Packed.{start_at}
use Rattle.events.proofs.Packed.{start-is}
use Rattle.events.proofs.response.same_names.start_from.Goals as goal

start-after : (ends : List ℕ) (i : ℕ) → 0 < i → i ≤ length ends → get_or ends (i - 1) 0 ≡ start_at 0 ends i
start-after ends i h k =
    let next : suc (i - 1) ≡ i = omega (arith, h) in
    subst (λ n. get_or ends (i - 1) 0 ≡ start_at 0 ends n) next
    (sym (start-is 0 ends (i - 1) 0 (omega (arith, h, k))))

pub returns-else-i-eq0-clause-value : goal.returns-else-i-eq0-clause-value
returns-else-i-eq0-clause-value c =
    start-after c.args.ends.now c.args.i (omega (arith, c.if-i-eq0.false)) c.requires
