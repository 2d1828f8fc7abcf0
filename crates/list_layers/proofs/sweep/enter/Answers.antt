use Rattle.std.proofs.Common.{◌≡◌, ℕ, false, true, List, get_or, slice_set, sym, subst, arith}
use Rattle.std.proofs.lemmas.Grind.{common_steps}
use Rattle.list_layers.specs.Progress.{Grows}
use Rattle.list_layers.proofs.Growing.{entered_one}
use Rattle.list_layers.proofs.sweep.enter.Goals as goal

pub returns-clause-grows : goal.returns-clause-grows
returns-clause-grows c =
    let seen = c.args.seen.now.items in
    let next = c.args.next.now.items in
    let y : ℕ = c.args.y in
    let unseen : get_or seen y false ≡ false = grind (arith, common_steps) in
    subst (λ (l : List ℕ). Grows (λ x. x ≡ y) c.args.first seen next (slice_set seen y true) l)
    (sym c.in_ok-push.ensures.items)
    (entered_one c.args.first y seen next (omega arith) (omega arith) unseen)
