-- One replica more.
use Rattle.std.proofs.Common.{◌≡◌, ℕ, ◌+◌, ◌∷◌, ◌++◌, [], sym, ap, ◌∙◌, arith}
use Rattle.events.specs.Operations.{numbers_from}
use Rattle.events.proofs.Numbers.{numbers_from-push}
use Rattle.contents_check.proofs.first.replicas_of.Goals as goal

pub loop-r-preserved : goal.loop-r-preserved
loop-r-preserved c =
    let r : ℕ = c.loop-r.r in
    let place : 0 + r ≡ r = omega arith in
    c.in_ok-push.ensures.items ∙ ap (λ l. l ++ r ∷ []) c.loop-r.invariant
    ∙ sym (numbers_from-push 0 r ∙ ap (λ k. numbers_from 0 r ++ k ∷ []) place)
