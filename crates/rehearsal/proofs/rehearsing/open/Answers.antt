use Rattle.std.proofs.Common.{rules, ◌≡◌, ◌≤◌, ◌<◌, ℕ, List, [], All, ◌+◌, ap, ◌∙◌, sym, arith, length}
use Rattle.std.proofs.Common.{slice_set}
use Rattle.events.specs.declared.entry.Entry.{Entry}
use Rattle.sessions.specs.Shown.{PassShown, new_pass}
use Rattle.rehearsal.proofs.Passes.{opened_of}
use Rattle.rehearsal.proofs.rehearsing.open.Goals as goal

pub returns-clause-passes : goal.returns-clause-passes
returns-clause-passes c =
    let replicas = c.in-Ok.ensures.session in
    let passes = c.in-Ok.ensures.passes in
    let some : 1 ≤ c.args.replicas = c.requires.0 in
    let ok = c.in-Ok.passes.ok.0 in
    let first = c.index_mut.ensures.value ∙ passes.1 0 _ (omega (arith, some)) in
    opened_of c.in-Ok.session c.in-Ok.passes.items c.observer-observer.new.pass
    (omega (arith, replicas, some)) (omega (arith, ok, passes.0, replicas))
    (λ k d less. passes.1 k d (omega (arith, replicas, less))) (c.observer-observer.ensures.pass
    ∙ ap (λ (p : PassShown). record p { made = p.made + 1 }) first)

pub returns-clause-observer : goal.returns-clause-observer
returns-clause-observer c =
    let passes = c.in-Ok.ensures.passes in
    let some : 1 ≤ c.args.replicas = c.requires.0 in
    let first = c.index_mut.ensures.value ∙ passes.1 0 _ (omega (arith, some)) in
    let seen : c.index_mut.result.now.seen ≡ [] = ap (λ (p : PassShown). p.seen) first in
    c.observer-observer.ensures.observer
    ∙ ap (λ (l : List Entry). record { session = c.in-Ok.session; seen = l }) seen
