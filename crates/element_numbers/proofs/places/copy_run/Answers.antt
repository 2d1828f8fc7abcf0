-- One number more is copied; what is copied are the numbers of names that are alike.
use Rattle.std.proofs.Common.{◌≡◌, ◌∙◌, ℕ, ◌+◌, ◌-◌, ◌++◌, ◌<◌, ◌≤◌, List, length, take, drop, get_or, sym}
use Rattle.std.proofs.Common.{ap, arith, length-append, length-drop}
use Rattle.std.proofs.lemmas.Option.{get_or_from_slice_get}
use Rattle.events.proofs.Places.{slice_get-within}
use Rattle.element_numbers.proofs.Copying.{stands-within, one_copied, copied}
use Rattle.element_numbers.proofs.places.copy_run.Goals as goal

pub loop-k-preserved : goal.loop-k-preserved
loop-k-preserved c =
    let old : List ℕ = c.args.items.now.items in
    let k : ℕ = c.loop-k.k in
    let n : ℕ = c.args.begin + c.args.j in
    let place : c.args.begin + (c.args.j + k) ≡ n + k = omega arith in
    let some : c.args.j + k < length c.args.last.now =
    omega (
      arith,
      c.loop-k-test.true,
      c.same_names-run.ensures.within.1,
      length-drop c.args.j c.args.last.now,
    ) in
    let all : c.args.begin + length c.args.last.now ≤ length old =
    stands-within c.args.names.now old c.args.begin c.args.last.now c.requires.last
    (omega (arith, some)) in
    let within : n + k < length old = omega (arith, some, all) in
    let more : length c.loop-k.items.items ≡ length old + length (take k (drop n old)) =
    ap length c.loop-k.invariant ∙ length-append old (take k (drop n old)) in
    let at =
    slice_get-within c.loop-k.items.items (c.args.begin + (c.args.j + k)) c.index.result.now
    (omega (arith, within, more, place)) c.index.ensures in
    let there =
    ap (λ m. get_or c.loop-k.items.items m 0) (sym place)
    ∙ get_or_from_slice_get c.loop-k.items.items (c.args.begin + (c.args.j + k)) c.index.result.now 0
    at in
    c.in_ok-push.ensures.items
    ∙ one_copied c.loop-k.items.items old n k c.index.result.now c.loop-k.invariant within there

pub returns-clause-numbers : goal.returns-clause-numbers
returns-clause-numbers c =
    let old : List ℕ = c.args.items.now.items in
    let run : ℕ = c.same_names-run.result in
    let all : c.loop-k.k ≡ run = omega (arith, c.loop-k-test.false, c.loop-k.auto.k-end) in
    let inside : run ≤ length c.args.last.now - c.args.j =
    omega (arith, c.same_names-run.ensures.within.1, length-drop c.args.j c.args.last.now) in
    c.loop-k.invariant ∙ ap (λ k. old ++ take k (drop (c.args.begin + c.args.j) old)) all
    ∙ ap (λ l. old ++ l)
    (copied c.args.names.now old c.args.begin c.args.last.now c.requires.last c.args.response.now c.args.i
    c.args.j run inside c.same_names-run.ensures.same)
