-- At first none is kept; each kept element then gets the next number.
use Rattle.std.proofs.Common.{◌≡◌, ℕ, ◌+◌, ◌<◌, ◌≤◌, Some, List, [], ◌∷◌, ◌++◌, length, take, set, get_or}
use Rattle.std.proofs.Common.{map, sym, subst, arith}
use Rattle.std.proofs.lemmas.List.{length-map, length-take-le, take_all, take_more}
use Rattle.events.specs.Names.{NameBytes}
use Rattle.specification.specs.Elements.{number_in}
use Rattle.specification.proofs.Members.{Once}
use Rattle.order_graph.specs.Kept.{names_at}
use Rattle.order_graph.proofs.NewNumbers.{AreNew, none-kept, one-more, all-new, once-first, only-none}
use Rattle.order_graph.proofs.Renumbered.{count-kept, once-kept}
use Rattle.order_graph.proofs.narrowing.new_numbers.Goals as goal

pub loop-i-init : goal.loop-i-init
loop-i-init c =
    let items = c.in_ok-anew.ensures.items_if_clones_equal (only-none _ (λ n copy. copy)) in
    subst (AreNew c.args.names.now []) (sym items) (none-kept c.args.names.now)

pub overflow_cast-i : goal.overflow_cast-i
overflow_cast-i c =
    let names : List NameBytes = c.args.names.now in
    let kept : List ℕ = c.args.kept.now in
    let most : length (names_at names kept) ≤ length names =
    count-kept names c.requires.distinct kept c.requires.rising c.requires.known in
    let same : length (names_at names kept) ≡ length kept = length-map kept (λ y. get_or names y []) in
    omega (arith, most, same, c.requires.few, c.loop-i-test.true)

pub loop-i-preserved : goal.loop-i-preserved
loop-i-preserved c =
    let names : List NameBytes = c.args.names.now in
    let kept : List ℕ = c.args.kept.now in
    let i : ℕ = c.loop-i.i in
    let x : ℕ = get_or kept i 0 in
    let next : take (i + 1) kept ≡ take i kept ++ x ∷ [] = take_more kept i 0 c.loop-i-test.true in
    let once : Once (names_at names (take i kept ++ x ∷ [])) =
    subst (λ l. Once (names_at names l)) next (once-first names kept (i + 1)
    (once-kept names c.requires.distinct kept c.requires.rising c.requires.known)) in
    let low : x < length names = c.requires.known i 0 c.loop-i-test.true in
    let size : length (take i kept) ≡ i = omega (arith, length-take-le i kept, c.loop-i-test.true) in
    subst (λ l. AreNew names l (set c.loop-i.anew.items x (Some i))) (sym next)
    (subst (λ n. AreNew names (take i kept ++ x ∷ []) (set c.loop-i.anew.items x (Some n))) size
    (one-more names (take i kept) x c.loop-i.anew.items c.requires.distinct once low c.loop-i.invariant))

pub returns : goal.returns
returns c =
    let names : List NameBytes = c.args.names.now in
    let kept : List ℕ = c.args.kept.now in
    let all : take c.loop-i.i kept ≡ kept = take_all c.loop-i.i kept (omega (arith, c.loop-i-test.false)) in
    subst (λ l. c.loop-i.anew.items ≡ map (number_in (names_at names l)) names) all
    (all-new names (take c.loop-i.i kept) c.loop-i.anew.items c.loop-i.invariant)
