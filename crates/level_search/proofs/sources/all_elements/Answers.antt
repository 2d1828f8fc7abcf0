-- One element more.
use Rattle.std.proofs.Common.{ℕ, ◌<◌, List, [], ◌∷◌, length, length-append, arith}
use Rattle.std.proofs.lemmas.List.Elements.{All-push}
use Rattle.level_search.proofs.Rising.{listed-next}
use Rattle.level_search.proofs.sources.all_elements.Goals as goal

pub loop-x-preserved : goal.loop-x-preserved
loop-x-preserved c =
    let n : ℕ = c.loop-x.x in
    let xs : List ℕ = c.loop-x.elements.items in
    rw c.in_ok-push.ensures.items
    (record {
      known = All-push (λ s. s < length c.args.graph.now.elements) xs n c.loop-x.invariant.known
          (omega (arith, c.elements-x-end.ensures.value));
      few = omega (arith, c.loop-x.invariant.few, length-append xs (n ∷ []));
      all = λ y under. listed-next xs n y (c.loop-x.invariant.all y) under;
    })
