use Rattle.std.proofs.Common.{◌≡◌, ℕ, ◌+◌, ◌<◌, ◌++◌, [], ◌∷◌, List, cond, eqb, map, length, get_or, take}
use Rattle.std.proofs.Common.{sym, ap, ◌∙◌, arith, append_assoc}
use Rattle.std.proofs.lemmas.List.{take_more, length-take-le}
use Rattle.std.proofs.lemmas.Grind.{common_steps}
use Rattle.order_graph.specs.Spots.{spots_in}
use Rattle.order_graph.specs.declared.spot.Spot.{Spot}
use Rattle.order_graph.proofs.Adding.{in_push, items_of, pushed_at}
use Rattle.order_graph.proofs.spots.row_spots.Goals as goal

pub loop-j-preserved : goal.loop-j-preserved
loop-j-preserved c = record {
  count = c.loop-j.invariant.count;
  spots = λ x inside.
      let row : List ℕ = c.args.row.now in
      let list : ℕ = c.args.list in
      let j : ℕ = c.loop-j.j in
      let y : ℕ = get_or row j 0 in
      let spots = c.loop-j.spots.items in
      let low : j < length row = omega arith in
      let count = c.loop-j.invariant.count in
      let known : y < length spots = let h = c.requires.known j 0 low in omega arith in
      let within : x < length spots = omega arith in
      let spot : Spot = record { list = list; place = j } in
      let last : ℕ → List Spot =
      λ n. cond {A = List Spot} (eqb y x) ((record { list = list; place = n }) ∷ []) [] in
      let pushed : c.push.new.self.items ≡ c.index_mut.result.now.items ++ spot ∷ [] =
      grind (arith, common_steps, c.in_ok-push.ensures.items) in
      let more =
      pushed_at spots y c.index_mut.result.now c.push.new.self spot known c.index_mut.ensures.value pushed
      x within in
      let A = get_or (map items_of c.args.spots.now.items) x [] in
      more ∙ ap (λ l. l ++ last j) (c.loop-j.invariant.spots x inside)
      ∙ append_assoc A (spots_in list 0 (take j row) x) (last j)
      ∙ ap (λ l. A ++ l)
      (ap (λ n. spots_in list 0 (take j row) x ++ last n) (let e : j ≡ 0 + length (take j row) =
      omega (arith, length-take-le j row) in e)
      ∙ sym (in_push list 0 (take j row) y x)
      ∙ ap (λ l. spots_in list 0 l x) (sym (take_more row j 0 low)));
}
