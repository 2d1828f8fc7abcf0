-- One more is moved each time.
use Rattle.std.proofs.Common.{◌≡◌, ◌∙◌, ℕ, zero, suc, ◌+◌, ◌-◌, ◌<◌, ◌++◌, List, [], ◌∷◌, length, map, take}
use Rattle.std.proofs.Common.{drop, set, get_or, refl, ap, arith}
use Rattle.std.proofs.lemmas.List.{length-set}
use Rattle.events.proofs.response.runs.move_ends.Goals as goal

one-more : (f : ℕ → ℕ) (items : List ℕ) (k : ℕ) → k < length items
    → set (map f (take k items) ++ drop k items) k (f (get_or (map f (take k items) ++ drop k items) k 0))
    ≡ map f (take (suc k) items) ++ drop (suc k) items
one-more f [] k h = absurd (omega (arith, h))
one-more f (x ∷ items) zero h = refl
one-more f (x ∷ items) (suc k) h = ap (λ l. f x ∷ l) (one-more f items k (omega (arith, h)))

pub loop-k-preserved : goal.loop-k-preserved
loop-k-preserved c =
    let f : ℕ → ℕ = λ end. c.args.begin + (end - c.args.from) in
    let next : suc c.loop-k.k ≡ c.loop-k.k + 1 = omega arith in
    let inside : c.loop-k.k < length c.args.ends.now =
    omega (arith, c.loop-k-test.true, c.loop-k.invariant.size) in
    record {
      size = length-set c.loop-k.ends c.loop-k.k _ ∙ c.loop-k.invariant.size;
      items =
          ap (λ l. set l c.loop-k.k (f (get_or l c.loop-k.k 0))) c.loop-k.invariant.items
          ∙ one-more f c.args.ends.now c.loop-k.k inside
          ∙ ap (λ n. map f (take n c.args.ends.now) ++ drop n c.args.ends.now) next;
    }
