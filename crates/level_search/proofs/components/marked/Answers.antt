-- One place more, marked or not.
use Rattle.std.proofs.Common.{◌≡◌, ℕ, ◌<◌, inl, inr, List, [], ◌∷◌, ◌+◌, length, length-append}
use Rattle.std.proofs.Common.{Bool, true, false, slice_index_or, sym, ap, ◌∙◌, arith}
use Rattle.std.specs.Prelude.{All}
use Rattle.std.proofs.lemmas.Bool.{cases_lt, false≢true}
use Rattle.std.proofs.lemmas.List.Elements.{All-get_or, All-push, All-weaker}
use Rattle.std.proofs.lemmas.List.Quantifiers.{all_pairs_push}
use Rattle.level_search.proofs.Rising.{listed-next}
use Rattle.level_search.proofs.components.marked.Goals as goal
use Rattle.level_search.proofs.components.marked.Goals.{then-mark+in_ok-push, else-mark}

pub loop-x-preserved : goal.loop-x-preserved
loop-x-preserved c =
    let n : ℕ = c.loop-x.x in
    let xs : List ℕ = c.loop-x.places.items in
    let marks : List Bool = c.args.marks.now in
    let inv = c.loop-x.invariant in
    let few = inv.few in
    let below : All (λ s. s < n + 1) xs =
    All-weaker (λ s. s < n) (λ s. s < n + 1) (λ s lt. omega arith) xs inv.below in
    elim c.if-mark.branch [
      | then-mark+in_ok-push w ↦
          rw (w.places-is, w.in_ok-push.ensures.items)
          (record {
            rising = all_pairs_push (λ x y. x < y) xs n inv.rising
                (λ k d lt. All-get_or (λ s. s < n) xs k d lt inv.below);
            below = All-push (λ s. s < n + 1) xs n below (omega arith);
            known = All-push (λ s. s < length marks) xs n inv.known c.loop-x-test.true;
            few = omega (arith, few, length-append xs (n ∷ []));
            only = All-push (λ s. slice_index_or marks s false ≡ true) xs n inv.only w.if-mark.true;
            all = λ y under out. listed-next xs n y (λ lt. inv.all y lt out) under;
          })
      | else-mark w ↦
          rw w.places-is
          (record {
            rising = inv.rising;
            below = below;
            known = inv.known;
            few = omega (arith, few);
            only = inv.only;
            all = λ y under out. elim (cases_lt y n) [
              | inl lt ↦ inv.all y lt out
              | inr over ↦
                  let e : y ≡ n = omega arith in
                  absurd (false≢true
                  (sym w.if-mark.false ∙ ap (λ i. slice_index_or marks i false) (sym e) ∙ out))
            ];
          })
    ]
