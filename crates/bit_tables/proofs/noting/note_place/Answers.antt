-- One place more: the number stands in the known list before those that are kept, or it is fresh.
use Rattle.std.proofs.Common.{◌≡◌, ℕ, ◌<◌, ◌+◌, ◌⊎◌, ◌↔◌, inl, inr, List, [], ◌∷◌, Some, length, get_or, refl}
use Rattle.std.proofs.Common.{sym, ◌∙◌, subst, arith}
use Rattle.std.specs.Prelude.{slice_get, Contains}
use Rattle.std.proofs.lemmas.List.{get_or_read}
use Rattle.std.proofs.lemmas.List.Elements.{Contains-push, Contains-append_left, Contains-push_cases}
use Rattle.std.proofs.lemmas.Option.{slice_get-get_or}
use Rattle.std.specs.Vec.{with_item}
use Rattle.bit_tables.specs.Sets.{Has}
use Rattle.bit_tables.specs.Lists.{row_of}
use Rattle.bit_tables.specs.Backs.{IsBack}
use Rattle.bit_tables.proofs.Places.{back_step, kept_grown, row_step}
use Rattle.bit_tables.proofs.noting.note_place.Goals.{then-is_kept, else-is_kept+in_ok-push}
use Rattle.bit_tables.proofs.noting.note_place.Goals as goal

pub returns-clause-noted : goal.returns-clause-noted
returns-clause-noted c =
    let w : List ℕ = c.args.list.now in
    let i : ℕ = c.args.i in
    let x : ℕ = get_or w i 0 in
    let rows : List (List ℕ) = c.args.rows.now in
    let b = c.args.back.now in
    let back : IsBack c.args.known.now w (i + 1) b = c.requires.back in
    let here : slice_get w i ≡ Some x = slice_get-get_or w i 0 c.requires.place in
    let within : x < length rows = c.requires.within i 0 c.requires.place in
    elim c.if-is_kept.branch [
      | then-is_kept v ↦
          let kept = v.if-is_kept.ensures refl in
          let is : v.index-rows-x.result ≡ row_of rows x =
          get_or_read rows x v.index-rows-x.result within v.index-rows-x.is [] in
          let here_is = sym v.index-rows-x.is ∙ is in
          let added = v.add_few.ensures in
          let new : List ℕ = v.add_few.new.set in
          rw v.rows-is
          (row_step i w x here b.after new rows within back.after
          (kept_grown c.args.known.now w (i + 1) c.index-place.result.now x b rows new within c.requires.known
          back kept.0 kept.1
          (λ y has. added.kept y (subst (λ (r : List ℕ). Has r y) (sym here_is) has))
          (λ y contains. added.few y
          (subst (λ (s : List ℕ). Contains s y) (sym v.as_slice.ensures.value) contains))
          (λ y has. elim (added.only y has) [
            | inl was ↦
                inl (subst (λ (r : List ℕ). Has r y) here_is was)
            | inr after ↦ inr after
          ])))
      | else-is_kept+in_ok-push v ↦
          let is : v.index-rows-x-else-is_kept.result ≡ row_of rows x =
          get_or_read rows x v.index-rows-x-else-is_kept.result within v.index-rows-x-else-is_kept.is
          [] in
          let here_is = sym v.index-rows-x-else-is_kept.is ∙ is in
          let new : List ℕ = v.union_with.new.self in
          rw v.rows-is
          (row_step i w x here b.after new rows within back.after
          (λ y. subst (λ (r : List ℕ). Has new y ↔ (Has r y ⊎ Has b.after y)) here_is
          (v.union_with.ensures.has y)))
    ]

pub returns-clause-back : goal.returns-clause-back
returns-clause-back c =
    let w : List ℕ = c.args.list.now in
    let i : ℕ = c.args.i in
    let x : ℕ = get_or w i 0 in
    let b = c.args.back.now in
    let back : IsBack c.args.known.now w (i + 1) b = c.requires.back in
    let here : slice_get w i ≡ Some x = slice_get-get_or w i 0 c.requires.place in
    elim c.if-is_kept.branch [
      | then-is_kept v ↦
          let kept = v.if-is_kept.ensures refl in
          rw v.back-is
          (back_step i w x here c.args.known.now b c.insert.new.self b.fresh
          (with_item b.places x i) c.index-place.result.now back
          (rw v.back-is at c.insert.ensures.has)
          (λ y contains. contains) (λ y contains. inl contains)
          (let before = kept.0 in omega arith)
          (inr (c.index-place.result.now, omega arith, kept.1)))
      | else-is_kept+in_ok-push v ↦
          let pushed = v.in_ok-push.ensures.items in
          rw v.back-is
          (back_step i w x here c.args.known.now b c.insert.new.self v.push.new.self
          (with_item b.places x i) b.next back
          (rw v.back-is at c.insert.ensures.has)
          (λ y contains. subst (λ (s : List ℕ). Contains s y) (sym pushed)
          (Contains-append_left b.fresh.items (x ∷ []) y contains))
          (λ y contains. Contains-push_cases b.fresh.items x y
          (subst (λ (s : List ℕ). Contains s y) pushed contains))
          (omega arith)
          (inl (subst (λ (s : List ℕ). Contains s x) (sym pushed) (Contains-push b.fresh.items x))))
    ]
