-- One name more.
use Rattle.std.proofs.Common.{◌≡◌, ℕ, ◌+◌, ◌<◌, Some, List, [], ◌∷◌, ◌++◌, length, get_or, take, sym, ◌∙◌, ap}
use Rattle.std.specs.Prelude.{slice_get}
use Rattle.std.proofs.lemmas.List.{take_more, map-append}
use Rattle.std.proofs.lemmas.Option.{slice_get-get_or, get_or_from_slice_get}
use Rattle.events.specs.Names.{NameBytes}
use Rattle.order_graph.specs.Kept.{names_at}
use Rattle.witness_order.proofs.least_order.names_of.Goals as goal
use Rattle.witness_order.proofs.least_order.names_of.Goals.{in-Some+in_ok-push, in_default}

one_name_more : (names : List NameBytes) (numbers : List ℕ) (i : ℕ) (a : NameBytes) (so_far : List NameBytes)
    → i < length numbers →
    slice_get names (get_or numbers i 0) ≡ Some a → so_far ≡ names_at names (take i numbers)
    → so_far ++ a ∷ [] ≡ names_at names (take (i + 1) numbers)
one_name_more names numbers i a so_far lt at is =
    ap (λ l. l ++ a ∷ []) is
    ∙ ap (λ b. names_at names (take i numbers) ++ b ∷ [])
    (sym (get_or_from_slice_get names (get_or numbers i 0) a [] at))
    ∙ sym (map-append (λ x. get_or names x []) (take i numbers) (get_or numbers i 0 ∷ []))
    ∙ ap (names_at names) (sym (take_more numbers i 0 lt))

pub loop-x-preserved : goal.loop-x-preserved
loop-x-preserved c =
    let names : List NameBytes = c.args.graph.now.elements in
    let numbers : List ℕ = c.args.numbers.now in
    let i : ℕ = c.loop-x.x-index in
    elim c.match-name.branch [
      | in-Some+in_ok-push w ↦
          ap (λ v. v.items) w.names-is ∙ w.in_ok-push.ensures.items
          ∙ one_name_more names numbers i w.in-Some.name c.loop-x.names.items c.loop-x-test.true
          (sym w.in-Some.ensures) c.loop-x.invariant
      | in_default w ↦
          (let known : get_or numbers i 0 < length names = c.requires i 0 c.loop-x-test.true in
          let some : slice_get names (get_or numbers i 0) ≡ Some (get_or names (get_or numbers i 0) []) =
          slice_get-get_or names (get_or numbers i 0) [] known in
          absurd (w.in_default.not-Some (get_or names (get_or numbers i 0) []) (c.name.ensures ∙ some)))
    ]
