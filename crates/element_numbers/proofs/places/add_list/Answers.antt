-- The list ends where all numbers end. Where there is no response, the list is empty.
use Rattle.std.proofs.Common.{◌≡◌, refl, ℕ, List, [], ◌∷◌, ◌++◌, length, sym, ◌∙◌, ap, append-nil}
use Rattle.std.specs.Prelude.{Option, Some, None, IsSome, option_map, unwrap_or}
use Rattle.std.proofs.lemmas.Result.{on_ok_weaker}
use Rattle.events.specs.Names.{NameBytes}
use Rattle.events.specs.Operation.{Operation}
use Rattle.events.specs.History.{History, response_of}
use Rattle.events.specs.Operations.{operation, response, IsOperation}
use Rattle.events.specs.declared.entry.Body.{Body}
use Rattle.specification.specs.Elements.{numbers_in}
use Rattle.element_numbers.proofs.Cuts.{row-ended}
use Rattle.element_numbers.specs.Cuts.{rows_of}
use Rattle.element_numbers.proofs.places.add_list.Goals as goal

nothing-returned : (h : History) (o : Operation) → (IsOperation h o → ⊥) → response h o ≡ []
nothing-returned h o none = go (operation h o) none
  where
    go : (b : Option Body) → (IsSome b → ⊥) → unwrap_or (option_map response_of b) [] ≡ []
    go None n = refl
    go (Some b) n = absurd (n refl)

pub returns-in-None : goal.returns-in-None
returns-in-None c =
    let names : List NameBytes = c.args.names.now in
    let old = c.args.places.now in
    let new = c.end_row.new.self in
    let none : [] ≡ response c.args.recording.now c.args.operation =
    sym (nothing-returned c.args.recording.now c.args.operation c.in-None.ensures) in
    let items : new.items.items ≡ old.items.items ++ [] =
    c.end_row.ensures.items ∙ sym (append-nil old.items.items) in
    let both = λ (ends : new.ends.items ≡ old.ends.items ++ (length old.items.items) ∷ []).
    row-ended old new [] c.requires.whole items (ends
    ∙ ap (λ n. old.ends.items ++ n ∷ []) (ap length (sym c.end_row.ensures.items))) in
    record {
      cut = on_ok_weaker c.end_row.result (λ e. (both e).1) c.end_row.ensures.ends;
      rows = on_ok_weaker c.end_row.result (λ e. (both e).0
          ∙ ap (λ r. rows_of old ++ numbers_in names r ∷ []) none) c.end_row.ensures.ends;
      items = on_ok_weaker c.end_row.result (λ _. c.end_row.ensures.items ∙ sym (append-nil old.items.items)
          ∙ ap (λ r. old.items.items ++ numbers_in names r) none) c.end_row.ensures.ends;
    }

pub returns-in_ok-add_numbers-in-Some : goal.returns-in_ok-add_numbers-in-Some
returns-in_ok-add_numbers-in-Some c =
    let names : List NameBytes = c.args.names.now in
    let old = c.args.places.now in
    let new = c.end_row-in-Some.new.self in
    let r : List ℕ = numbers_in names c.in-Some.response.now in
    let there : c.in-Some.response.now ≡ response c.args.recording.now c.args.operation =
    sym c.in-Some.ensures in
    let items : new.items.items ≡ old.items.items ++ r =
    c.end_row-in-Some.ensures.items ∙ c.in_ok-add_numbers-in-Some.ensures in
    let both = λ (ends : new.ends.items ≡ old.ends.items ++ (length c.add_numbers.new.items.items) ∷ []).
    row-ended old new r c.requires.whole items (ends
    ∙ ap (λ n. old.ends.items ++ n ∷ []) (ap length (sym c.end_row-in-Some.ensures.items))) in
    record {
      cut = on_ok_weaker c.end_row-in-Some.result (λ e. (both e).1) c.end_row-in-Some.ensures.ends;
      rows = on_ok_weaker c.end_row-in-Some.result (λ e. (both e).0
          ∙ ap (λ w. rows_of old ++ numbers_in names w ∷ []) there) c.end_row-in-Some.ensures.ends;
      items = on_ok_weaker c.end_row-in-Some.result (λ _. items
          ∙ ap (λ w. old.items.items ++ numbers_in names w) there) c.end_row-in-Some.ensures.ends;
    }
