-- A text with one step more, and a count with one operation more.
use Rattle.std.proofs.Common.{◌≡◌, ℕ, ◌+◌, Option, Some, List, [], ◌∷◌, ◌++◌, length, map, take, slice_get}
use Rattle.std.proofs.Common.{sym, ap, ◌∙◌, length-append}
use Rattle.std.specs.Prelude.{filter_map}
use Rattle.std.specs.List.{cons_option}
use Rattle.std.proofs.lemmas.List.{map_push, flat_map_more}
use Rattle.std.proofs.lemmas.List.Elements.{filter_map-append}
use Rattle.events.specs.History.{History}
use Rattle.specification.specs.Lines.{Line, text_of}
use Rattle.specification.specs.Conflict.{Step}
use Rattle.specification.specs.ReportText.{report_step}
use Rattle.format_words.proofs.NameList.{front-more}

pub step-more : (h : History) (start text : List ℕ) (steps : List Step) (i : ℕ) (step : Step)
    → text ≡ start ++ text_of (map (report_step h) (take i steps))
    → slice_get steps i ≡ Some step → text ++ (report_step h step ++ 10 ∷ [])
    ≡ start ++ text_of (map (report_step h) (take (i + 1) steps))
step-more h start text steps i step is at =
    ap (λ t. t ++ (report_step h step ++ 10 ∷ [])) is
    ∙ flat_map_more (λ (l : Line). l ++ 10 ∷ []) start (map (report_step h) (take i steps))
    (report_step h step)
    ∙ ap (λ (ls : List Line). start ++ text_of ls) (sym (map_push (report_step h) (take i steps) step)
    ∙ ap (map (report_step h)) (sym (front-more steps i step at)))

-- one more in the list of what some have
pub one-more : {X Y : Type 0} (f : X → Option Y) (xs : List X) (x : X)
    → length (filter_map f (xs ++ x ∷ [])) ≡ length (filter_map f xs) + length (cons_option (f x) [])
one-more f xs x =
    ap length (filter_map-append f xs (x ∷ [])) ∙ length-append (filter_map f xs) (cons_option (f x) [])
