-- Lists of names and of steps as JSON arrays, element by element. No report has a number that is a float.
use Rattle.std.proofs.Common.{◌≡◌, ℕ, ◌+◌, ◌≤◌, Vec, Global, length, Bool, false, ◌||◌, Some, List, [], ◌∷◌}
use Rattle.std.proofs.Common.{◌++◌, map, take, slice_get, refl, sym, ap, ◌∙◌}
use Rattle.std.proofs.lemmas.List.{map_push, take_all}
use Rattle.serde_json.specs.Data.{Data, string, item, array}
use Rattle.serde_json.specs.View.{view, items_of}
use Rattle.serde_json.specs.Written.{has_float, items_have_float}
use Rattle.serde_json.specs.declared.value.Value.{Value}
use Rattle.serde_json.specs.declared.value.Value.TheVariants.{Array}
use Rattle.serde_json.proofs.Views.{view-Array}
use Rattle.events.specs.Names.{NameBytes}
use Rattle.events.specs.History.{History}
use Rattle.events.specs.Operations.{response}
use Rattle.specification.specs.Conflict.{Step}
use Rattle.format_words.proofs.NameList.{front-more}
use Rattle.specification.specs.Faults.{doubled, contents, position}
use Rattle.specification.specs.Verdict.{Verdict, faulty, accepted, refused}
use Rattle.specification.specs.ReportText.{operation_count, insert_count}
use Rattle.report.specs.JsonReport.{names_json, step_json, steps_json, report_data}
use Rattle.report.specs.Objects.{verdict_object}

-- the views, with one more
pub values-more : {X : Type 0} (f : X → Data) (values : List Value) (xs : List X) (i : ℕ) (value : Value)
    (x : X) → map view values ≡ map f (take i xs)
    → view value ≡ f x → slice_get xs i ≡ Some x → map view (values ++ value ∷ []) ≡ map f (take (i + 1) xs)
values-more f values xs i value x is one at =
    map_push view values value
    ∙ ap (λ ds. ds ++ view value ∷ []) is
    ∙ ap (λ d. map f (take i xs) ++ d ∷ []) one
    ∙ sym (map_push f (take i xs) x)
    ∙ ap (map f) (sym (front-more xs i x at))

pub names-listed : (names : List NameBytes) → items_of (map (λ name. string name) names) ≡ names_json names
names-listed [] = refl
names-listed (a ∷ names) = ap (item (string a)) (names-listed names)

-- the views of all names are the array of them
pub all-listed : (values : Vec Value Global) (names : List NameBytes) (i : ℕ)
    → map view values.items ≡ map (λ (name : NameBytes). string name) (take i names) → length names ≤ i
    → view (Array values) ≡ array (names_json names)
all-listed values names i is past =
    view-Array values
    ∙ ap array (ap items_of (is ∙ ap (map (λ (name : NameBytes). string name)) (take_all i names past))
    ∙ names-listed names)

pub steps-listed : (h : History) (steps : List Step) → items_of (map (step_json h) steps) ≡ steps_json h steps
steps-listed h [] = refl
steps-listed h (s ∷ steps) = ap (item (step_json h s)) (steps-listed h steps)

pub names-plain : (names : List NameBytes) → items_have_float (names_json names) ≡ false
names-plain [] = refl
names-plain (a ∷ names) = names-plain names

step-plain : (h : History) (s : Step) → has_float (step_json h s) ≡ false
step-plain h s = ap (λ (b : Bool). b || false) (names-plain (response h s.shown))

pub steps-plain : (h : History) (steps : List Step) → items_have_float (steps_json h steps) ≡ false
steps-plain h [] = refl
steps-plain h (s ∷ steps) =
    ap (λ (b : Bool). b || items_have_float (steps_json h steps)) (step-plain h s) ∙ steps-plain h steps

pub report-plain : (h : History) (v : Verdict) → has_float (report_data h v) ≡ false
report-plain h (faulty (doubled first again)) = refl
report-plain h (faulty (contents at)) = refl
report-plain h (faulty (position at)) = refl
report-plain h (accepted order) = ap (λ (b : Bool). b || false) (names-plain order)
report-plain h (refused k steps) = ap (λ (b : Bool). b || false) (steps-plain h steps)

-- the data by the counts is the report's
pub counted : (h : History) (v : Verdict) (replicas operations inserts : ℕ) → replicas ≡ h.replicas
    → operations ≡ operation_count h → inserts ≡ insert_count h
    → verdict_object replicas operations inserts h v ≡ report_data h v
counted h (faulty (doubled first again)) replicas operations inserts r o i = rw (r, o, i) refl
counted h (faulty (contents at)) replicas operations inserts r o i = rw (r, o, i) refl
counted h (faulty (position at)) replicas operations inserts r o i = rw (r, o, i) refl
counted h (accepted order) replicas operations inserts r o i = rw (r, o, i) refl
counted h (refused k steps) replicas operations inserts r o i = rw (r, o, i) refl
