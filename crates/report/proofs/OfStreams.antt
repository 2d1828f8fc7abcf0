-- A report depends on a recording by its number of replicas, its counts and what its operations return; and
-- these are functions of its streams.
use Rattle.std.proofs.Common.{◌≡◌, ℕ, Option, Some, List, [], ◌∷◌, ◌++◌, ◌∙◌, map, length, ap, refl, sym}
use Rattle.std.proofs.Math.Path.{fun_ext}
use Rattle.std.proofs.lemmas.List.{length-map}
use Rattle.std.specs.Prelude.{option_map, unwrap_or, not, true, false, ◌==◌, codes, decimal}
use Rattle.serde_json.specs.Data.{Data, Items}
use Rattle.serde_json.specs.Data as json
use Rattle.serde_json.specs.Written.{compact_text}
use Rattle.events.specs.Names.{NameBytes}
use Rattle.events.specs.Operation.{Operation}
use Rattle.events.specs.History.{History, SameStreams, response_of}
use Rattle.events.specs.Operations.{operation_names, response}
use Rattle.specification.specs.Faults.{doubled, contents, position}
use Rattle.specification.specs.Conflict.{Step}
use Rattle.specification.specs.Responses.{Responses, Returned, responses_of}
use Rattle.specification.specs.Verdict.{Verdict, faulty, accepted, refused}
use Rattle.specification.specs.Lines.{Line, text_of, operation_text, order_line, names_text}
use Rattle.specification.specs.ReportText.{operation_count, insert_count, fault_lines, weak_line, report_text}
use Rattle.specification.proofs.SameStreams.{same_body, same_responses}
use Rattle.report.specs.JsonReport.{count_json, operation_json, names_json, member, outcome, report_json}
use Rattle.report.specs.JsonReport.{report_data, step_json, steps_json}
use Rattle.report.specs.Laws.{ReportsAreOfStreams}

-- the lines of a verdict, where operations return so
abbrev lines_by : (Operation → List NameBytes) → Verdict → List Line
lines_by returned (faulty fault) = fault_lines fault
lines_by returned (accepted order) =
    codes "accepted" ∷ codes "strong yes" ∷ codes "weak yes" ∷ order_line order ∷ []
lines_by returned (refused k steps) =
    (codes "refused " ++ decimal k) ∷ codes "strong no" ∷ weak_line k
    ∷ map (λ s. codes "step " ++ s.from ++ 32 ∷ s.to ++ 32 ∷ operation_text s.shown ++ codes " :"
    ++ names_text (returned s.shown)) steps

abbrev text_by : ℕ → ℕ → ℕ → (Operation → List NameBytes) → Verdict → List ℕ
text_by replicas operations inserts returned v =
    text_of ((codes "replicas " ++ decimal replicas ++ codes " operations " ++ decimal operations
    ++ codes " inserts " ++ decimal inserts) ∷ lines_by returned v)

text-by : (h : History) (v : Verdict)
    → report_text h v ≡ text_by h.replicas (operation_count h) (insert_count h) (response h) v
text-by h (faulty fault) = refl
text-by h (accepted order) = refl
text-by h (refused k steps) = refl

-- the same as JSON
abbrev steps_by : (Operation → List NameBytes) → List Step → Items
steps_by returned [] = json.no_items
steps_by returned (s ∷ steps) = json.item
    (json.object
    (member (codes "from") (json.string s.from)
    (member (codes "response") (json.array (names_json (returned s.shown)))
    (member (codes "shown") (operation_json s.shown)
    (member (codes "to") (json.string s.to) json.no_members)))))
    (steps_by returned steps)

abbrev fault_by : ℕ → ℕ → ℕ → Operation → List ℕ → Data
fault_by replicas operations inserts at verdict = json.object
    (member (codes "at") (operation_json at)
    (member (codes "inserts") (count_json inserts)
    (member (codes "operations") (count_json operations)
    (member (codes "replicas") (count_json replicas) (outcome false verdict false)))))

abbrev data_by : ℕ → ℕ → ℕ → (Operation → List NameBytes) → Verdict → Data
data_by replicas operations inserts returned (faulty (doubled first again)) = json.object
    (member (codes "again") (operation_json again)
    (member (codes "first") (operation_json first)
    (member (codes "inserts") (count_json inserts)
    (member (codes "operations") (count_json operations)
    (member (codes "replicas") (count_json replicas)
    (member (codes "verdict") (json.string (codes "doubled")) json.no_members))))))
data_by replicas operations inserts returned (faulty (contents at)) =
    fault_by replicas operations inserts at (codes "contents")
data_by replicas operations inserts returned (faulty (position at)) =
    fault_by replicas operations inserts at (codes "position")
data_by replicas operations inserts returned (accepted order) = json.object
    (member (codes "inserts") (count_json inserts)
    (member (codes "operations") (count_json operations)
    (member (codes "order") (json.array (names_json order))
    (member (codes "replicas") (count_json replicas) (outcome true (codes "accepted") true)))))
data_by replicas operations inserts returned (refused k steps) = json.object
    (member (codes "inserts") (count_json inserts)
    (member (codes "k") (count_json k)
    (member (codes "operations") (count_json operations)
    (member (codes "replicas") (count_json replicas)
    (member (codes "steps") (json.array (steps_by returned steps))
    (outcome false (codes "refused") (not (k == 2))))))))

steps-by : (h : History) (steps : List Step) → steps_json h steps ≡ steps_by (response h) steps
steps-by h [] = refl
steps-by h (s ∷ steps) = ap (λ rest. json.item (step_json h s) rest) (steps-by h steps)

data-by : (h : History) (v : Verdict)
    → report_data h v ≡ data_by h.replicas (operation_count h) (insert_count h) (response h) v
data-by h (faulty (doubled first again)) = refl
data-by h (faulty (contents at)) = refl
data-by h (faulty (position at)) = refl
data-by h (accepted order) = refl
data-by h (refused k steps) = ap (λ items. json.object
    (member (codes "inserts") (count_json (insert_count h))
    (member (codes "k") (count_json k)
    (member (codes "operations") (count_json (operation_count h))
    (member (codes "replicas") (count_json h.replicas)
    (member (codes "steps") (json.array items) (outcome false (codes "refused") (not (k == 2)))))))))
    (steps-by h steps)

-- as many responses are returned as there are operations
count-returned : (h : History) → length (responses_of h).returned ≡ operation_count h
count-returned h = length-map (operation_names h) _

module _ (g h : History) (same : SameStreams g h) where
  same_counts : operation_count g ≡ operation_count h
  same_counts = sym (count-returned g) ∙ ap (λ (r : Responses). length r.returned) (same_responses g h same)
      ∙ count-returned h

  same_inserts : insert_count g ≡ insert_count h
  same_inserts = ap (λ (r : Responses). length r.elements) (same_responses g h same)

  same_returned : Path (Operation → List NameBytes) (response g) (response h)
  same_returned = fun_ext (λ o. ap (λ b. unwrap_or (option_map response_of b) []) (same_body g h same o))

  by-streams : (A : Type 0) (f : ℕ → ℕ → ℕ → (Operation → List NameBytes) → A)
      → f g.replicas (operation_count g) (insert_count g) (response g)
      ≡ f h.replicas (operation_count h) (insert_count h) (response h)
  by-streams A f = λ i. f (same.replicas i) (same_counts i) (same_inserts i) (same_returned i)

pub reports_are_of_streams : ReportsAreOfStreams
reports_are_of_streams g h v same = (
  text-by g v ∙ by-streams g h same (List ℕ) (λ r o n f. text_by r o n f v) ∙ sym (text-by h v),
  ap (λ d. compact_text d ++ 10 ∷ [])
      (data-by g v ∙ by-streams g h same Data (λ r o n f. data_by r o n f v) ∙ sym (data-by h v)),
)
