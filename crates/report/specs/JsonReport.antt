-- The report of a verdict, as one JSON object in serde_json's compact text, and a LF.
use Rattle.std.specs.Prelude.{ℕ, ◌==◌, not, Bool, true, false, List, [], ◌∷◌, ◌++◌, codes}
use Rattle.serde_json.specs.Data.{Data, Items, Members}
use Rattle.serde_json.specs.Data as json
use Rattle.serde_json.specs.Written.{compact_text}
use Rattle.events.specs.Names.{NameBytes}
use Rattle.events.specs.Operation.{Operation}
use Rattle.events.specs.History.{History}
use Rattle.events.specs.Operations.{response}
use Rattle.specification.specs.Faults.{doubled, contents, position}
use Rattle.specification.specs.Conflict.{Step}
use Rattle.specification.specs.Verdict.{Verdict, faulty, accepted, refused}
use Rattle.specification.specs.Lines.{operation_text}
use Rattle.specification.specs.ReportText.{operation_count, insert_count}

abbrev pub count_json : ℕ → Data
count_json n = json.number (json.unsigned n)

abbrev pub operation_json : Operation → Data
operation_json o = json.string (operation_text o)

abbrev pub names_json : List NameBytes → Items
names_json [] = json.no_items
names_json (a ∷ names) = json.item (json.string a) (names_json names)

abbrev pub member : List ℕ → Data → Members → Members
member key value rest = json.member key value rest

abbrev pub step_json : History → Step → Data
step_json h s = json.object
    (member (codes "from") (json.string s.from)
    (member (codes "response") (json.array (names_json (response h s.shown)))
    (member (codes "shown") (operation_json s.shown)
    (member (codes "to") (json.string s.to) json.no_members))))

abbrev pub steps_json : History → List Step → Items
steps_json h [] = json.no_items
steps_json h (s ∷ steps) = json.item (step_json h s) (steps_json h steps)

-- `strong`, `verdict` and `weak`, the last members
abbrev pub outcome : Bool → List ℕ → Bool → Members
outcome strong verdict weak =
    member (codes "strong") (json.boolean strong) (member (codes "verdict") (json.string verdict)
    (member (codes "weak") (json.boolean weak) json.no_members))

-- the members that every report but that of doubled names has around its own
abbrev pub fault_json : History → Operation → List ℕ → Data
fault_json h at verdict = json.object
    (member (codes "at") (operation_json at)
    (member (codes "inserts") (count_json (insert_count h))
    (member (codes "operations") (count_json (operation_count h))
    (member (codes "replicas") (count_json h.replicas) (outcome false verdict false)))))

abbrev pub report_data : History → Verdict → Data
report_data h (faulty (doubled first again)) = json.object
    (member (codes "again") (operation_json again)
    (member (codes "first") (operation_json first)
    (member (codes "inserts") (count_json (insert_count h))
    (member (codes "operations") (count_json (operation_count h))
    (member (codes "replicas") (count_json h.replicas)
    (member (codes "verdict") (json.string (codes "doubled")) json.no_members))))))
report_data h (faulty (contents at)) = fault_json h at (codes "contents")
report_data h (faulty (position at)) = fault_json h at (codes "position")
report_data h (accepted order) = json.object
    (member (codes "inserts") (count_json (insert_count h))
    (member (codes "operations") (count_json (operation_count h))
    (member (codes "order") (json.array (names_json order))
    (member (codes "replicas") (count_json h.replicas) (outcome true (codes "accepted") true)))))
report_data h (refused k steps) = json.object
    (member (codes "inserts") (count_json (insert_count h))
    (member (codes "k") (count_json k)
    (member (codes "operations") (count_json (operation_count h))
    (member (codes "replicas") (count_json h.replicas)
    (member (codes "steps") (json.array (steps_json h steps))
    (outcome false (codes "refused") (not (k == 2))))))))

abbrev pub report_json : History → Verdict → List ℕ
report_json h v = compact_text (report_data h v) ++ 10 ∷ []
