-- Reports as JSON data, by their counts and the data of their members.
use Rattle.std.specs.Prelude.{ℕ, ◌==◌, not, true, false, List, codes}
use Rattle.serde_json.specs.Data.{Data}
use Rattle.serde_json.specs.Data as json
use Rattle.events.specs.History.{History}
use Rattle.specification.specs.Faults.{doubled, contents, position}
use Rattle.specification.specs.Verdict.{Verdict, faulty, accepted, refused}
use Rattle.report.specs.JsonReport.{count_json, operation_json, names_json, steps_json, member, outcome}

-- of a doubled name
abbrev pub doubled_object : (replicas operations inserts : ℕ) (first again : Data) → Data
doubled_object replicas operations inserts first again = json.object
    (member (codes "again") again
    (member (codes "first") first
    (member (codes "inserts") (count_json inserts)
    (member (codes "operations") (count_json operations)
    (member (codes "replicas") (count_json replicas)
    (member (codes "verdict") (json.string (codes "doubled")) json.no_members))))))

-- of an operation that is wrong
abbrev pub faulty_object : (replicas operations inserts : ℕ) (at : Data) (verdict : List ℕ) → Data
faulty_object replicas operations inserts at verdict = json.object
    (member (codes "at") at
    (member (codes "inserts") (count_json inserts)
    (member (codes "operations") (count_json operations)
    (member (codes "replicas") (count_json replicas) (outcome false verdict false)))))

-- of an acceptance
abbrev pub accepted_object : (replicas operations inserts : ℕ) (order : Data) → Data
accepted_object replicas operations inserts order = json.object
    (member (codes "inserts") (count_json inserts)
    (member (codes "operations") (count_json operations)
    (member (codes "order") order
    (member (codes "replicas") (count_json replicas) (outcome true (codes "accepted") true)))))

-- of a refusal
abbrev pub refused_object : (replicas operations inserts k : ℕ) (steps : Data) → Data
refused_object replicas operations inserts k steps = json.object
    (member (codes "inserts") (count_json inserts)
    (member (codes "k") (count_json k)
    (member (codes "operations") (count_json operations)
    (member (codes "replicas") (count_json replicas)
    (member (codes "steps") steps (outcome false (codes "refused") (not (k == 2))))))))

-- of a step
abbrev pub step_object : (from response shown to : Data) → Data
step_object from response shown to = json.object
    (member (codes "from") from
    (member (codes "response") response
    (member (codes "shown") shown
    (member (codes "to") to json.no_members))))

-- of any verdict on a recording
abbrev pub verdict_object : (replicas operations inserts : ℕ) → History → Verdict → Data
verdict_object replicas operations inserts h (faulty (doubled first again)) =
    doubled_object replicas operations inserts (operation_json first) (operation_json again)
verdict_object replicas operations inserts h (faulty (contents at)) =
    faulty_object replicas operations inserts (operation_json at) (codes "contents")
verdict_object replicas operations inserts h (faulty (position at)) =
    faulty_object replicas operations inserts (operation_json at) (codes "position")
verdict_object replicas operations inserts h (accepted order) =
    accepted_object replicas operations inserts (json.array (names_json order))
verdict_object replicas operations inserts h (refused k steps) =
    refused_object replicas operations inserts k (json.array (steps_json h steps))
