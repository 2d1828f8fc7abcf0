-- Parts of the report's text.
use Rattle.std.specs.Prelude.{ℕ, List, ◌∷◌, [], ◌++◌, codes, decimal}
use Rattle.events.specs.Names.{NameBytes}
use Rattle.events.specs.Operation.{Operation}
use Rattle.events.specs.History.{History}
use Rattle.specification.specs.Lines.{text_of, operation_text, order_line}
use Rattle.specification.specs.Conflict.{Step}
use Rattle.specification.specs.ReportText.{verdict_lines}
use Rattle.specification.specs.Verdict.{refused}

-- the line of counts, with its LF
abbrev pub counts_text : ℕ → ℕ → ℕ → List ℕ
counts_text replicas operations inserts =
    (codes "replicas " ++ decimal replicas ++ codes " operations " ++ decimal operations ++ codes " inserts "
    ++ decimal inserts) ++ 10 ∷ []

-- the lines of an operation that is wrong
abbrev pub faulty_text : List ℕ → Operation → List ℕ
faulty_text word at = word ++ (operation_text at ++ codes "\nstrong no\nweak no\n")

-- the lines of an acceptance
abbrev pub accepted_text : List NameBytes → List ℕ
accepted_text order =
    text_of (codes "accepted" ∷ codes "strong yes" ∷ codes "weak yes" ∷ order_line order ∷ [])

-- and of a refusal
abbrev pub refused_text : History → ℕ → List Step → List ℕ
refused_text h k steps = text_of (verdict_lines h (refused k steps))
