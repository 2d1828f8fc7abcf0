-- Worked certificates: which are valid for the worked recordings, the first reason against others, and the
-- rows that are written for a refusal.
use Rattle.std.specs.Prelude.{List, [], ◌∷◌, ◌++◌}
use Rattle.specification.specs.Faults.{contents}
use Rattle.specification.specs.Conflict.{Step}
use Rattle.specification.specs.Verdict.{refused}
use Rattle.specification.specs.LayerRule.{Row}
use Rattle.specification.specs.Versions.{Version, one, two}
use Rattle.specification.specs.CertificateText.{names_fault, gives_order, gives_cycle}
use Rattle.specification.specs.ValidCertificate.{IsValid, IsFirstReason, wrong_fault, not_order, not_followed}
use Rattle.specification.specs.ValidCertificate.{no_cycle, missing_layer, short_layer, extra_layer}
use Rattle.specification.specs.ExactRows.{IsCertificateOf}
use Rattle.specification.specs.WorkedRecordings.{at, step, a, b, x, empty_recording, insert_delete_read}
use Rattle.specification.specs.WorkedRecordings.{three_way_cycle, three_steps, three_rows, three_rows_of_two}
use Rattle.specification.specs.WorkedRecordings.{opposite_pair, two_steps, ring_of_four, four_steps}
use Rattle.specification.specs.WorkedRecordings.{four_rows, four_rows_of_two, read_shows_deleted}
use Rattle.specification.specs.WorkedRecordings.{both_inserts_read}

abbrev pub ValidCertificates : Type 0
ValidCertificates =
    ((version : Version) → IsValid version insert_delete_read (gives_order (a ∷ []))
    × IsValid version opposite_pair (gives_cycle 2 two_steps [])
    × IsValid version read_shows_deleted (names_fault (contents (at 0 3))))
    × IsValid one three_way_cycle (gives_cycle 3 three_steps three_rows)
    × IsValid two three_way_cycle (gives_cycle 3 three_steps three_rows_of_two)
    × IsValid one ring_of_four (gives_cycle 4 four_steps four_rows)
    × IsValid two ring_of_four (gives_cycle 4 four_steps four_rows_of_two)

-- the rows that are written are those of shortest ways
abbrev pub WrittenRows : Type 0
WrittenRows =
    IsCertificateOf one three_way_cycle (refused 3 three_steps) (gives_cycle 3 three_steps three_rows)
    × IsCertificateOf two three_way_cycle (refused 3 three_steps)
    (gives_cycle 3 three_steps three_rows_of_two)
    × IsCertificateOf one ring_of_four (refused 4 four_steps) (gives_cycle 4 four_steps four_rows)
    × IsCertificateOf two ring_of_four (refused 4 four_steps) (gives_cycle 4 four_steps four_rows_of_two)

-- the first step turned round
abbrev pub turned_steps : List Step
turned_steps = step b x (at 2 1) ∷ step b a (at 0 3) ∷ step a x (at 1 1) ∷ []

abbrev pub two_rows : List Row
two_rows = ((x ∷ []) ∷ (b ∷ []) ∷ []) ∷ ((a ∷ []) ∷ (x ∷ []) ∷ []) ∷ []

abbrev pub WrongCertificates : Type 0
WrongCertificates =
    ((version : Version)
    → IsFirstReason version three_way_cycle (gives_cycle 3 turned_steps three_rows) (no_cycle 1)
    × IsFirstReason version empty_recording (gives_order (a ∷ [])) not_order
    × IsFirstReason version both_inserts_read (gives_order (a ∷ b ∷ [])) (not_followed (at 0 2))
    × IsFirstReason version insert_delete_read (names_fault (contents (at 0 1))) wrong_fault)
    × IsFirstReason one three_way_cycle (gives_cycle 3 three_steps two_rows) (missing_layer b)
    × IsFirstReason one three_way_cycle
    (gives_cycle 3 three_steps (three_rows ++ ((b ∷ []) ∷ (a ∷ []) ∷ []) ∷ [])) (extra_layer b)

-- the rows of one version are none of the other
abbrev pub OtherVersions : Type 0
OtherVersions =
    IsFirstReason two three_way_cycle (gives_cycle 3 three_steps three_rows) (short_layer a)
    × IsFirstReason one three_way_cycle (gives_cycle 3 three_steps three_rows_of_two) (short_layer a)

-- its four steps are shown and join, but its first row puts b in layer 1 where b stands before a and 3 is
-- asked
abbrev pub ForgedLayers : Type 0
ForgedLayers =
    (version : Version)
    → IsFirstReason version opposite_pair (gives_cycle 4 (two_steps ++ two_steps)
    (((a ∷ []) ∷ (b ∷ []) ∷ [] ∷ []) ∷ ((b ∷ []) ∷ (a ∷ []) ∷ [] ∷ []) ∷ []))
    (short_layer a)
