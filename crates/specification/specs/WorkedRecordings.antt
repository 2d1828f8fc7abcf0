-- Worked recordings: for each, that it is legal, its verdict, its texts, and what it shows, in the words of
-- the definitions.
use Rattle.std.specs.Prelude.{◌≡◌, ℕ, List, [], ◌∷◌, codes}
use Rattle.std.specs.Prelude.{Err}
use Rattle.events.specs.Names.{NameBytes}
use Rattle.events.specs.Operation.{Operation}
use Rattle.events.specs.History.{History, IsLegal}
use Rattle.events.specs.Session.{reply}
use Rattle.specification.specs.Visibility.{Visible}
use Rattle.specification.specs.Elements.{elements}
use Rattle.specification.specs.Faults.{doubled, contents, position}
use Rattle.specification.specs.ListSpecification.{MeetsStrong, MeetsWeak}
use Rattle.specification.specs.Responses.{responses_of}
use Rattle.specification.specs.Conflict.{Step}
use Rattle.specification.specs.Verdict.{Verdict, faulty, accepted, refused, IsVerdict}
use Rattle.specification.specs.LayerRule.{Row}
use Rattle.specification.specs.CertificateText.{gives_order, gives_cycle, certificate_text}
use Rattle.specification.specs.ReportText.{report_text}
use Rattle.specification.specs.TraceText.{trace_text}
use Rattle.specification.specs.Versions.{one, two}
use Rattle.specification.specs.Lines.{Line, text_of}
use Rattle.specification.specs.Laws.{HasOppositePair}
use Rattle.events.specs.declared.entry.Entry.{Entry}
use Rattle.events.specs.declared.entry.Body.TheVariants.{Ins, Del, Read, View, Recv}
use Rattle.events.specs.declared.refusal.Refusal.TheVariants.{NotYet, OwnReceipt}

-- how recordings and steps are written down here
abbrev pub at : ℕ → ℕ → Operation
at r n = record { replica = r; n = n }

abbrev pub ins : ℕ → NameBytes → ℕ → List NameBytes → Entry
ins r name k w = record { replica = r; body = Ins name k w }

abbrev pub del : ℕ → NameBytes → List NameBytes → Entry
del r name w = record { replica = r; body = Del name w }

abbrev pub read : ℕ → List NameBytes → Entry
read r w = record { replica = r; body = Read w }

abbrev pub view : ℕ → List NameBytes → Entry
view r w = record { replica = r; body = View w }

abbrev pub recv : ℕ → ℕ → ℕ → Entry
recv r q n = record { replica = r; body = Recv (at q n) }

abbrev pub recording : ℕ → List Entry → History
recording replicas entries = record { replicas = replicas; entries = entries }

abbrev pub step : NameBytes → NameBytes → Operation → Step
step from to shown = record { from = from; to = to; shown = shown }

abbrev pub a : NameBytes
a = codes "a"

abbrev pub b : NameBytes
b = codes "b"

abbrev pub c : NameBytes
c = codes "c"

abbrev pub d : NameBytes
d = codes "d"

abbrev pub x : NameBytes
x = codes "x"

-- the recording is legal, this is its verdict, and these are the lines of its report
pub record Judged (h : History) (v : Verdict) (lines : List Line) : Type 0 where
  pub legal : IsLegal h
  pub verdict : IsVerdict h v
  pub report : report_text h v ≡ text_of lines

-- what it shows of the two specifications
abbrev pub MeetsBoth : History → Type 0
MeetsBoth h = MeetsStrong h × MeetsWeak h

abbrev pub MeetsWeakAlone : History → Type 0
MeetsWeakAlone h = (¬ MeetsStrong h) × MeetsWeak h

abbrev pub FailsBoth : History → Type 0
FailsBoth h = (¬ MeetsStrong h) × (¬ MeetsWeak h)

-- a recording without entries
abbrev pub empty_recording : History
empty_recording = recording 1 []

abbrev pub EmptyRecording : Type 0
EmptyRecording =
    Judged empty_recording (accepted []) (codes "replicas 1 operations 0 inserts 0" ∷ codes "accepted"
    ∷ codes "strong yes" ∷ codes "weak yes" ∷ codes "order :" ∷ [])
    × MeetsBoth empty_recording

-- the deleted element stays in the order
abbrev pub insert_delete_read : History
insert_delete_read = recording 1 (ins 0 a 0 (a ∷ []) ∷ del 0 a [] ∷ read 0 [] ∷ [])

abbrev pub InsertDeleteRead : Type 0
InsertDeleteRead =
    Judged insert_delete_read (accepted (a ∷ [])) (codes "replicas 1 operations 3 inserts 1"
    ∷ codes "accepted" ∷ codes "strong yes" ∷ codes "weak yes" ∷ codes "order : a" ∷ [])
    × MeetsBoth insert_delete_read
    × (certificate_text one (gives_order (a ∷ []))
    ≡ text_of (codes "cert 1" ∷ codes "accepted" ∷ codes "order : a" ∷ []))
    × (certificate_text two (gives_order (a ∷ []))
    ≡ text_of (codes "cert 2" ∷ codes "accepted" ∷ codes "order : a" ∷ []))

-- a before x, x before b, b before a, each shown by another operation: strong fails and weak doesn't
abbrev pub three_way_cycle : History
three_way_cycle =
    recording 3 (ins 0 x 0 (x ∷ []) ∷ recv 1 0 1 ∷ recv 2 0 1 ∷ ins 1 a 0 (a ∷ x ∷ [])
    ∷ ins 2 b 1 (x ∷ b ∷ []) ∷ del 0 x []
    ∷ recv 0 1 1 ∷ recv 0 2 1 ∷ read 0 (b ∷ a ∷ []) ∷ [])

abbrev pub three_steps : List Step
three_steps = step x b (at 2 1) ∷ step b a (at 0 3) ∷ step a x (at 1 1) ∷ []

abbrev pub three_rows : List Row
three_rows = ((x ∷ []) ∷ (b ∷ []) ∷ []) ∷ ((a ∷ []) ∷ (x ∷ []) ∷ []) ∷ ((b ∷ []) ∷ (a ∷ []) ∷ []) ∷ []

-- of elements that are not numbered below the source
abbrev pub three_rows_of_two : List Row
three_rows_of_two = ((x ∷ []) ∷ (b ∷ []) ∷ []) ∷ ((a ∷ []) ∷ [] ∷ []) ∷ ((b ∷ []) ∷ [] ∷ []) ∷ []

abbrev pub ThreeWayCycle : Type 0
ThreeWayCycle =
    Judged three_way_cycle (refused 3 three_steps) (codes "replicas 3 operations 5 inserts 3"
    ∷ codes "refused 3" ∷ codes "strong no" ∷ codes "weak yes"
    ∷ codes "step x b 2.1 : x b" ∷ codes "step b a 0.3 : b a" ∷ codes "step a x 1.1 : a x" ∷ [])
    × MeetsWeakAlone three_way_cycle
    × (elements three_way_cycle ≡ x ∷ a ∷ b ∷ [])
    × (trace_text three_way_cycle
    ≡ text_of (codes "trace 1" ∷ codes "replicas 3" ∷ codes "0 ins x 0 : x" ∷ codes "1 recv 0 1"
    ∷ codes "2 recv 0 1"
    ∷ codes "1 ins a 0 : a x" ∷ codes "2 ins b 1 : x b" ∷ codes "0 del x :" ∷ codes "0 recv 1 1"
    ∷ codes "0 recv 2 1" ∷ codes "0 read : b a" ∷ []))
    × (certificate_text one (gives_cycle 3 three_steps three_rows)
    ≡ text_of (codes "cert 1" ∷ codes "refused 3" ∷ codes "step x b 2.1" ∷ codes "step b a 0.3"
    ∷ codes "step a x 1.1" ∷ codes "layers x / b" ∷ codes "layers a / x" ∷ codes "layers b / a" ∷ []))
    × (certificate_text two (gives_cycle 3 three_steps three_rows_of_two)
    ≡ text_of (codes "cert 2" ∷ codes "refused 3" ∷ codes "step x b 2.1" ∷ codes "step b a 0.3"
    ∷ codes "step a x 1.1" ∷ codes "layers x / b" ∷ codes "layers a /" ∷ codes "layers b /" ∷ []))

-- two operations show a and b in opposite orders: both specifications fail
abbrev pub opposite_pair : History
opposite_pair =
    recording 2 (ins 0 a 0 (a ∷ []) ∷ ins 1 b 0 (b ∷ []) ∷ recv 0 1 1 ∷ recv 1 0 1 ∷ read 0 (a ∷ b ∷ [])
    ∷ read 1 (b ∷ a ∷ []) ∷ [])

abbrev pub two_steps : List Step
two_steps = step a b (at 0 2) ∷ step b a (at 1 2) ∷ []

abbrev pub OppositePair : Type 0
OppositePair =
    Judged opposite_pair (refused 2 two_steps) (codes "replicas 2 operations 4 inserts 2" ∷ codes "refused 2"
    ∷ codes "strong no" ∷ codes "weak no"
    ∷ codes "step a b 0.2 : a b" ∷ codes "step b a 1.2 : b a" ∷ [])
    × FailsBoth opposite_pair
    × HasOppositePair (responses_of opposite_pair)
    × (certificate_text one (gives_cycle 2 two_steps [])
    ≡ text_of (codes "cert 1" ∷ codes "refused 2" ∷ codes "step a b 0.2" ∷ codes "step b a 1.2" ∷ []))

-- four operations, each three of which one order follows
abbrev pub ring_of_four : History
ring_of_four =
    recording 6 (ins 0 a 0 (a ∷ []) ∷ ins 1 b 0 (b ∷ []) ∷ recv 2 0 1 ∷ recv 2 1 1 ∷ read 2 (a ∷ b ∷ [])
    ∷ recv 3 1 1 ∷ ins 3 c 1 (b ∷ c ∷ [])
    ∷ recv 4 3 1 ∷ del 4 b (c ∷ []) ∷ ins 4 d 1 (c ∷ d ∷ []) ∷ recv 5 4 2 ∷ del 5 c (d ∷ []) ∷ recv 5 0 1
    ∷ read 5 (d ∷ a ∷ []) ∷ [])

abbrev pub four_steps : List Step
four_steps = step a b (at 2 1) ∷ step b c (at 3 1) ∷ step c d (at 4 2) ∷ step d a (at 5 2) ∷ []

abbrev pub four_rows : List Row
four_rows =
    ((a ∷ []) ∷ (b ∷ []) ∷ (c ∷ []) ∷ []) ∷ ((b ∷ []) ∷ (c ∷ []) ∷ (d ∷ []) ∷ [])
    ∷ ((c ∷ []) ∷ (d ∷ []) ∷ (a ∷ []) ∷ [])
    ∷ ((d ∷ []) ∷ (a ∷ []) ∷ (b ∷ []) ∷ []) ∷ []

abbrev pub four_rows_of_two : List Row
four_rows_of_two =
    ((a ∷ []) ∷ (b ∷ []) ∷ (c ∷ []) ∷ []) ∷ ((b ∷ []) ∷ (c ∷ []) ∷ (d ∷ []) ∷ [])
    ∷ ((c ∷ []) ∷ (d ∷ []) ∷ [] ∷ [])
    ∷ ((d ∷ []) ∷ [] ∷ [] ∷ []) ∷ []

abbrev pub RingOfFour : Type 0
RingOfFour =
    Judged ring_of_four (refused 4 four_steps) (codes "replicas 6 operations 8 inserts 4" ∷ codes "refused 4"
    ∷ codes "strong no" ∷ codes "weak yes"
    ∷ codes "step a b 2.1 : a b" ∷ codes "step b c 3.1 : b c" ∷ codes "step c d 4.2 : c d"
    ∷ codes "step d a 5.2 : d a" ∷ [])
    × MeetsWeakAlone ring_of_four
    × (certificate_text one (gives_cycle 4 four_steps four_rows)
    ≡ text_of (codes "cert 1" ∷ codes "refused 4" ∷ codes "step a b 2.1" ∷ codes "step b c 3.1"
    ∷ codes "step c d 4.2" ∷ codes "step d a 5.2" ∷ codes "layers a / b / c" ∷ codes "layers b / c / d"
    ∷ codes "layers c / d / a" ∷ codes "layers d / a / b" ∷ []))
    × (certificate_text two (gives_cycle 4 four_steps four_rows_of_two)
    ≡ text_of (codes "cert 2" ∷ codes "refused 4" ∷ codes "step a b 2.1" ∷ codes "step b c 3.1"
    ∷ codes "step c d 4.2" ∷ codes "step d a 5.2" ∷ codes "layers a / b / c" ∷ codes "layers b / c / d"
    ∷ codes "layers c / d /" ∷ codes "layers d / /" ∷ []))

-- wrong contents: a deleted element, a repeated name, an element hidden after two receipts
abbrev pub read_shows_deleted : History
read_shows_deleted = recording 1 (ins 0 a 0 (a ∷ []) ∷ del 0 a [] ∷ read 0 (a ∷ []) ∷ [])

abbrev pub ReadShowsDeleted : Type 0
ReadShowsDeleted =
    Judged read_shows_deleted (faulty (contents (at 0 3))) (codes "replicas 1 operations 3 inserts 1"
    ∷ codes "contents 0.3" ∷ codes "strong no" ∷ codes "weak no" ∷ [])
    × FailsBoth read_shows_deleted

abbrev pub repeated_name : History
repeated_name = recording 1 (ins 0 a 0 (a ∷ []) ∷ read 0 (a ∷ a ∷ []) ∷ [])

abbrev pub RepeatedName : Type 0
RepeatedName =
    Judged repeated_name (faulty (contents (at 0 2))) (codes "replicas 1 operations 2 inserts 1"
    ∷ codes "contents 0.2" ∷ codes "strong no" ∷ codes "weak no" ∷ [])
    × FailsBoth repeated_name

abbrev pub chain_of_receipts : History
chain_of_receipts =
    recording 3 (ins 0 a 0 (a ∷ []) ∷ recv 1 0 1 ∷ ins 1 b 1 (a ∷ b ∷ []) ∷ recv 2 1 1 ∷ read 2 (b ∷ []) ∷ [])

abbrev pub ChainOfReceipts : Type 0
ChainOfReceipts =
    Judged chain_of_receipts (faulty (contents (at 2 1))) (codes "replicas 3 operations 3 inserts 2"
    ∷ codes "contents 2.1" ∷ codes "strong no" ∷ codes "weak no" ∷ [])
    × FailsBoth chain_of_receipts
    × Visible chain_of_receipts (at 0 1) (at 2 1)

-- past the end an insert stands last; anywhere else is a wrong position
abbrev pub past_the_end : List NameBytes → History
past_the_end w = recording 1 (ins 0 a 0 (a ∷ []) ∷ ins 0 b 4294967295 w ∷ [])

abbrev pub InsertPastTheEnd : Type 0
InsertPastTheEnd =
    Judged (past_the_end (a ∷ b ∷ [])) (accepted (a ∷ b ∷ []))
    (codes "replicas 1 operations 2 inserts 2" ∷ codes "accepted" ∷ codes "strong yes" ∷ codes "weak yes"
    ∷ codes "order : a b" ∷ [])
    × Judged (past_the_end (b ∷ a ∷ [])) (faulty (position (at 0 2)))
    (codes "replicas 1 operations 2 inserts 2" ∷ codes "position 0.2" ∷ codes "strong no"
    ∷ codes "weak no" ∷ [])
    × FailsBoth (past_the_end (b ∷ a ∷ []))

-- an insert whose response is empty stands nowhere, though its contents are right: a delete of it came before
abbrev pub deleted_before_inserted : History
deleted_before_inserted = recording 1 (del 0 a [] ∷ ins 0 a 0 [] ∷ [])

abbrev pub DeletedBeforeInserted : Type 0
DeletedBeforeInserted =
    Judged deleted_before_inserted (faulty (position (at 0 2)))
    (codes "replicas 1 operations 2 inserts 1" ∷ codes "position 0.2" ∷ codes "strong no"
    ∷ codes "weak no" ∷ [])

-- two operations insert b, in either order of their entries
abbrev pub DoubledName : Type 0
DoubledName =
    Judged (recording 2 (ins 0 a 0 (a ∷ []) ∷ ins 0 b 1 (a ∷ b ∷ []) ∷ ins 1 b 0 (b ∷ []) ∷ []))
    (faulty (doubled (at 0 2) (at 1 1))) (codes "replicas 2 operations 3 inserts 3"
    ∷ codes "doubled 0.2 1.1" ∷ [])
    × Judged (recording 2 (ins 1 b 0 (b ∷ []) ∷ ins 0 a 0 (a ∷ []) ∷ ins 0 b 1 (a ∷ b ∷ []) ∷ []))
    (faulty (doubled (at 0 2) (at 1 1))) (codes "replicas 2 operations 3 inserts 3"
    ∷ codes "doubled 0.2 1.1" ∷ [])

-- a receipt comes after what it names and is never of one's own operation; twice does no harm
abbrev pub Receipts : Type 0
Receipts =
    (reply 2 (ins 0 a 0 (a ∷ []) ∷ []) (recv 1 0 2) ≡ Err (NotYet 1))
    × (reply 2 (ins 0 a 0 (a ∷ []) ∷ []) (recv 0 0 1) ≡ Err OwnReceipt)
    × Judged (recording 2 (ins 0 a 0 (a ∷ []) ∷ recv 1 0 1 ∷ recv 1 0 1 ∷ read 1 (a ∷ []) ∷ []))
    (accepted (a ∷ [])) (codes "replicas 2 operations 2 inserts 1" ∷ codes "accepted" ∷ codes "strong yes"
    ∷ codes "weak yes" ∷ codes "order : a" ∷ [])

-- of several orders that follow, the first by the elements' numbers; one alone where a response decides
abbrev pub both_inserts : History
both_inserts = recording 2 (ins 0 a 0 (a ∷ []) ∷ ins 1 b 0 (b ∷ []) ∷ [])

abbrev pub both_inserts_read : History
both_inserts_read =
    recording 2 (ins 0 a 0 (a ∷ []) ∷ ins 1 b 0 (b ∷ []) ∷ recv 0 1 1 ∷ read 0 (b ∷ a ∷ []) ∷ [])

abbrev pub LeastOfSeveralOrders : Type 0
LeastOfSeveralOrders =
    Judged both_inserts (accepted (a ∷ b ∷ [])) (codes "replicas 2 operations 2 inserts 2" ∷ codes "accepted"
    ∷ codes "strong yes" ∷ codes "weak yes" ∷ codes "order : a b" ∷ [])
    × Judged both_inserts_read (accepted (b ∷ a ∷ [])) (codes "replicas 2 operations 3 inserts 2"
    ∷ codes "accepted" ∷ codes "strong yes" ∷ codes "weak yes" ∷ codes "order : b a" ∷ [])

-- a view may leave elements out, the last of all too
abbrev pub view_leaves_out : History
view_leaves_out =
    recording 2 (ins 0 a 0 (a ∷ []) ∷ ins 0 b 1 (a ∷ b ∷ []) ∷ recv 1 0 2 ∷ view 1 (b ∷ []) ∷ [])

abbrev pub empty_view : History
empty_view = recording 1 (ins 0 a 0 (a ∷ []) ∷ view 0 [] ∷ [])

-- each shows two of three elements, and no order has all three
abbrev pub three_views : History
three_views =
    recording 3 (ins 0 a 0 (a ∷ []) ∷ ins 1 b 0 (b ∷ []) ∷ ins 2 c 0 (c ∷ []) ∷ recv 0 1 1 ∷ recv 0 2 1
    ∷ view 0 (a ∷ b ∷ []) ∷ view 0 (b ∷ c ∷ []) ∷ view 0 (c ∷ a ∷ []) ∷ [])

abbrev pub three_view_steps : List Step
three_view_steps = step a b (at 0 2) ∷ step b c (at 0 3) ∷ step c a (at 0 4) ∷ []

-- it holds no element that is deleted, and none twice
abbrev pub view_shows_deleted : History
view_shows_deleted = recording 1 (ins 0 a 0 (a ∷ []) ∷ del 0 a [] ∷ view 0 (a ∷ []) ∷ [])

abbrev pub view_repeats : History
view_repeats = recording 1 (ins 0 a 0 (a ∷ []) ∷ view 0 (a ∷ a ∷ []) ∷ [])

abbrev pub Views : Type 0
Views =
    Judged view_leaves_out (accepted (a ∷ b ∷ [])) (codes "replicas 2 operations 3 inserts 2"
    ∷ codes "accepted" ∷ codes "strong yes" ∷ codes "weak yes" ∷ codes "order : a b" ∷ [])
    × MeetsBoth view_leaves_out
    × (trace_text view_leaves_out
    ≡ text_of (codes "trace 2" ∷ codes "replicas 2" ∷ codes "0 ins a 0 : a" ∷ codes "0 ins b 1 : a b"
    ∷ codes "1 recv 0 2" ∷ codes "1 view : b" ∷ []))
    × Judged empty_view (accepted (a ∷ [])) (codes "replicas 1 operations 2 inserts 1" ∷ codes "accepted"
    ∷ codes "strong yes" ∷ codes "weak yes" ∷ codes "order : a" ∷ [])
    × Judged three_views (refused 3 three_view_steps) (codes "replicas 3 operations 6 inserts 3"
    ∷ codes "refused 3" ∷ codes "strong no" ∷ codes "weak yes"
    ∷ codes "step a b 0.2 : a b" ∷ codes "step b c 0.3 : b c" ∷ codes "step c a 0.4 : c a" ∷ [])
    × MeetsWeakAlone three_views
    × Judged view_shows_deleted (faulty (contents (at 0 3)))
    (codes "replicas 1 operations 3 inserts 1" ∷ codes "contents 0.3" ∷ codes "strong no"
    ∷ codes "weak no" ∷ [])
    × Judged view_repeats (faulty (contents (at 0 2))) (codes "replicas 1 operations 2 inserts 1"
    ∷ codes "contents 0.2" ∷ codes "strong no" ∷ codes "weak no" ∷ [])
    × FailsBoth view_repeats
