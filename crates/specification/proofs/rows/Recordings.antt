-- The worked recordings, computed: each is legal, its verdict is the one given, and its texts have the lines
-- given, each by running a test that decides it. What a recording shows of strong and weak follows from its
-- verdict.
use Rattle.std.proofs.Common.{◌≡◌, ℕ, ◌<◌, inl, List, [], ◌∷◌, true, refl, lit<}
use Rattle.std.specs.Fmt.{digits}
use Rattle.events.specs.History.{History}
use Rattle.specification.specs.Faults.{contents, position}
use Rattle.specification.specs.Responses.{responses_of}
use Rattle.specification.specs.Conflict.{Step}
use Rattle.specification.specs.Verdict.{Verdict, faulty, accepted, refused, DecidesSpecifications}
use Rattle.specification.specs.Lines.{Line, text_of}
use Rattle.specification.specs.ReportText.{report_text}
use Rattle.specification.specs.WorkedRecordings as worked
use Rattle.specification.proofs.Legality.{is_legal, legal-from}
use Rattle.specification.proofs.Judging.{is_verdict, verdict-from, Decides-stands_before}
use Rattle.specification.proofs.Sight.{Visible-from_sight}
use Rattle.specification.proofs.VerdictsDecide.{verdicts_decide}

judged : {h : History} {v : Verdict} {lines : List Line} → is_legal h ≡ true → is_verdict h v ≡ true
    → report_text h v ≡ text_of lines → worked.Judged h v lines
judged {h = h} {v = v} legal verdict report =
    record {
      legal = legal-from h legal;
      verdict = verdict-from h (legal-from h legal) v verdict;
      report = report;
    }

decides : (h : History) (v : Verdict) → is_legal h ≡ true → is_verdict h v ≡ true → DecidesSpecifications h v
decides h v legal verdict =
    verdicts_decide h v (legal-from h legal) (verdict-from h (legal-from h legal) v verdict)

-- what a refusal says of the two specifications
fails_both : (h : History) (steps : List Step) → is_legal h ≡ true → is_verdict h (refused 2 steps) ≡ true
    → worked.FailsBoth h
fails_both h steps legal verdict = let d : DecidesSpecifications h (refused 2 steps) =
    decides h (refused 2 steps) legal verdict in (d.0, d.2.1 refl)

meets_weak_alone : (h : History) (k : ℕ) (steps : List Step) → 2 < k → is_legal h ≡ true
    → is_verdict h (refused k steps) ≡ true → worked.MeetsWeakAlone h
meets_weak_alone h k steps lt legal verdict = let d : DecidesSpecifications h (refused k steps) =
    decides h (refused k steps) legal verdict in (d.0, d.3 lt)

pub empty_recording : worked.EmptyRecording
unfolding digits
empty_recording = (judged refl refl refl, decides worked.empty_recording (accepted []) refl refl)

pub insert_delete_read : worked.InsertDeleteRead
unfolding digits
insert_delete_read = (
  judged refl refl refl,
  decides worked.insert_delete_read (accepted (worked.a ∷ [])) refl refl,
  refl,
  refl,
)

pub three_way_cycle : worked.ThreeWayCycle
unfolding digits
three_way_cycle = (
  judged refl refl refl,
  meets_weak_alone worked.three_way_cycle 3 worked.three_steps (lit< tt) refl refl,
  refl,
  refl,
  refl,
  refl,
)

pub opposite_pair : worked.OppositePair
unfolding digits
opposite_pair = (
  judged refl refl refl,
  fails_both worked.opposite_pair worked.two_steps refl refl,
  (
    worked.a,
    worked.b,
    (Decides-stands_before (responses_of worked.opposite_pair) worked.a worked.b).0 refl,
    (Decides-stands_before (responses_of worked.opposite_pair) worked.b worked.a).0 refl,
  ),
  refl,
)

pub ring_of_four : worked.RingOfFour
unfolding digits
ring_of_four = (
  judged refl refl refl,
  meets_weak_alone worked.ring_of_four 4 worked.four_steps (lit< tt) refl refl,
  refl,
  refl,
)

pub read_shows_deleted : worked.ReadShowsDeleted
unfolding digits
read_shows_deleted =
    (judged refl refl refl, decides worked.read_shows_deleted (faulty (contents (worked.at 0 3))) refl refl)

pub repeated_name : worked.RepeatedName
unfolding digits
repeated_name =
    (judged refl refl refl, decides worked.repeated_name (faulty (contents (worked.at 0 2))) refl refl)

pub chain_of_receipts : worked.ChainOfReceipts
unfolding digits
chain_of_receipts = (
  judged refl refl refl,
  decides worked.chain_of_receipts (faulty (contents (worked.at 2 1))) refl refl,
  Visible-from_sight worked.chain_of_receipts (legal-from worked.chain_of_receipts refl) (worked.at 0 1)
      (worked.at 2 1) refl (inl refl),
)

pub insert_past_the_end : worked.InsertPastTheEnd
unfolding digits
insert_past_the_end = (
  judged refl refl refl,
  judged refl refl refl,
  decides (worked.past_the_end (worked.b ∷ worked.a ∷ [])) (faulty (position (worked.at 0 2))) refl refl,
)

pub deleted_before_inserted : worked.DeletedBeforeInserted
unfolding digits
deleted_before_inserted = judged refl refl refl

pub doubled_name : worked.DoubledName
unfolding digits
doubled_name = (judged refl refl refl, judged refl refl refl)

pub receipts : worked.Receipts
unfolding digits
receipts = (refl, refl, judged refl refl refl)

pub least_of_several_orders : worked.LeastOfSeveralOrders
unfolding digits
least_of_several_orders = (judged refl refl refl, judged refl refl refl)

pub views : worked.Views
unfolding digits
views = (
  judged refl refl refl,
  decides worked.view_leaves_out (accepted (worked.a ∷ worked.b ∷ [])) refl refl,
  refl,
  judged refl refl refl,
  judged refl refl refl,
  meets_weak_alone worked.three_views 3 worked.three_view_steps (lit< tt) refl refl,
  judged refl refl refl,
  judged refl refl refl,
  decides worked.view_repeats (faulty (contents (worked.at 0 2))) refl refl,
)
