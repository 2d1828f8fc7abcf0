-- The worked certificates, computed: soundness, steps and rows by tests that decide them, and for a wrong
-- certificate that what comes before the reason is right and the reason holds.
use Rattle.std.proofs.Common.{◌≡◌, ℕ, ◌≤◌, Bool, true, false, List, [], ◌∷◌, ◌++◌, length, refl, sym, ◌∙◌}
use Rattle.std.proofs.Common.{arith, lit<, lit≤}
use Rattle.std.specs.Prelude.{not, ◌||◌, Some, slice_get}
use Rattle.std.specs.List.{list_all}
use Rattle.std.proofs.lemmas.Bool.{false≢true}
use Rattle.events.specs.Names.{NameBytes}
use Rattle.events.specs.Operation.{Operation, operation_lt, ComesBefore, IsLeast}
use Rattle.events.specs.History.{History, IsLegal}
use Rattle.events.specs.Operations.{IsOperation, operation_names, response}
use Rattle.specification.specs.Faults.{IsSound, contents}
use Rattle.specification.specs.Responses.{responses_of}
use Rattle.specification.specs.Orders.{IsSubsequence}
use Rattle.specification.specs.Conflict.{Step}
use Rattle.specification.specs.LayerRule.{Row, row_responses}
use Rattle.specification.specs.Versions.{Version, one, two}
use Rattle.specification.specs.CertificateText.{gives_cycle, gives_order, names_fault}
use Rattle.specification.specs.ValidCertificate.{HasSource, IsValid, IsFirstReason, IsNotFollowed}
use Rattle.specification.specs.ValidCertificate.{wrong_fault, not_order, not_followed, no_cycle}
use Rattle.specification.specs.ValidCertificate.{missing_layer, short_layer, extra_layer}
use Rattle.specification.specs.ExactRows.{AreExactRows}
use Rattle.specification.specs.WorkedRecordings as recordings
use Rattle.specification.specs.WorkedCertificates as worked
use Rattle.specification.proofs.OperationNames.{operation-listed}
use Rattle.specification.proofs.Tests.{Decides-each, Decides-implies}
use Rattle.specification.proofs.Legality.{is_legal, legal-from}
use Rattle.specification.proofs.FirstFault.{is_sound, Decides-sound, Decides-first_fault}
use Rattle.specification.proofs.SoundResponses.{sound_responses_are_proper}
use Rattle.specification.proofs.Judging.{is_subsequence, Decides-subsequence, Decides-element_order}
use Rattle.specification.proofs.Judging.{is_following, Decides-following, Decides-shows}
use Rattle.specification.proofs.Certifying.{are_shown_steps, shown_steps-from, rows_meet_rule}
use Rattle.specification.proofs.Certifying.{rows_meet_rule-from, rows_right_before-from, are_right_rows}
use Rattle.specification.proofs.Certifying.{meets_layer_rule, Decides-layer_rule}
use Rattle.specification.proofs.Distances.{are_exact_rows, exact_rows-from}

sound : (h : History) → is_legal h ≡ true → is_sound h ≡ true → IsSound h
sound h legal t = (Decides-sound h (legal-from h legal)).0 t

valid_cycle : (version : Version) (h : History) (k : ℕ) (steps : List Step) (rows : List Row)
    → is_legal h ≡ true → is_sound h ≡ true → are_shown_steps (responses_of h) steps ≡ true → length steps ≡ k
    →
    rows_meet_rule version (responses_of h) k ((responses_of h).elements) rows ≡ true
    → IsValid version h (gives_cycle k steps rows)
valid_cycle version h k steps rows legal s shown size rule = (
  sound h legal s,
  shown_steps-from (responses_of h) steps shown,
  size,
  λ _. rows_meet_rule-from version (responses_of h) k ((responses_of h).elements) rows rule,
)

valid_order : (version : Version) (h : History) (order : List NameBytes) → is_legal h ≡ true
    → is_sound h ≡ true → is_following (responses_of h) order ≡ true → IsValid version h (gives_order order)
valid_order version h order legal s t = (
  sound h legal s,
  (Decides-following (responses_of h)
      (sound_responses_are_proper h (legal-from h legal) (sound h legal s)) order).0 t,
)

pub valid_certificates : worked.ValidCertificates
valid_certificates = (
  λ version. (
    valid_order version recordings.insert_delete_read (recordings.a ∷ []) refl refl refl,
    (
      sound recordings.opposite_pair refl refl,
      shown_steps-from (responses_of recordings.opposite_pair) recordings.two_steps refl,
      refl,
      λ le. absurd (omega (arith, le)),
    ),
    (Decides-first_fault recordings.read_shows_deleted (legal-from recordings.read_shows_deleted refl)
        (contents (recordings.at 0 3))).0 refl,
  ),
  valid_cycle one recordings.three_way_cycle 3 recordings.three_steps recordings.three_rows refl refl refl
      refl refl,
  valid_cycle two recordings.three_way_cycle 3 recordings.three_steps recordings.three_rows_of_two refl refl
      refl refl refl,
  valid_cycle one recordings.ring_of_four 4 recordings.four_steps recordings.four_rows refl refl refl refl
      refl,
  valid_cycle two recordings.ring_of_four 4 recordings.four_steps recordings.four_rows_of_two refl refl refl
      refl refl,
)

exact_rows : (version : Version) (h : History) (k : ℕ) (rows : List Row) → is_legal h ≡ true
    → is_sound h ≡ true → are_exact_rows version (responses_of h) k ((responses_of h).elements) rows ≡ true →
    AreExactRows version (responses_of h) k ((responses_of h).elements) rows
exact_rows version h k rows legal s t =
    exact_rows-from version (responses_of h) (sound_responses_are_proper h (legal-from h legal)
    (sound h legal s)) k ((responses_of h).elements) rows t

pub written_rows : worked.WrittenRows
written_rows = (
  (
    recordings.three_rows,
    refl,
    exact_rows one recordings.three_way_cycle 3 recordings.three_rows refl refl refl,
  ),
  (
    recordings.three_rows_of_two,
    refl,
    exact_rows two recordings.three_way_cycle 3 recordings.three_rows_of_two refl refl refl,
  ),
  (recordings.four_rows, refl, exact_rows one recordings.ring_of_four 4 recordings.four_rows refl refl refl),
  (
    recordings.four_rows_of_two,
    refl,
    exact_rows two recordings.ring_of_four 4 recordings.four_rows_of_two refl refl refl,
  ),
)

-- the first operation whose response the order doesn't have as a subsequence
abbrev followed_before : History → List NameBytes → Operation → Bool
followed_before h order at =
    list_all (λ f. not (operation_lt f at) || is_subsequence (response h f) order) (operation_names h)

not_followed-from : (h : History) (order : List NameBytes) (at : Operation) → IsLegal h → IsOperation h at
    → is_subsequence (response h at) order ≡ false →
    followed_before h order at ≡ true → IsLeast (IsNotFollowed h order) at
not_followed-from h order at legal is wrong before = record {
  holds = (is, λ s. false≢true (sym wrong ∙ (Decides-subsequence (response h at) order).1 s));
  least = λ f fails lt. fails.1
      ((Decides-each (λ f. not (operation_lt f at) || is_subsequence (response h f) order)
      (λ f. ComesBefore f at → IsSubsequence (response h f) order)
      (λ f. Decides-implies (operation_lt f at) (is_subsequence (response h f) order) (λ e. e, λ e. e)
      (λ _. Decides-subsequence (response h f) order)) (operation_names h)).0
      before f (operation-listed h f legal fails.0) lt);
}

turned_step : (version : Version)
    → IsFirstReason version recordings.three_way_cycle
    (gives_cycle 3 worked.turned_steps recordings.three_rows) (no_cycle 1)
turned_step version = (
  sound recordings.three_way_cycle refl refl,
  (
    lit< tt,
    λ right. false≢true
        ((Decides-shows (responses_of recordings.three_way_cycle) recordings.b recordings.x
        (recordings.at 2 1)).1
        (right (recordings.step recordings.b recordings.x (recordings.at 2 1)) refl).shown),
    λ j lt. absurd (omega (arith, lt)),
  ),
)

missing_row :
    IsFirstReason one recordings.three_way_cycle (gives_cycle 3 recordings.three_steps worked.two_rows)
    (missing_layer recordings.b)
missing_row = (
  sound recordings.three_way_cycle refl refl,
  shown_steps-from (responses_of recordings.three_way_cycle) recordings.three_steps refl,
  lit≤ tt,
  2,
  refl,
  rows_right_before-from one (responses_of recordings.three_way_cycle) 3 worked.two_rows 2 refl,
  λ row e. absurd Prim.cc,
)

abbrev rows_of_four : List Row
rows_of_four = recordings.three_rows ++ ((recordings.b ∷ []) ∷ (recordings.a ∷ []) ∷ []) ∷ []

extra_row : IsFirstReason one recordings.three_way_cycle (gives_cycle 3 recordings.three_steps rows_of_four)
    (extra_layer recordings.b)
extra_row = (
  sound recordings.three_way_cycle refl refl,
  shown_steps-from (responses_of recordings.three_way_cycle) recordings.three_steps refl,
  lit≤ tt,
  rows_right_before-from one (responses_of recordings.three_way_cycle) 3 rows_of_four 3 refl,
  (recordings.b ∷ []) ∷ (recordings.a ∷ []) ∷ [],
  refl,
  refl,
)

no_order : (version : Version)
    → IsFirstReason version recordings.empty_recording (gives_order (recordings.a ∷ [])) not_order
no_order version = (
  sound recordings.empty_recording refl refl,
  λ is. false≢true ((Decides-element_order (responses_of recordings.empty_recording)
      (sound_responses_are_proper recordings.empty_recording (legal-from recordings.empty_recording refl)
      (sound recordings.empty_recording refl refl)) (recordings.a ∷ [])).1 is),
)

other_order : (version : Version)
    → IsFirstReason version recordings.both_inserts_read (gives_order (recordings.a ∷ recordings.b ∷ []))
    (not_followed (recordings.at 0 2))
other_order version = (
  sound recordings.both_inserts_read refl refl,
  (Decides-element_order (responses_of recordings.both_inserts_read)
      (sound_responses_are_proper recordings.both_inserts_read (legal-from recordings.both_inserts_read refl)
      (sound recordings.both_inserts_read refl refl))
      (recordings.a ∷ recordings.b ∷ [])).0 refl,
  not_followed-from recordings.both_inserts_read (recordings.a ∷ recordings.b ∷ []) (recordings.at 0 2)
      (legal-from recordings.both_inserts_read refl) refl refl refl,
)

other_fault : (version : Version)
    → IsFirstReason version recordings.insert_delete_read (names_fault (contents (recordings.at 0 1)))
    wrong_fault
other_fault version is =
    false≢true
    ((Decides-first_fault recordings.insert_delete_read (legal-from recordings.insert_delete_read refl)
    (contents (recordings.at 0 1))).1 is)

pub wrong_certificates : worked.WrongCertificates
wrong_certificates = (
  λ version. (turned_step version, no_order version, other_order version, other_fault version),
  missing_row,
  extra_row,
)

-- the first row is right, and the second is not
short_row : (version : Version) (h : History) (k : ℕ) (steps : List Step) (first second : Row)
    (rows : List Row) (a : NameBytes) → is_legal h ≡ true → is_sound h ≡ true →
    are_shown_steps (responses_of h) steps ≡ true → 3 ≤ k → slice_get (responses_of h).elements 1 ≡ Some a →
    are_right_rows version (responses_of h) k ((responses_of h).elements) (first ∷ second ∷ rows) 1 ≡ true
    → HasSource second a →
    meets_layer_rule (row_responses version (responses_of h) a) k a second ≡ false
    → IsFirstReason version h (gives_cycle k steps (first ∷ second ∷ rows)) (short_layer a)
short_row version h k steps first second rows a legal s shown long at right source fails = (
  sound h legal s,
  shown_steps-from (responses_of h) steps shown,
  long,
  1,
  at,
  rows_right_before-from version (responses_of h) k (first ∷ second ∷ rows) 1 right,
  second,
  refl,
  source,
  λ rule. false≢true (sym fails
      ∙ (Decides-layer_rule (row_responses version (responses_of h) a) k a second).1 rule),
)

pub other_versions : worked.OtherVersions
other_versions = (
  short_row two recordings.three_way_cycle 3 recordings.three_steps
      ((recordings.x ∷ []) ∷ (recordings.b ∷ []) ∷ []) ((recordings.a ∷ []) ∷ (recordings.x ∷ []) ∷ [])
      (((recordings.b ∷ []) ∷ (recordings.a ∷ []) ∷ []) ∷ []) recordings.a refl refl refl
      (lit≤ tt) refl refl refl refl,
  short_row one recordings.three_way_cycle 3 recordings.three_steps
      ((recordings.x ∷ []) ∷ (recordings.b ∷ []) ∷ []) ((recordings.a ∷ []) ∷ [] ∷ [])
      (((recordings.b ∷ []) ∷ [] ∷ []) ∷ []) recordings.a refl refl refl (lit≤ tt) refl refl refl refl,
)

abbrev forged_row : Row
forged_row = (recordings.a ∷ []) ∷ (recordings.b ∷ []) ∷ [] ∷ []

forged : (version : Version)
    → false ≡ meets_layer_rule (row_responses version (responses_of recordings.opposite_pair) recordings.a) 4
    recordings.a forged_row
forged one = refl
forged two = refl

pub forged_layers : worked.ForgedLayers
forged_layers version = (
  sound recordings.opposite_pair refl refl,
  shown_steps-from (responses_of recordings.opposite_pair) (recordings.two_steps ++ recordings.two_steps)
      refl,
  lit≤ tt,
  0,
  refl,
  λ j source lt e. absurd (omega (arith, lt)),
  forged_row,
  refl,
  refl,
  λ rule. false≢true (forged version
      ∙ (Decides-layer_rule (row_responses version (responses_of recordings.opposite_pair) recordings.a) 4
      recordings.a forged_row).1 rule),
)
