-- Two texts have one right answer at most.
use Rattle.std.proofs.Common.{◌≡◌, ℕ, zero, suc, ◌<◌, ◌≤◌, Some, List, [], ◌∷◌, length, refl, sym, ◌∙◌, ap}
use Rattle.std.proofs.Common.{subst, arith, inl, inr}
use Rattle.std.specs.Prelude.{slice_get}
use Rattle.std.proofs.lemmas.Bool.{cases_lt}
use Rattle.std.proofs.lemmas.Option.{slice_get_within}
use Rattle.events.specs.Names.{NameBytes}
use Rattle.events.specs.Operation.{Operation, IsLeast}
use Rattle.events.specs.History.{History}
use Rattle.specification.specs.Faults.{Fault, IsSound}
use Rattle.specification.specs.Responses.{Responses, responses_of}
use Rattle.specification.specs.Orders.{IsElementOrder}
use Rattle.specification.specs.Conflict.{Step, AreShownSteps}
use Rattle.specification.specs.LayerRule.{Row, MeetsRuleOf}
use Rattle.specification.specs.Versions.{Version}
use Rattle.specification.specs.TraceText.{Spells}
use Rattle.specification.specs.CertificateText.{Certificate, names_fault, gives_order, gives_cycle}
use Rattle.specification.specs.CertificateText.{SpellsCertificate}
use Rattle.specification.specs.ValidCertificate as valid
use Rattle.specification.specs.ValidCertificate.{HasSource, LacksRow, RowsRightBefore, IsNotFollowed}
use Rattle.specification.specs.ValidCertificate.{IsFirstWrongStep, IsFirstReason, wrong_fault, not_order}
use Rattle.specification.specs.ValidCertificate.{not_followed, no_cycle, missing_layer, short_layer}
use Rattle.specification.specs.ValidCertificate.{extra_layer}
use Rattle.specification.proofs.Dictionary.{one_least}
use Rattle.trace_text.proofs.OneReading.{one-recording}
use Rattle.certificate_text.proofs.OneCertificate.{one-certificate}
use Rattle.cert_check.specs.AnswerOf.{IsReadReason, IsReason}
use Rattle.cert_check.specs.Laws.{AnswersAreUnique}
use Rattle.cert_check.specs.declared.answer.Answer.TheVariants.{Yes, No}
use Rattle.cert_check.specs.declared.answer.Reason.{Reason}
use Rattle.cert_check.specs.declared.answer.Reason.TheVariants as reason
use Rattle.cert_check.proofs.ReasonsExclude.{step_right, get_yes}

-- a fault named by the certificate leaves one reason

of_fault : (version : Version) (h : History) (f : Fault) (p : valid.Reason)
    → IsFirstReason version h (names_fault f) p → p ≡ wrong_fault
of_fault version h f wrong_fault is = refl
of_fault version h f not_order is = absurd is
of_fault version h f (not_followed at) is = absurd is
of_fault version h f (no_cycle n) is = absurd is
of_fault version h f (missing_layer s) is = absurd is
of_fault version h f (short_layer s) is = absurd is
of_fault version h f (extra_layer s) is = absurd is

-- an order

data OrderReason (h : History) (order : List NameBytes) (p : valid.Reason) : Type 0 where
  unsound : p ≡ wrong_fault → ¬ IsSound h → OrderReason h order p
  no_order : p ≡ not_order → IsSound h → ¬ IsElementOrder (responses_of h) order → OrderReason h order p
  unfollowed : (at : Operation) → p ≡ not_followed at → IsSound h → IsElementOrder (responses_of h) order
      → IsLeast (IsNotFollowed h order) at → OrderReason h order p

of_order : (version : Version) (h : History) (order : List NameBytes) (p : valid.Reason)
    → IsFirstReason version h (gives_order order) p → OrderReason h order p
of_order version h order wrong_fault is = unsound refl is
of_order version h order not_order is = no_order refl is.0 is.1
of_order version h order (not_followed at) is = unfollowed at refl is.0 is.1 is.2
of_order version h order (no_cycle n) is = absurd is
of_order version h order (missing_layer s) is = absurd is
of_order version h order (short_layer s) is = absurd is
of_order version h order (extra_layer s) is = absurd is

one_of_order : (h : History) (order : List NameBytes) (p q : valid.Reason) → OrderReason h order p
    → OrderReason h order q → p ≡ q
one_of_order h order p q (unsound e not) (unsound f nor) = e ∙ sym f
one_of_order h order p q (unsound e not) (no_order f sound un) = absurd (not sound)
one_of_order h order p q (unsound e not) (unfollowed at f sound is least) = absurd (not sound)
one_of_order h order p q (no_order e sound un) (unsound f nor) = absurd (nor sound)
one_of_order h order p q (no_order e sound un) (no_order f s nu) = e ∙ sym f
one_of_order h order p q (no_order e sound un) (unfollowed at f s is least) = absurd (un is)
one_of_order h order p q (unfollowed o e sound is first) (unsound f nor) = absurd (nor sound)
one_of_order h order p q (unfollowed o e sound is first) (no_order f s nu) = absurd (nu is)
one_of_order h order p q (unfollowed o e sound is first) (unfollowed at f s so least) =
    e ∙ ap not_followed (one_least (IsNotFollowed h order) o at first least) ∙ sym f

-- the first step that is wrong

one_step : (v : Responses) (steps : List Step) (m n : ℕ) → IsFirstWrongStep v steps m
    → IsFirstWrongStep v steps n → m ≡ n
one_step v steps zero n f g = absurd f
one_step v steps (suc i) zero f g = absurd g
one_step v steps (suc i) (suc j) f g = elim (cases_lt i j) [
  | inl less ↦ absurd (f.1 (g.2 i less))
  | inr most ↦ elim (cases_lt j i) [
    | inl less ↦ absurd (g.1 (f.2 j less))
    | inr least ↦ omega arith
  ]
]

none_wrong : (v : Responses) (steps : List Step) (n : ℕ) → AreShownSteps v steps → IsFirstWrongStep v steps n
    → ⊥
none_wrong v steps zero are f = f
none_wrong v steps (suc i) are f = f.1 (step_right v steps are i)

-- the first row that is wrong

module _ (version : Version) (v : Responses) (k : ℕ) (rows : List Row) where
  -- what is wrong at a place of rows: the row is missing, breaks the rule, or is one too many
  data RowReason (i : ℕ) (p : valid.Reason) : Type 0 where
    missing : (source : NameBytes) → p ≡ missing_layer source → slice_get v.elements i ≡ Some source
        → LacksRow rows i source → RowReason i p
    short : (source : NameBytes) (row : Row) → p ≡ short_layer source → slice_get v.elements i ≡ Some source
        → slice_get rows i ≡ Some row → ¬ MeetsRuleOf version v k source row → HasSource row source
        → RowReason i p
    extra : (source : NameBytes) (row : Row) → p ≡ extra_layer source → i ≡ length v.elements
        → slice_get rows i ≡ Some row → HasSource row source → RowReason i p

  within : (i : ℕ) (p : valid.Reason) → RowReason i p → i ≤ length v.elements
  within i p (missing s e at lacks) = omega (arith, slice_get_within v.elements i s at)
  within i p (short s row e at is not has) = omega (arith, slice_get_within v.elements i s at)
  within i p (extra s row e last is has) = omega (arith, last)

  same_row : (i : ℕ) (r t : Row) → slice_get rows i ≡ Some r → slice_get rows i ≡ Some t → r ≡ t
  same_row i r t is so = let e : Some r ≡ Some t = sym is ∙ so in Prim.cc

  same_source : (i : ℕ) (s t : NameBytes) → slice_get v.elements i ≡ Some s → slice_get v.elements i ≡ Some t
      → s ≡ t
  same_source i s t is so = let e : Some s ≡ Some t = sym is ∙ so in Prim.cc

  one_source : (row : Row) (s t : NameBytes) → HasSource row s → HasSource row t → s ≡ t
  one_source row s t is so = let e : Some (s ∷ []) ≡ Some (t ∷ []) = sym is ∙ so in Prim.cc

  not_before : (i j : ℕ) (p : valid.Reason) → RowReason i p → RowsRightBefore version v k rows j
      → j ≤ length v.elements → i < j → ⊥
  not_before i j p (missing s e at lacks) right high less = let r = right i s less at in lacks r.0 r.1 r.2
  not_before i j p (short s row e at is not has) right high less = let r = right i s less at in
      not (subst (λ (z : Row). MeetsRuleOf version v k s z) (same_row i r.0 row r.1 is) r.3)
  not_before i j p (extra s row e last is has) right high less = omega (arith, last)

  past_all : (i : ℕ) (s : NameBytes) → slice_get v.elements i ≡ Some s → i ≡ length v.elements → ⊥
  past_all i s at last = omega (arith, slice_get_within v.elements i s at, last)

  at_one_place : (i : ℕ) (p q : valid.Reason) → RowReason i p → RowReason i q → p ≡ q
  at_one_place i p q (missing s e at lacks) (missing t f so lack) =
      e ∙ ap missing_layer (same_source i s t at so) ∙ sym f
  at_one_place i p q (missing s e at lacks) (short t row f so is not has) =
      absurd (lacks row is (subst (HasSource row) (same_source i t s so at) has))
  at_one_place i p q (missing s e at lacks) (extra t row f last is has) = absurd (past_all i s at last)
  at_one_place i p q (short s row e at is not has) (missing t f so lack) =
      absurd (lack row is (subst (HasSource row) (same_source i s t at so) has))
  at_one_place i p q (short s row e at is not has) (short t other f so it nor had) =
      e ∙ ap short_layer (same_source i s t at so) ∙ sym f
  at_one_place i p q (short s row e at is not has) (extra t other f last it had) =
      absurd (past_all i s at last)
  at_one_place i p q (extra s row e last is has) (missing t f so lack) = absurd (past_all i t so last)
  at_one_place i p q (extra s row e last is has) (short t other f so it nor had) =
      absurd (past_all i t so last)
  at_one_place i p q (extra s row e last is has) (extra t other f end it had) =
      e ∙ ap extra_layer
      (one_source other s t (subst (λ (z : Row). HasSource z s) (same_row i row other is it) has) had)
      ∙ sym f

  one_row : (i j : ℕ) (p q : valid.Reason) → RowReason i p → RowReason j q
      → RowsRightBefore version v k rows i → RowsRightBefore version v k rows j → p ≡ q
  one_row i j p q f g before ahead = elim (cases_lt i j) [
    | inl less ↦ absurd (not_before i j p f ahead (within j q g) less)
    | inr most ↦ elim (cases_lt j i) [
      | inl less ↦ absurd (not_before j i q g before (within i p f) less)
      | inr least ↦
          at_one_place i p q f (subst (λ (n : ℕ). RowReason n q) (let same : j ≡ i = omega arith in same) g)
    ]
  ]

-- a cycle

data CycleReason (version : Version) (h : History) (k : ℕ) (steps : List Step) (rows : List Row)
    (p : valid.Reason) : Type 0 where
  unsound_too : p ≡ wrong_fault → ¬ IsSound h → CycleReason version h k steps rows p
  wrong_step : (n : ℕ) → p ≡ no_cycle n → IsSound h → IsFirstWrongStep (responses_of h) steps n
      → CycleReason version h k steps rows p
  wrong_row : (i : ℕ) → IsSound h → AreShownSteps (responses_of h) steps
      → RowReason version (responses_of h) k rows i p → RowsRightBefore version (responses_of h) k rows i
      → CycleReason version h k steps rows p

of_cycle : (version : Version) (h : History) (k : ℕ) (steps : List Step) (rows : List Row) (p : valid.Reason)
    → IsFirstReason version h (gives_cycle k steps rows) p → CycleReason version h k steps rows p
of_cycle version h k steps rows wrong_fault is = unsound_too refl is
of_cycle version h k steps rows not_order is = absurd is
of_cycle version h k steps rows (not_followed at) is = absurd is
of_cycle version h k steps rows (no_cycle n) is = wrong_step n refl is.0 is.1
of_cycle version h k steps rows (missing_layer s) is =
    wrong_row is.3 is.0 is.1 (missing s refl is.4 is.6) is.5
of_cycle version h k steps rows (short_layer s) is =
    wrong_row is.3 is.0 is.1 (short s is.6 refl is.4 is.7 is.9 is.8) is.5
of_cycle version h k steps rows (extra_layer s) is =
    wrong_row (length (responses_of h).elements) is.0 is.1 (extra s is.4 refl refl is.5 is.6) is.3

one_of_cycle : (version : Version) (h : History) (k : ℕ) (steps : List Step) (rows : List Row)
    (p q : valid.Reason) → CycleReason version h k steps rows p → CycleReason version h k steps rows q → p ≡ q
one_of_cycle version h k steps rows p q (unsound_too e not) (unsound_too f nor) = e ∙ sym f
one_of_cycle version h k steps rows p q (unsound_too e not) (wrong_step n f sound first) = absurd (not sound)
one_of_cycle version h k steps rows p q (unsound_too e not) (wrong_row j sound are row ahead) =
    absurd (not sound)
one_of_cycle version h k steps rows p q (wrong_step m e sound least) (unsound_too f nor) = absurd (nor sound)
one_of_cycle version h k steps rows p q (wrong_step m e sound least) (wrong_step n f s first) =
    e ∙ ap no_cycle (one_step (responses_of h) steps m n least first) ∙ sym f
one_of_cycle version h k steps rows p q (wrong_step m e sound least) (wrong_row j s are row ahead) =
    absurd (none_wrong (responses_of h) steps m are least)
one_of_cycle version h k steps rows p q (wrong_row i sound are row before) (unsound_too f nor) =
    absurd (nor sound)
one_of_cycle version h k steps rows p q (wrong_row i sound are row before) (wrong_step n f s first) =
    absurd (none_wrong (responses_of h) steps n are first)
one_of_cycle version h k steps rows p q (wrong_row i sound are row before) (wrong_row j s too other ahead) =
    one_row version (responses_of h) k rows i j p q row other before ahead

-- a certificate has one first reason at most against it
pub one_reason : (version : Version) (h : History) (c : Certificate) (p q : valid.Reason)
    → IsFirstReason version h c p → IsFirstReason version h c q → p ≡ q
one_reason version h (names_fault f) p q is so = of_fault version h f p is ∙ sym (of_fault version h f q so)
one_reason version h (gives_order order) p q is so =
    one_of_order h order p q (of_order version h order p is) (of_order version h order q so)
one_reason version h (gives_cycle k steps rows) p q is so =
    one_of_cycle version h k steps rows p q (of_cycle version h k steps rows p is)
    (of_cycle version h k steps rows q so)

-- texts

abbrev told : valid.Reason → Reason
told wrong_fault = reason.WrongFault
told not_order = reason.NotOrder
told (not_followed at) = reason.NotFollowed at
told (no_cycle n) = reason.NoCycle n
told (missing_layer s) = reason.MissingLayer s
told (short_layer s) = reason.ShortLayer s
told (extra_layer s) = reason.ExtraLayer s

-- why it is no: the trace is not read, or the certificate's text is not, or both are and this is the reason
data Told (trace cert : List ℕ) (r : Reason) : Type 0 where
  no_trace : r ≡ reason.Trace → ((h : History) → ¬ Spells trace h) → Told trace cert r
  no_text : r ≡ reason.CertText → (h : History) → Spells trace h
      → ((version : Version) (c : Certificate) → ¬ SpellsCertificate cert version c) → Told trace cert r
  of_both : (why : valid.Reason) → r ≡ told why → IsReadReason trace cert why → Told trace cert r

of_reason : (trace cert : List ℕ) (r : Reason) → IsReason trace cert r → Told trace cert r
of_reason trace cert reason.Trace is = no_trace refl is
of_reason trace cert reason.CertText is = no_text refl is.0.0 is.0.1 is.1
of_reason trace cert reason.WrongFault is = of_both wrong_fault refl is
of_reason trace cert reason.NotOrder is = of_both not_order refl is
of_reason trace cert (reason.NotFollowed at) is = of_both (not_followed at) refl is
of_reason trace cert (reason.NoCycle n) is = of_both (no_cycle n) refl is
of_reason trace cert (reason.MissingLayer s) is = of_both (missing_layer s) refl is
of_reason trace cert (reason.ShortLayer s) is = of_both (short_layer s) refl is
of_reason trace cert (reason.ExtraLayer s) is = of_both (extra_layer s) refl is

one_read : (trace cert : List ℕ) (p q : valid.Reason) → IsReadReason trace cert p → IsReadReason trace cert q
    → p ≡ q
one_read trace cert p q f g =
    let h : f.1 ≡ g.1 = one-recording trace f.1 g.1 f.3.0 g.3.0 in
    let same = one-certificate cert f.0 g.0 f.2 g.2 f.3.1 g.3.1 in
    one_reason g.0 g.1 g.2 p q
    (subst (λ (z : Version). IsFirstReason z g.1 g.2 p) same.0
    (subst (λ (d : Certificate). IsFirstReason f.0 g.1 d p) same.1
    (subst (λ (z : History). IsFirstReason f.0 z f.2 p) h f.4))) g.4

one_told : (trace cert : List ℕ) (r t : Reason) → Told trace cert r → Told trace cert t → r ≡ t
one_told trace cert r t (no_trace e none) (no_trace f never) = e ∙ sym f
one_told trace cert r t (no_trace e none) (no_text f h spells never) = absurd (none h spells)
one_told trace cert r t (no_trace e none) (of_both why f is) = absurd (none is.1 is.3.0)
one_told trace cert r t (no_text e h spells none) (no_trace f never) = absurd (never h spells)
one_told trace cert r t (no_text e h spells none) (no_text f g also never) = e ∙ sym f
one_told trace cert r t (no_text e h spells none) (of_both why f is) = absurd (none is.0 is.2 is.3.1)
one_told trace cert r t (of_both what e so) (no_trace f never) = absurd (never so.1 so.3.0)
one_told trace cert r t (of_both what e so) (no_text f h spells never) = absurd (never so.0 so.2 so.3.1)
one_told trace cert r t (of_both what e so) (of_both why f is) =
    e ∙ ap told (one_read trace cert what why so is) ∙ sym f

pub one_answer : AnswersAreUnique
one_answer trace cert (Yes k) b p q =
    ap Yes (sym p.5) ∙ sym (get_yes one-certificate trace cert p.0 p.1 p.2 p.3 p.4 b q)
one_answer trace cert (No r) (Yes k) p q =
    get_yes one-certificate trace cert q.0 q.1 q.2 q.3 q.4 (No r) p ∙ ap Yes q.5
one_answer trace cert (No r) (No t) p q =
    ap No (one_told trace cert r t (of_reason trace cert r p) (of_reason trace cert t q))
