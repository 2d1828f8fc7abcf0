-- A valid certificate has no reason against it.
use Rattle.std.proofs.Common.{◌≡◌, ℕ, zero, suc, Some, List, [], ◌∷◌, length, refl, sym, ◌∙◌, ap, subst}
use Rattle.std.proofs.Common.{arith}
use Rattle.std.specs.Prelude.{slice_get}
use Rattle.std.proofs.lemmas.Option.{slice_get_within}
use Rattle.events.specs.Names.{NameBytes}
use Rattle.events.specs.History.{History, IsLegal}
use Rattle.events.specs.Operations.{response}
use Rattle.specification.specs.Responses.{Responses, Returned, responses_of, Shows}
use Rattle.specification.specs.Orders.{IsSubsequence}
use Rattle.specification.specs.Conflict.{Step, AreShownSteps}
use Rattle.specification.specs.LayerRule.{Row, MeetsRuleOf}
use Rattle.specification.specs.Versions.{Version}
use Rattle.specification.specs.CertificateText.{Certificate, names_fault, gives_order, gives_cycle}
use Rattle.specification.specs.CertificateText.{SpellsCertificate}
use Rattle.specification.specs.ValidCertificate.{HasSource, RowsMeetRule, RowIsRight, IsValid, IsFirstReason}
use Rattle.specification.specs.ValidCertificate.{StepIsRight, Reason, wrong_fault, not_order, not_followed}
use Rattle.specification.specs.ValidCertificate.{no_cycle, missing_layer, short_layer, extra_layer}
use Rattle.specification.proofs.Members.{All-member, In-from_place}
use Rattle.specification.proofs.Strong.{returned_of}
use Rattle.trace_text.proofs.OneReading.{one-recording}
use Rattle.cert_check.specs.AnswerOf.{Reads, IsReadReason, kind_of}
use Rattle.cert_check.specs.Laws.{ValidCertificatesGetYes}
use Rattle.cert_check.specs.declared.answer.Answer.TheVariants.{Yes, No}
use Rattle.cert_check.specs.declared.answer.Reason.TheVariants as reason

row_right : (version : Version) (v : Responses) (k : ℕ) (sources : List NameBytes) (rows : List Row)
    → RowsMeetRule version v k sources rows → (i : ℕ) (source : NameBytes) → slice_get sources i ≡ Some source
    → RowIsRight version v k rows i source
row_right version v k [] rows meet i source at = absurd Prim.cc
row_right version v k (s ∷ sources) [] meet i source at = absurd meet
row_right version v k (s ∷ sources) (row ∷ rows) meet zero source at =
    let e : s ≡ source = Prim.cc in (
      row,
      refl,
      subst (HasSource row) e meet.0,
      subst (λ (z : NameBytes). MeetsRuleOf version v k z row) e meet.1,
    )
row_right version v k (s ∷ sources) (row ∷ rows) meet (suc i) source at =
    row_right version v k sources rows meet.2 i source at

rows_count : (version : Version) (v : Responses) (k : ℕ) (sources : List NameBytes) (rows : List Row)
    → RowsMeetRule version v k sources rows → length rows ≡ length sources
rows_count version v k [] [] meet = refl
rows_count version v k [] (row ∷ rows) meet = absurd meet
rows_count version v k (s ∷ sources) [] meet = absurd meet
rows_count version v k (s ∷ sources) (row ∷ rows) meet = ap suc (rows_count version v k sources rows meet.2)

pub step_right : (v : Responses) (steps : List Step) → AreShownSteps v steps → (i : ℕ) → StepIsRight v steps i
step_right v steps are i s at = record {
  shown = All-member (λ (z : Step). Shows v z.shown z.from z.to) steps s are.shown
      (In-from_place steps i s at);
  meets = ap (λ (l : List (NameBytes × NameBytes)). slice_get l i) are.joined;
}

pub valid_or_reason : (version : Version) (h : History) (c : Certificate) (why : Reason) → IsLegal h
    → IsValid version h c → IsFirstReason version h c why → ⊥
valid_or_reason version h (names_fault f) wrong_fault legal valid r = r valid
valid_or_reason version h (names_fault f) not_order legal valid r = r
valid_or_reason version h (names_fault f) (not_followed at) legal valid r = r
valid_or_reason version h (names_fault f) (no_cycle n) legal valid r = r
valid_or_reason version h (names_fault f) (missing_layer s) legal valid r = r
valid_or_reason version h (names_fault f) (short_layer s) legal valid r = r
valid_or_reason version h (names_fault f) (extra_layer s) legal valid r = r
valid_or_reason version h (gives_order order) wrong_fault legal valid r = r valid.0
valid_or_reason version h (gives_order order) not_order legal valid r = r.1 valid.1.0
valid_or_reason version h (gives_order order) (not_followed at) legal valid r =
    let not = r.2.holds in
    not.1 (All-member (λ (z : Returned). IsSubsequence z.names order) (responses_of h).returned
    (record { by = at; names = response h at }) valid.1.1 (returned_of h at legal not.0))
valid_or_reason version h (gives_order order) (no_cycle n) legal valid r = r
valid_or_reason version h (gives_order order) (missing_layer s) legal valid r = r
valid_or_reason version h (gives_order order) (short_layer s) legal valid r = r
valid_or_reason version h (gives_order order) (extra_layer s) legal valid r = r
valid_or_reason version h (gives_cycle k steps rows) wrong_fault legal valid r = r valid.0
valid_or_reason version h (gives_cycle k steps rows) not_order legal valid r = r
valid_or_reason version h (gives_cycle k steps rows) (not_followed at) legal valid r = r
valid_or_reason version h (gives_cycle k steps rows) (no_cycle zero) legal valid r = r.1
valid_or_reason version h (gives_cycle k steps rows) (no_cycle (suc i)) legal valid r =
    r.1.1 (step_right (responses_of h) steps valid.1 i)
valid_or_reason version h (gives_cycle k steps rows) (missing_layer s) legal valid r =
    let right = row_right version (responses_of h) k (responses_of h).elements rows (valid.3 r.2) r.3 s r.4 in
    r.6 right.0 right.1 right.2
valid_or_reason version h (gives_cycle k steps rows) (short_layer s) legal valid r =
    let right = row_right version (responses_of h) k (responses_of h).elements rows (valid.3 r.2) r.3 s r.4 in
    let e : Some right.0 ≡ Some r.6 = sym right.1 ∙ r.7 in
    let same : right.0 ≡ r.6 = Prim.cc in
    r.9 (subst (λ (z : Row). MeetsRuleOf version (responses_of h) k s z) same right.3)
valid_or_reason version h (gives_cycle k steps rows) (extra_layer s) legal valid r =
    let size : length rows ≡ length (responses_of h).elements =
    rows_count version (responses_of h) k (responses_of h).elements rows (valid.3 r.2) in
    omega (arith, slice_get_within rows (length (responses_of h).elements) r.4 r.5)

-- a text spells at most one certificate, in one version
abbrev pub SpelledOnce : Type 0
SpelledOnce = (text : List ℕ) (version other : Version) (c d : Certificate) → SpellsCertificate text version c
    → SpellsCertificate text other d → (version ≡ other) × (c ≡ d)

no_reason : SpelledOnce
    → (trace cert : List ℕ) (version : Version) (h : History) (c : Certificate) (why : Reason)
    → Reads trace cert version h c → IsValid version h c → IsReadReason trace cert why → ⊥
no_reason once trace cert version h c why reads valid r =
    let g : h ≡ r.1 = one-recording trace h r.1 reads.0 r.3.0 in
    let same = once cert version r.0 c r.2 reads.1 r.3.1 in
    valid_or_reason r.0 r.1 r.2 why r.3.0.1.0
    (subst (λ (z : Version). IsValid z r.1 r.2) same.0
    (subst (IsValid version r.1) same.1 (subst (λ (z : History). IsValid version z c) g valid))) r.4

-- where texts spell certificates once, a valid one gets a yes
pub get_yes : SpelledOnce → ValidCertificatesGetYes
get_yes once trace cert version h c reads valid (Yes k) is =
    ap Yes (sym is.5 ∙ ap kind_of (once cert is.0 version is.2 c is.3.1 reads.1).1)
get_yes once trace cert version h c reads valid (No reason.Trace) is = absurd (is h reads.0)
get_yes once trace cert version h c reads valid (No reason.CertText) is = absurd (is.1 version c reads.1)
get_yes once trace cert version h c reads valid (No reason.WrongFault) is =
    absurd (no_reason once trace cert version h c wrong_fault reads valid is)
get_yes once trace cert version h c reads valid (No reason.NotOrder) is =
    absurd (no_reason once trace cert version h c not_order reads valid is)
get_yes once trace cert version h c reads valid (No (reason.NotFollowed at)) is =
    absurd (no_reason once trace cert version h c (not_followed at) reads valid is)
get_yes once trace cert version h c reads valid (No (reason.NoCycle n)) is =
    absurd (no_reason once trace cert version h c (no_cycle n) reads valid is)
get_yes once trace cert version h c reads valid (No (reason.MissingLayer s)) is =
    absurd (no_reason once trace cert version h c (missing_layer s) reads valid is)
get_yes once trace cert version h c reads valid (No (reason.ShortLayer s)) is =
    absurd (no_reason once trace cert version h c (short_layer s) reads valid is)
get_yes once trace cert version h c reads valid (No (reason.ExtraLayer s)) is =
    absurd (no_reason once trace cert version h c (extra_layer s) reads valid is)
