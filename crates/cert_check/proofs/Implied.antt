-- What a valid certificate implies.
use Rattle.std.proofs.Common.{◌≡◌, ◌⊎◌, inl, inr, ℕ, ◌<◌, ◌≤◌, List, [], ◌∷◌, length, map, refl, sym, ◌∙◌}
use Rattle.std.proofs.Common.{subst, arith}
use Rattle.std.specs.Prelude.{All}
use Rattle.std.proofs.lemmas.Bool.{cases_lt}
use Rattle.std.proofs.lemmas.List.{length-map}
use Rattle.events.specs.Names.{NameBytes}
use Rattle.events.specs.History.{History, IsLegal}
use Rattle.specification.specs.Responses.{Responses, responses_of, StandsBefore, Shows, AreProper}
use Rattle.specification.specs.Conflict.{IsCycle, Step, AreShownSteps, HasConflictNumber}
use Rattle.specification.specs.Search.{IsShortestLength}
use Rattle.specification.specs.LayerRule.{Row, MeetsRuleOf}
use Rattle.specification.specs.Versions.{Version}
use Rattle.specification.specs.Verdict.{ProvesConflict}
use Rattle.specification.specs.CertificateText.{Certificate, names_fault, gives_order, gives_cycle}
use Rattle.specification.specs.CertificateText.{IsSpellable}
use Rattle.specification.specs.ValidCertificate.{IsValid, RowsMeetRule, HasSource}
use Rattle.specification.proofs.Members.{In, In-from_Contains, All-from_members, All-member}
use Rattle.specification.proofs.SoundResponses.{sound_responses_are_proper}
use Rattle.specification.proofs.ConflictNumber.{number_from_shortest}
use Rattle.specification.proofs.StepOperations.{step_operations_conflict}
use Rattle.specification.proofs.Strong.{strong_is_an_order}
use Rattle.specification.proofs.Layers.{layers_bound_cycles}
use Rattle.specification.proofs.Weak.{two_or_more}
use Rattle.cert_check.proofs.Listed.{In-map_back}
use Rattle.cert_check.proofs.Rings.{ends, begin}
use Rattle.std.specs.Prelude.{Result, Ok, Err, IfOk, IfErr}
use Rattle.specification.specs.TraceText.{Spells}
use Rattle.specification.specs.CertificateText.{SpellsCertificate}
use Rattle.events.specs.declared.memory.Memory.{Memory}
use Rattle.cert_check.specs.Judged.{IsJudged}
use Rattle.cert_check.specs.declared.answer.Answer.{Answer}
use Rattle.cert_check.specs.declared.answer.Answer.TheVariants.{Yes, No}
use Rattle.cert_check.specs.declared.answer.Reason.TheVariants.{Trace, CertText, WrongFault, NotOrder}
use Rattle.cert_check.specs.declared.answer.Reason.TheVariants.{NotFollowed, NoCycle, MissingLayer}
use Rattle.cert_check.specs.declared.answer.Reason.TheVariants.{ShortLayer, ExtraLayer}
use Rattle.cert_check.specs.AnswerOf.{Reads, IsAnswer, IsAnswerOn, Implies, ImpliesOn, ImpliesOfTexts}

-- what holds in any case
pub if_err : {A E : Type 0} (r : Result A E) (P : Type 0) → P → IfErr r (λ e. P)
if_err (Ok a) P h = tt
if_err (Err e) P h = h

-- the row of an element
row_of : (version : Version) (v : Responses) (k : ℕ) (sources : List NameBytes) (rows : List Row)
    → RowsMeetRule version v k sources rows → (a : NameBytes) → In a sources
    → (row : Row) × HasSource row a × MeetsRuleOf version v k a row
row_of version v k [] rows meet a i = absurd i
row_of version v k (source ∷ sources) [] meet a i = absurd meet
row_of version v k (source ∷ sources) (row ∷ rows) meet a (inl e) = (
  row,
  subst (HasSource row) (sym e) meet.0,
  subst (λ (s : NameBytes). MeetsRuleOf version v k s row) (sym e) meet.1,
)
row_of version v k (source ∷ sources) (row ∷ rows) meet a (inr i) = row_of version v k sources rows meet.2 a i

module _ (v : Responses) (proper : AreProper v) (k : ℕ) (steps : List Step) (two : 2 ≤ k)
    (size : length steps ≡ k) (shown : AreShownSteps v steps) where
  -- the steps go round a cycle
  cycle : IsCycle v (map begin steps)
  cycle = record {
    some = omega (arith, length-map {B = NameBytes} steps begin);
    shown = subst (λ (ps : List (NameBytes × NameBytes)). All (λ p. StandsBefore v p.0 p.1) ps) shown.joined
        (All-from_members (λ (p : NameBytes × NameBytes). StandsBefore v p.0 p.1) (map ends steps) (λ p i.
        let s = In-map_back ends p steps i in
        subst (λ (q : NameBytes × NameBytes). StandsBefore v q.0 q.1) s.2 (
          s.0.shown,
          All-member (λ (s : Step). Shows v s.shown s.from s.to) steps s.0 shown.shown s.1,
        )));
  }

  shortest : (version : Version) (rows : List Row) → (3 ≤ k → RowsMeetRule version v k v.elements rows)
      → IsShortestLength v k
  shortest version rows rule = (
    (map begin steps, cycle, length-map {B = NameBytes} steps begin ∙ size),
    (λ c is. go c is (cases_lt k 3)),
  )
    where
      go : (c : List NameBytes) → IsCycle v c → (k < 3) ⊎ (3 ≤ k) → k ≤ length c
      go c is (inl lt) = let n : 2 ≤ length c = two_or_more v proper c is in omega arith
      go c is (inr le) =
          layers_bound_cycles version v k proper (λ source i. row_of version v k v.elements rows
          (rule le) source (In-from_Contains v.elements source i)) (length c) (c, is, refl)

  pub cycle_implies : (version : Version) (rows : List Row)
      → (3 ≤ k → RowsMeetRule version v k v.elements rows) → HasConflictNumber v k × ProvesConflict v k steps
  cycle_implies version rows rule =
      let short : IsShortestLength v k = shortest version rows rule in
      let has : HasConflictNumber v k = number_from_shortest v proper k short in
      let both =
      step_operations_conflict v steps proper shown (subst (IsShortestLength v) (sym size) short) in
      (has, record { set = both.0; size = size; inconsistent = both.1; fewer = has.least })

pub implied : (version : Version) (h : History) (c : Certificate) → IsLegal h → IsSpellable c
    → IsValid version h c → Implies h c
implied version h (names_fault fault) legal spellable valid = valid
implied version h (gives_order order) legal spellable valid =
    (strong_is_an_order h legal valid.0).1 (order, valid.1)
implied version h (gives_cycle k steps rows) legal spellable valid =
    cycle_implies (responses_of h) (sound_responses_are_proper h legal valid.0) k steps spellable.0 valid.2
    valid.1 version rows valid.3

-- what was read of the certificate's text is what is spelled
pub implied_on : (cert : List ℕ) (given : Version) (g : History) (d : Certificate)
    (result : Result Answer Memory) → IsLegal g → IsSpellable d →
    ((version : Version) (c : Certificate) → SpellsCertificate cert version c → (given ≡ version) × (d ≡ c))
    → IfOk result (λ a. IsJudged given g d a) → IfOk result (λ a. ImpliesOn g cert a)
implied_on cert given g d (Ok (Yes k)) legal spellable one_c judged = λ version c spells.
    subst (λ (z : Certificate). Implies g z) (one_c version c spells).1
    (implied given g d legal spellable judged.0)
implied_on cert given g d (Ok (No why)) legal spellable one_c judged = tt
implied_on cert given g d (Err e) legal spellable one_c judged = tt

-- and so is what was read of the trace
pub implied_texts : (trace cert : List ℕ) (g : History) (result : Result Answer Memory)
    → ((h : History) → Spells trace h → g ≡ h) →
    IfOk result (λ a. ImpliesOn g cert a) → IfOk result (λ a. ImpliesOfTexts trace cert a)
implied_texts trace cert g (Ok (Yes k)) one_h implies =
    λ version h c reads. subst (λ (z : History). Implies z c) (one_h h reads.0) (implies version c reads.1)
implied_texts trace cert g (Ok (No why)) one_h implies = tt
implied_texts trace cert g (Err e) one_h implies = tt

-- what is judged of what was read is the answer to the texts
judged_texts : (trace cert : List ℕ) (version : Version) (h : History) (c : Certificate)
    (result : Result Answer Memory) → Reads trace cert version h c →
    IfOk result (λ a. IsJudged version h c a) → IfOk result (λ a. IsAnswer trace cert a)
judged_texts trace cert version h c (Ok (Yes k)) reads judged = (version, h, c, reads, judged.0, judged.1)
judged_texts trace cert version h c (Ok (No Trace)) reads judged = absurd judged
judged_texts trace cert version h c (Ok (No CertText)) reads judged = absurd judged
judged_texts trace cert version h c (Ok (No WrongFault)) reads judged = (version, h, c, reads, judged)
judged_texts trace cert version h c (Ok (No NotOrder)) reads judged = (version, h, c, reads, judged)
judged_texts trace cert version h c (Ok (No (NotFollowed at))) reads judged = (version, h, c, reads, judged)
judged_texts trace cert version h c (Ok (No (NoCycle step))) reads judged = (version, h, c, reads, judged)
judged_texts trace cert version h c (Ok (No (MissingLayer source))) reads judged =
    (version, h, c, reads, judged)
judged_texts trace cert version h c (Ok (No (ShortLayer source))) reads judged =
    (version, h, c, reads, judged)
judged_texts trace cert version h c (Ok (No (ExtraLayer source))) reads judged =
    (version, h, c, reads, judged)
judged_texts trace cert version h c (Err e) reads judged = tt

pub judged_on : (cert : List ℕ) (version : Version) (h : History) (c : Certificate)
    (result : Result Answer Memory) → SpellsCertificate cert version c →
    IfOk result (λ a. IsJudged version h c a) → IfOk result (λ a. IsAnswerOn h cert a)
judged_on cert version h c (Ok a) spells judged =
    λ trace spells_trace. judged_texts trace cert version h c (Ok a) (spells_trace, spells) judged
judged_on cert version h c (Err e) spells judged = tt
