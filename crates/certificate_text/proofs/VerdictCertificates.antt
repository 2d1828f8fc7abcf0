-- The certificate of a verdict is valid and has a spelling; it is the only one; and it is the same for all
-- merges of streams.
use Rattle.std.proofs.Common.{◌≡◌, ℕ, zero, suc, ◌≤◌, ◌<◌, inl, inr, Some, List, [], ◌∷◌, length, refl, sym}
use Rattle.std.proofs.Common.{◌∙◌, arith, ap, subst}
use Rattle.std.specs.Prelude.{All, slice_get}
use Rattle.std.proofs.lemmas.List.Elements.{All-nil, All-cons, All-weaker}
use Rattle.events.specs.Names.{NameBytes, IsName}
use Rattle.events.specs.Operation.{Operation, IsLeast}
use Rattle.events.specs.History.{History, IsLegal}
use Rattle.events.specs.Operations.{IsOperation, operation_names, response}
use Rattle.specification.specs.Elements.{elements}
use Rattle.specification.specs.Faults.{Fault, doubled, contents, position, IsFirstFault, IsSound}
use Rattle.specification.specs.Responses.{Returned, responses_of, AreProper, Shows}
use Rattle.specification.specs.Conflict.{Step, AreShownSteps}
use Rattle.specification.specs.Search.{IsShortestLength}
use Rattle.specification.specs.Verdict.{Verdict, faulty, accepted, refused, IsVerdict}
use Rattle.specification.specs.LayerRule.{Row, row_responses}
use Rattle.specification.specs.Versions.{Version}
use Rattle.specification.specs.CertificateText.{Certificate, gives_cycle, IsSpellable, IsFaultName, IsStep}
use Rattle.specification.specs.CertificateText.{IsRow, StartsAtSource}
use Rattle.specification.specs.ValidCertificate.{HasSource, RowsMeetRule, IsValid}
use Rattle.specification.specs.ExactRows.{IsExactRow, AreExactRows, IsCertificateOf}
use Rattle.specification.proofs.Members.{In, In-from_Contains, Contains-from_In, place_of_In, Before-first}
use Rattle.specification.proofs.Members.{Before-second, All-from_members}
use Rattle.specification.proofs.Narrowed.{row-element, row_elements-all}
use Rattle.specification.proofs.OperationNames.{In_map-from, listed-operation}
use Rattle.specification.proofs.Permutations.{In-permutation_back}
use Rattle.specification.proofs.Shown.{ShowsIn, ShowsIn-from_Shows, names-elements}
use Rattle.specification.proofs.SoundResponses.{sound_responses_are_proper, operation_of_insert}
use Rattle.specification.proofs.ConflictNumber.{shortest_from_number}
use Rattle.specification.proofs.VerdictsDecide.{verdicts_decide}
use Rattle.specification.proofs.VerdictsUnique.{verdicts_are_unique}
use Rattle.specification.proofs.SameStreams.{same_responses, verdicts_are_of_streams}
use Rattle.certificate_text.specs.Laws.{CertificatesAreValid, CertificatesAreUnique, CertificatesAreOfStreams}
use Rattle.certificate_text.proofs.Nameable.{element-name, operation-name, number-fits}
use Rattle.certificate_text.proofs.ExactLayers.{exact-source, exact_rows-rule, one_list_of_rows}

starts : (source : NameBytes) (row : Row) → HasSource row source → StartsAtSource row
starts source [] e = absurd Prim.cc
starts source (layer ∷ row) e = let same : layer ≡ source ∷ [] = Prim.cc in ap length same

module _ (version : Version) (h : History) (legal : IsLegal h) where
  fault-name : (f : Fault) → IsFirstFault h f → IsFaultName f
  fault-name (doubled first again) d = (
    operation-name h first legal (operation_of_insert h first d.name d.first_least.holds),
    operation-name h again legal (operation_of_insert h again d.name d.again_inserts),
  )
  fault-name (contents at) f = operation-name h at legal f.1
  fault-name (position at) f = operation-name h at legal f.1

  row-name : (k : ℕ) (source : NameBytes) (row : Row) → 2 ≤ k → In source (elements h)
      → IsExactRow (row_responses version (responses_of h) source) k source row → IsRow k row
  row-name k source row two element is = record {
    layers = is.layers;
    source =
        starts source row (exact-source (row_responses version (responses_of h) source) k source row is two
        (row-element version (responses_of h) source element));
    names = All-from_members (λ layer. All IsName layer) row (λ layer i.
        let at : (n : ℕ) × (n < length row) × (slice_get row n ≡ Some layer) = place_of_In row layer i in
        All-from_members IsName layer
        (λ x j. element-name h legal x (row_elements-all version (responses_of h) source x
        (In-from_Contains (row_responses version (responses_of h) source).elements x
        (((is.each at.0 layer at.2).holds x).0 (Contains-from_In layer x j)).0))));
  }

  row-names : (k : ℕ) → 2 ≤ k → (sources : List NameBytes) (rows : List Row)
      → ((x : NameBytes) → In x sources → In x (elements h))
      → AreExactRows version (responses_of h) k sources rows → All (IsRow k) rows
  row-names k two [] [] known are = All-nil (IsRow k)
  row-names k two [] (row ∷ rows) known are = absurd are
  row-names k two (source ∷ sources) [] known are = absurd are
  row-names k two (source ∷ sources) (row ∷ rows) known are =
      All-cons (IsRow k) row rows (row-name k source row two (known source (inl refl)) are.0)
      (row-names k two sources rows (λ x i. known x (inr i)) are.1)

  module _ (sound : IsSound h) where
    proper : AreProper (responses_of h)
    proper = sound_responses_are_proper h legal sound

    step-name : (s : Step) → Shows (responses_of h) s.shown s.from s.to → IsStep s
    step-name s shows =
        let t : ShowsIn (responses_of h) s.shown s.from s.to =
        ShowsIn-from_Shows (responses_of h) s.shown s.from s.to shows in
        let by : (o : Operation) × In o (operation_names h)
        × (t.0 ≡ record { by = o; names = response h o }) =
        In_map-from (λ o. record { by = o; names = response h o }) t.0 (operation_names h) t.1 in
        let shown : by.0 ≡ s.shown = sym (ap (λ (r : Returned). r.by) by.2) ∙ t.2 in (
          element-name h legal s.from (names-elements (responses_of h) proper t.0 t.1 s.from
              (Before-first s.from s.to t.0.names t.3)),
          element-name h legal s.to (names-elements (responses_of h) proper t.0 t.1 s.to
              (Before-second s.from s.to t.0.names t.3)),
          operation-name h s.shown legal (subst (IsOperation h) shown (listed-operation h by.0 by.1)),
        )

  -- a refusal's certificate with these rows has a spelling
  pub refusal-spellable : (k : ℕ) (steps : List Step) (rows : List Row) → IsVerdict h (refused k steps)
      → (k ≡ 2 → rows ≡ []) → All (IsRow k) rows → IsSpellable (gives_cycle k steps rows)
  refusal-spellable k steps rows is none named = (
    (verdicts_decide h (refused k steps) legal is).1,
    number-fits h k legal is.1,
    is.3,
    All-weaker (λ (s : Step). IsLeast (λ o. Shows (responses_of h) o s.from s.to) s.shown) IsStep
        (λ s l. step-name is.0 s l.holds) steps is.2.operations,
    none,
    named,
  )

  -- and it is valid, where they meet the rule
  refusal : (k : ℕ) (steps : List Step) (rows : List Row) → IsVerdict h (refused k steps)
      → (3 ≤ k → RowsMeetRule version (responses_of h) k (elements h) rows) → (k ≡ 2 → rows ≡ [])
      → All (IsRow k) rows →
      IsValid version h (gives_cycle k steps rows) × IsSpellable (gives_cycle k steps rows)
  refusal k steps rows is rule none named =
      let shown : AreShownSteps (responses_of h) steps = record {
        joined = is.2.joined;
        shown = All-weaker (λ (s : Step). IsLeast (λ o. Shows (responses_of h) o s.from s.to) s.shown)
            (λ (s : Step). Shows (responses_of h) s.shown s.from s.to) (λ s l. l.holds) steps is.2.operations;
      } in ((is.0, shown, is.3, rule), refusal-spellable k steps rows is none named)

pub certificates_are_valid : CertificatesAreValid
certificates_are_valid version h (faulty f) c legal is e =
    subst (λ d. IsValid version h d × IsSpellable d) (sym e) (is, fault-name version h legal f is)
certificates_are_valid version h (accepted order) c legal is e =
    subst (λ d. IsValid version h d × IsSpellable d) (sym e) (
      (is.0, is.1.follows),
      All-from_members IsName order
          (λ a i. element-name h legal a (In-permutation_back (elements h) order a is.1.follows.0 i)),
    )
certificates_are_valid version h (refused zero steps) c legal is e = absurd e
certificates_are_valid version h (refused (suc zero) steps) c legal is e = absurd e
certificates_are_valid version h (refused (suc (suc zero)) steps) c legal is e =
    subst (λ d. IsValid version h d × IsSpellable d) (sym e)
    (refusal version h legal 2 steps [] is (λ le. absurd (omega (arith, le))) (λ _. refl)
    (All-nil (IsRow 2)))
certificates_are_valid version h (refused (suc (suc (suc n))) steps) c legal is e =
    let k : ℕ = suc (suc (suc n)) in
    let two : 2 ≤ k = omega arith in
    let proper : AreProper (responses_of h) = sound_responses_are_proper h legal is.0 in
    let shortest : IsShortestLength (responses_of h) k =
    shortest_from_number (responses_of h) proper k is.1 in
    subst (λ d. IsValid version h d × IsSpellable d) (sym e.1)
    (refusal version h legal k steps e.0 is
    (λ _. exact_rows-rule version (responses_of h) k proper two shortest (elements h) e.0 (λ x i. i) e.2)
    (λ same. absurd (omega (arith, same)))
    (row-names version h legal k two (elements h) e.0 (λ x i. i) e.2))

-- a verdict has one certificate
one_certificate : (version : Version) (h : History) (v : Verdict) (c d : Certificate)
    → IsCertificateOf version h v c → IsCertificateOf version h v d → c ≡ d
one_certificate version h (faulty f) c d a b = a ∙ sym b
one_certificate version h (accepted order) c d a b = a ∙ sym b
one_certificate version h (refused zero steps) c d a b = absurd a
one_certificate version h (refused (suc zero) steps) c d a b = absurd a
one_certificate version h (refused (suc (suc zero)) steps) c d a b = a ∙ sym b
one_certificate version h (refused (suc (suc (suc n))) steps) c d a b =
    let rows : a.0 ≡ b.0 =
    one_list_of_rows version (responses_of h) (suc (suc (suc n))) (elements h) a.0 b.0 a.2 b.2 in
    a.1 ∙ ap (λ rs. gives_cycle (suc (suc (suc n))) steps rs) rows ∙ sym b.1

pub certificates_are_unique : CertificatesAreUnique
certificates_are_unique version h v w c d legal first second a b =
    one_certificate version h w c d
    (subst (λ u. IsCertificateOf version h u c) (verdicts_are_unique h v w legal first second) a) b

pub certificates_are_of_streams : CertificatesAreOfStreams
certificates_are_of_streams version g h v c same is of = (verdicts_are_of_streams g h v same is, go v of)
  where
    go : (v : Verdict) → IsCertificateOf version g v c → IsCertificateOf version h v c
    go (faulty f) e = e
    go (accepted order) e = e
    go (refused zero steps) e = e
    go (refused (suc zero) steps) e = e
    go (refused (suc (suc zero)) steps) e = e
    go (refused (suc (suc (suc n))) steps) e = (
      e.0,
      e.1,
      subst (λ r. AreExactRows version r (suc (suc (suc n))) (r.elements) e.0)
          (same_responses g h same) e.2,
    )
