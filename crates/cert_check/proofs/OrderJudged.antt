-- An order whose places rise along responses that cover all is followed; else the first of these along which
-- they do not is the first that is not.
use Rattle.std.proofs.Common.{◌≡◌, ℕ, ◌<◌, inl, inr, Some, List, map, length, sym, ◌∙◌, ap, subst, arith}
use Rattle.std.specs.Prelude.{slice_get, slice_index, IsPermutation}
use Rattle.std.proofs.lemmas.Bool.{cases_lt}
use Rattle.events.specs.Names.{NameBytes}
use Rattle.events.specs.Operation.{Operation, ComesBefore, IsLeast}
use Rattle.events.specs.History.{History}
use Rattle.events.specs.Operations.{operation_names, response}
use Rattle.specification.specs.Elements.{elements}
use Rattle.specification.specs.Orders.{IsSubsequence}
use Rattle.specification.specs.Responses.{Returned, responses_of}
use Rattle.specification.specs.Versions.{Version}
use Rattle.specification.specs.CertificateText.{gives_order}
use Rattle.specification.specs.ValidCertificate.{IsValid, IsNotFollowed}
use Rattle.specification.proofs.Members.{In, All-from_members, Before-from_places, AllPairs-Before}
use Rattle.specification.proofs.Shown.{ComesBefore-irreflexive}
use Rattle.specification.proofs.Dictionary.{ComesBefore-asymmetric}
use Rattle.specification.proofs.OperationNames.{operation_names-rise, operation-listed, listed-operation}
use Rattle.specification.proofs.OperationNames.{AllPairs-from_Rising}
use Rattle.specification.proofs.Strong.{returned_by}
use Rattle.contents_check.proofs.Doubled.{ComesBefore-trans}
use Rattle.element_numbers.proofs.Parts.{Rising-part}
use Rattle.cert_check.proofs.Listed.{Before-map, Before-map_back, HoldsOfFewer, IsCovered, once-elements}
use Rattle.cert_check.proofs.Listed.{known-response, once-response, kept-listed, covered, of_covered, list_at}
use Rattle.cert_check.proofs.Ranks.{follows_from_rising, rising_from_follows}
use Rattle.cert_check.specs.Noted.{Holds, placed_from}
use Rattle.cert_check.specs.Values.{IsRising}
use Rattle.cert_check.specs.Numbering.{IsOf, lists_of, places_at}
use Rattle.cert_check.specs.declared.numbered.Numbered.{Numbered}

module _ (h : History) (t : Numbered) (of : IsOf h t) (order : List NameBytes) (ranks : List ℕ)
    (perm_t : IsPermutation t.names.items order)
    (holds_t : Holds t.names.items (length t.names.items) (placed_from 0 order) ranks) where
  abbrev RisesAt : ℕ → Type 0
  RisesAt j = IsRising (map (slice_index ranks) (places_at t j))

  perm : IsPermutation (elements h) order
  perm = subst (λ (ns : List NameBytes). IsPermutation ns order) of.names perm_t

  holds : Holds (elements h) (length (elements h)) (placed_from 0 order) ranks
  holds = subst (λ (ns : List NameBytes). Holds ns (length ns) (placed_from 0 order) ranks) of.names holds_t

  rises-fewer : HoldsOfFewer (λ l. IsRising (map (slice_index ranks) l))
  rises-fewer xs ys sub rising a b before =
      let s = Before-map_back (slice_index ranks) a b xs before in
      subst (λ x. x < b) s.3 (subst (λ y. slice_index ranks s.0 < y) s.4
      (rising (slice_index ranks s.0) (slice_index ranks s.1)
      (Before-map (slice_index ranks) s.0 s.1 ys (sub s.0 s.1 s.2))))

  -- what is covered by an operation along whose list the places rise is followed
  followed : (o : Operation) → In o (operation_names h) → (c : IsCovered h t o) → RisesAt c.place
      → IsSubsequence (response h o) order
  followed o i c rising =
      follows_from_rising (elements h) order ranks (length (elements h))
      (once-elements h of.legal of.sound) perm holds (response h o)
      (once-response h of.legal of.sound o i) (known-response h of.legal of.sound o i)
      (of_covered h t of (λ l. IsRising (map (slice_index ranks) l)) rises-fewer o c rising)

  pub order_valid : ((j : ℕ) → j < length (lists_of t) → RisesAt j) → (version : Version)
      → IsValid version h (gives_order order)
  order_valid all version = (
    of.sound,
    (
      perm,
      All-from_members (λ (r : Returned). IsSubsequence r.names order) (responses_of h).returned (λ r i.
          let by = returned_by h r i in
          let listed : In r.by (operation_names h) = operation-listed h r.by of.legal by.0 in
          let c = covered h t of r.by listed in
          subst (λ (w : List NameBytes). IsSubsequence w order) (sym by.1)
          (followed r.by listed c (all c.place c.within))),
    ),
  )

  rises_where_followed : (j : ℕ) (o : Operation) → slice_get t.operations.items j ≡ Some o
      → IsSubsequence (response h o) order → RisesAt j
  rises_where_followed j o at sub =
      let i : In o (operation_names h) = kept-listed h t of j o at in
      subst (λ (l : List ℕ). IsRising (map (slice_index ranks) l)) (sym (list_at h t of j o at))
      (rising_from_follows (elements h) order ranks (length (elements h))
      (once-elements h of.legal of.sound) perm holds (response h o)
      (once-response h of.legal of.sound o i) (known-response h of.legal of.sound o i) sub)

  -- an operation that is left out is covered by one that is the same or comes before it
  pub first_not_followed : (j : ℕ) (o : Operation) → slice_get t.operations.items j ≡ Some o → (RisesAt j → ⊥)
      → ((i : ℕ) → i < j → RisesAt i) → IsLeast (IsNotFollowed h order) o
  first_not_followed j o at stops rises = record {
    holds = (
      listed-operation h o (kept-listed h t of j o at),
      (λ sub. stops (rises_where_followed j o at sub)),
    );
    least = λ f not before. least f not before;
  }
    where
      behind : (p : ℕ) (f : Operation) → slice_get t.operations.items p ≡ Some f → j < p → ComesBefore o f
      behind p f there lt =
          AllPairs-Before ComesBefore t.operations.items o f
          (AllPairs-from_Rising ComesBefore t.operations.items
          (Rising-part ComesBefore t.operations.items (operation_names h) of.operations.part
          (operation_names-rise h)))
          (Before-from_places t.operations.items o f j p lt at there)

      least : (f : Operation) → IsNotFollowed h order f → ComesBefore f o → ⊥
      least f not before =
          let listed : In f (operation_names h) = operation-listed h f of.legal not.0 in
          let c = covered h t of f listed in
          let first : ComesBefore c.by o =
          elim c.before [
            | inl e ↦ subst (λ q. ComesBefore q o) (sym e) before
            | inr lt ↦
                ComesBefore-trans c.by f o lt before
          ] in
          elim (cases_lt c.place j) [
            | inl lt ↦ not.1 (followed f listed c (rises c.place lt))
            | inr le ↦ elim (cases_lt j c.place) [
              | inl lt ↦ ComesBefore-asymmetric c.by o first (behind c.place c.by c.at lt)
              | inr ge ↦
                  (let same : c.place ≡ j = omega arith in
                  let e : Some c.by ≡ Some o = sym c.at ∙ ap (slice_get t.operations.items) same ∙ at in
                  let q : c.by ≡ o = Prim.cc in
                  ComesBefore-irreflexive o (subst (λ (z : Operation). ComesBefore z o) q first))
            ]
          ]
