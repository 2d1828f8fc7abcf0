-- What texts can name: the elements of a legal recording are names, its operations have numbers of 32 bits,
-- and no conflict number is greater than there are operations.
use Rattle.std.proofs.Common.{◌≡◌, ℕ, zero, suc, ◌+◌, ◌*◌, ◌<◌, ◌≤◌, ◌^◌, Option, Some, None, List, map}
use Rattle.std.proofs.Common.{length, refl, ◌∙◌, arith, ap, subst}
use Rattle.std.specs.Prelude.{All, Contains, filter, option_and_then, ◌==◌}
use Rattle.std.proofs.lemmas.List.{length-map}
use Rattle.std.proofs.lemmas.List.Elements.{All-filter, All-map}
use Rattle.events.specs.Names.{NameBytes, IsName}
use Rattle.events.specs.Operation.{Operation}
use Rattle.events.specs.History.{History, IsLegal, IsWellFormed, stream, is_operation, inserted_name}
use Rattle.events.specs.Operations.{operations, count, nth, operation, IsOperation, numbers_from}
use Rattle.events.specs.Operations.{operation_names, response}
use Rattle.events.specs.declared.TheConstants.{MOST_REPLICAS, MOST_ENTRIES}
use Rattle.events.specs.declared.entry.Entry.{Entry}
use Rattle.events.specs.declared.entry.Body.{Body}
use Rattle.events.specs.declared.entry.Body.TheVariants.{Ins, Del, Read, View, Recv}
use Rattle.specification.specs.Elements.{elements}
use Rattle.specification.specs.Responses.{Returned, responses_of}
use Rattle.specification.specs.Conflict.{HasConflictNumber}
use Rattle.specification.specs.CertificateText.{IsOperationName}
use Rattle.specification.proofs.Members.{In, Once-bounded, Once-from_AllPairs, In-from_place}
use Rattle.specification.proofs.Members.{In-from_Contains, All-member}
use Rattle.specification.proofs.OperationNames.{In_map-from, In_flat_map-from, numbers_from-bounds}
use Rattle.specification.proofs.OperationNames.{operation-listed}
use Rattle.specification.proofs.FewOperations.{count-few, few-operations}
use Rattle.specification.proofs.SoundResponses.{In_filter_map-from}

nth-in : {X : Type 0} (xs : List X) (n : ℕ) (x : X) → nth xs n ≡ Some x → In x xs
nth-in xs zero x e = absurd Prim.cc
nth-in xs (suc i) x e = In-from_place xs i x e

formed : (h : History) (r : ℕ) → IsLegal h → All IsWellFormed (operations h r)
formed h r legal =
    All-filter is_operation IsWellFormed (stream h r)
    (All-map IsWellFormed (λ (e : Entry). e.body) (filter (λ (e : Entry). e.replica == r) h.entries)
    (All-filter (λ (e : Entry). e.replica == r) (λ (e : Entry). IsWellFormed e.body) h.entries
    legal.well_formed))

body-name : (b : Body) (a : NameBytes) → IsWellFormed b → inserted_name b ≡ Some a → IsName a
body-name (Ins name at w) a is e = let same : name ≡ a = Prim.cc in subst IsName same is.0
body-name (Del name w) a is e = absurd Prim.cc
body-name (Read w) a is e = absurd Prim.cc
body-name (View w) a is e = absurd Prim.cc
body-name (Recv seen) a is e = absurd Prim.cc

pub element-name : (h : History) → IsLegal h → (a : NameBytes) → In a (elements h) → IsName a
element-name h legal a i =
    let s : (o : Operation) × In o (operation_names h)
    × (option_and_then inserted_name (operation h o) ≡ Some a) =
    In_filter_map-from (λ o. option_and_then inserted_name (operation h o)) a (operation_names h) i in
    go s.0 (operation h s.0) refl s.2
  where
    go : (o : Operation) (b : Option Body) → operation h o ≡ b → option_and_then inserted_name b ≡ Some a
        → IsName a
    go o None e p = absurd Prim.cc
    go o (Some b) e p =
        body-name b a (All-member IsWellFormed (operations h o.replica) b (formed h o.replica legal)
        (nth-in (operations h o.replica) o.n b e)) p

pub operation-name : (h : History) (o : Operation) → IsLegal h → IsOperation h o → IsOperationName o
operation-name h o legal is =
    let s : (r : ℕ) × In r (numbers_from 0 h.replicas)
    × In o (map (λ n. record { replica = r; n = n }) (numbers_from 1 (count h r))) =
    In_flat_map-from (λ r. map (λ n. record { replica = r; n = n }) (numbers_from 1 (count h r))) o
    (numbers_from 0 h.replicas) (operation-listed h o legal is) in
    let t : (n : ℕ) × In n (numbers_from 1 (count h s.0)) × (o ≡ record { replica = s.0; n = n }) =
    In_map-from (λ n. record { replica = s.0; n = n }) o (numbers_from 1 (count h s.0)) s.2 in
    let known : (0 ≤ s.0) × (s.0 < 0 + h.replicas) = numbers_from-bounds 0 h.replicas s.0 s.1 in
    let within : (1 ≤ t.0) × (t.0 < 1 + count h s.0) = numbers_from-bounds 1 (count h s.0) t.0 t.1 in
    let replica : o.replica ≡ s.0 = ap (λ (p : Operation). p.replica) t.2 in
    let number : o.n ≡ t.0 = ap (λ (p : Operation). p.n) t.2 in
    let few : h.replicas ≤ MOST_REPLICAS = legal.few_replicas in
    let entries : count h s.0 ≤ MOST_ENTRIES = count-few h s.0 legal in
    (omega (arith, known.1), omega (arith, within.0), omega (arith, within.1))

pub number-fits : (h : History) (k : ℕ) → IsLegal h → HasConflictNumber (responses_of h) k → k < 2 ^ 32
number-fits h k legal has =
    let by : List Operation = map (λ (r : Returned). r.by) (responses_of h).returned in
    let each : (o : Operation) → In o has.set → In o by =
    λ o i. In-from_Contains by o (All-member (λ o. Contains by o) has.set o has.is_set.of_operations i) in
    let bounded : length has.set ≤ length by =
    Once-bounded has.set by (Once-from_AllPairs has.set has.is_set.repeats_none) each in
    let size : length by ≡ length (operation_names h) =
    length-map ((responses_of h).returned) (λ (r : Returned). r.by)
    ∙ length-map (operation_names h) (λ o. record { by = o; names = response h o }) in
    let few : length (operation_names h) ≤ h.replicas * MOST_ENTRIES = few-operations h legal 0 h.replicas in
    let replicas : h.replicas ≤ MOST_REPLICAS = legal.few_replicas in
    omega (arith, has.size)
