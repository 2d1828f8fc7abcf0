-- Replicas on the way: one more that begins, one that goes on, and what is found of one at its end.
use Rattle.std.proofs.Common.{◌≡◌, ◌≤◌, ◌<◌, ℕ, ◌+◌, ◌-◌, ◌∷◌, ◌++◌, [], List, None, Some, Option, length}
use Rattle.std.proofs.Common.{get_or, refl, sym, ◌∙◌, ap, subst, arith, inl, inr, append-nil}
use Rattle.std.specs.Option.{is_some}
use Rattle.std.specs.Prelude.{set, false}
use Rattle.std.proofs.lemmas.List.Elements.{All-get_or, All-set}
use Rattle.std.proofs.lemmas.List.{get_or-map, length-map, map-append}
use Rattle.std.proofs.Math.Seq.{map-set_same}
use Rattle.events.specs.History.{History}
use Rattle.events.specs.Operations.{count}
use Rattle.specification.specs.Visibility.{SightTable}
use Rattle.specification.proofs.Members.{In-append_cases, All-member, All-from_members}
use Rattle.contents_check.specs.declared.elements.Elements.{Elements}
use Rattle.contents_check.specs.declared.fault.Fault.{Fault}
use Rattle.contents_check.specs.declared.turns.OnTheWay.{OnTheWay}
use Rattle.contents_check.specs.declared.walk.Walk.{Walk}
use Rattle.contents_check.specs.declared.walk.Walked.TheVariants.{Right}
use Rattle.element_numbers.specs.Covering.{AreCovering}
use Rattle.contents_check.specs.Covering.{first_operations, AreKeptOf, IsWalked}
use Rattle.contents_check.specs.Known.{element_names}
use Rattle.contents_check.specs.Replicas.{IsRightReplica}
use Rattle.contents_check.specs.Turns.{AreOnTheWay, IsJudgedTo, IsOnTheWay}
use Rattle.contents_check.specs.Walk.{IsJudged}
use Rattle.contents_check.proofs.CoverSteps.{kept_cover}
use Rattle.contents_check.proofs.Firsts.{right_all, right_next, first_wrong_in}
use Rattle.contents_check.proofs.Walked.{fault-wrong, first-in_order}

-- one operation more is judged
pub judged_next : (h : History) (table : SightTable) (elements : Elements) (r n : ℕ) (old walk : Walk)
    (found : Option Fault) → n < count h r → IsJudgedTo h table elements r n None old
    → IsJudged h table elements (record { replica = r; n = n + 1 }) walk found
    → IsJudgedTo h table elements r (n + 1) found walk
judged_next h table elements r n old walk None lt before is =
    (omega (arith, lt), right_next h r n before.1 is.0, is.1)
judged_next h table elements r n old walk (Some fault) lt before is = record {
  front = [];
  replica = r;
  back = [];
  split = refl;
  right = All-from_members (IsRightReplica h) [] (λ q j. absurd j);
  n = n + 1;
  first = first_wrong_in h r n lt before.1 (fault-wrong h (record { replica = r; n = n + 1 }) fault is);
  is = is;
}

-- no fault is found
pub no_fault : (h : History) (table : SightTable) (elements : Elements) (r n : ℕ) (walk : Walk)
    (found : Option Fault) → is_some found ≡ false → IsJudgedTo h table elements r n found walk
    → IsJudgedTo h table elements r n None walk
no_fault h table elements r n walk None is judged = judged
no_fault h table elements r n walk (Some fault) is judged = absurd cc

-- the replica's operations are all right, and these cover them
pub walked-to_end : (h : History) (table : SightTable) (elements : Elements) (r n : ℕ) (walk : Walk)
    → count h r ≤ n → IsJudgedTo h table elements r n None walk
    → IsWalked h (element_names elements) (r ∷ []) (Right walk.covering)
walked-to_end h table elements r n walk done judged =
    let number : n + 1 - 1 ≡ count h r = omega (arith, done, judged.0) in
    let kept =
    subst (λ (k : ℕ). AreKeptOf h (first_operations r k) walk.covering.operations.items) number
    judged.2.kept in (
      All-from_members (IsRightReplica h) (r ∷ []) (λ q j. elim j [
        | inl e ↦ subst (IsRightReplica h) (sym e) (right_all h r n done judged.1)
        | inr z ↦ absurd z
      ]),
      record {
        operations =
            subst (λ l. AreCovering h l walk.covering.operations.items)
            (sym (append-nil (first_operations r (count h r))))
            (kept_cover h (first_operations r (count h r)) walk.covering.operations.items
            (first-in_order r (count h r)) kept);
        rows = judged.2.rows;
      },
    )

module _ (h : History) (table : SightTable) (elements : Elements) where
  -- no replica
  pub none_yet : AreOnTheWay h table elements [] []
  none_yet =
      record {
        replicas_are = refl;
        each = All-from_members (IsOnTheWay h table elements) [] (λ w i. absurd i);
      }

  -- the replica at a place is on the way
  pub way_at : (replicas : List ℕ) (ways : List OnTheWay) (k : ℕ) (way : OnTheWay) → k < length ways
      → way ≡ get_or ways k way → AreOnTheWay h table elements replicas ways → IsOnTheWay h table elements way
  way_at replicas ways k way lt is are =
      subst (IsOnTheWay h table elements) (sym is)
      (All-get_or (IsOnTheWay h table elements) ways k way lt are.each)

  -- there are as many as replicas
  pub as_many : (replicas : List ℕ) (ways : List OnTheWay) → AreOnTheWay h table elements replicas ways
      → length ways ≡ length replicas
  as_many replicas ways are = sym (length-map ways (λ (w : OnTheWay). w.replica)) ∙ ap length are.replicas_are

  -- and it is that of this replica
  pub replica_at : (replicas : List ℕ) (ways : List OnTheWay) (k : ℕ) (d : OnTheWay) → k < length replicas
      → AreOnTheWay h table elements replicas ways → (get_or ways k d).replica ≡ get_or replicas k 0
  replica_at replicas ways k d lt are =
      sym (get_or-map (λ (w : OnTheWay). w.replica) ways k d 0 (omega (arith, lt, as_many replicas ways are)))
      ∙ ap (λ l. get_or l k 0) are.replicas_are

  -- one replica more begins
  pub one_more : (replicas : List ℕ) (ways : List OnTheWay) (way : OnTheWay)
      → AreOnTheWay h table elements replicas ways → IsOnTheWay h table elements way
      → AreOnTheWay h table elements (replicas ++ way.replica ∷ []) (ways ++ way ∷ [])
  one_more replicas ways way are is = record {
    replicas_are =
        map-append (λ w. w.replica) ways (way ∷ []) ∙ ap (λ l. l ++ way.replica ∷ []) are.replicas_are;
    each = All-from_members (IsOnTheWay h table elements) (ways ++ way ∷ [])
        (λ w i. elim (In-append_cases w ways (way ∷ []) i) [
          | inl j ↦ All-member (IsOnTheWay h table elements) ways w are.each j
          | inr j ↦ elim j [
            | inl e ↦ subst (IsOnTheWay h table elements) (sym e) is
            | inr z ↦ absurd z
          ]
        ]);
  }

  -- one of them goes on
  pub one_goes_on : (replicas : List ℕ) (ways : List OnTheWay) (k : ℕ) (way d : OnTheWay)
      → way.replica ≡ (get_or ways k d).replica → AreOnTheWay h table elements replicas ways
      → IsOnTheWay h table elements way → AreOnTheWay h table elements replicas (set ways k way)
  one_goes_on replicas ways k way d same are is = record {
    replicas_are = map-set_same (λ (w : OnTheWay). w.replica) ways k way d same ∙ are.replicas_are;
    each = All-set (IsOnTheWay h table elements) ways k way is are.each;
  }
