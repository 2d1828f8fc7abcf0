-- The operations of one replica, all of which are judged, after those of the replicas before it.
use Rattle.std.proofs.Common.{◌≡◌, ◌≤◌, ℕ, ◌+◌, ◌∷◌, [], List, Option, None, Some, length, take}
use Rattle.std.proofs.Common.{drop, get_or, refl, sym, ◌∙◌, ap, subst, arith}
use Rattle.std.proofs.lemmas.List.{take_all, take_more}
use Rattle.events.specs.Operations.{count}
use Rattle.contents_check.specs.declared.fault.Fault.{Fault}
use Rattle.contents_check.specs.declared.turns.OnTheWay.{OnTheWay}
use Rattle.contents_check.specs.Covering.{IsWalked}
use Rattle.contents_check.specs.Known.{element_names}
use Rattle.contents_check.specs.Turns.{IsJudgedTo}
use Rattle.contents_check.specs.declared.walk.Walked.TheVariants.{Right}
use Rattle.contents_check.proofs.InTurns.{way_at, as_many, replica_at, one_goes_on, walked-to_end}
use Rattle.contents_check.proofs.Walked.{none-walked, place-parts, walked-more, wrong-behind}
use Rattle.contents_check.proofs.turns.walk_all.Goals as goal
use Rattle.contents_check.proofs.turns.walk_all.Goals.{In_ok-finish}

pub loop-k-init : goal.loop-k-init
loop-k-init c = record {
  on_the_way = c.in_ok-take_turns.ensures;
  walked =
      none-walked c.args.recording.now (element_names c.args.elements.now) c.new-covering.result
      c.new-covering.ensures.operations c.new-covering.ensures.cut c.new-covering.ensures.rows;
}

pub finish-requires-clause-on_the_way : goal.finish-requires-clause-on_the_way
finish-requires-clause-on_the_way c =
    let h = c.args.recording.now in
    let all = c.args.replicas.now in
    let ways = c.loop-k.ways.items in
    let are = c.loop-k.invariant.on_the_way in
    way_at h c.args.sight.now c.args.elements.now all ways c.loop-k.k c.index_mut-way.result.now
    (omega (arith, c.loop-k-test.true, as_many h c.args.sight.now c.args.elements.now all ways are))
    c.index_mut-way.ensures.value are

-- what is found of the replica at this place
found : (c : In_ok-finish) (fault : Option Fault) → c.finish.new.self.fault ≡ fault
    → IsJudgedTo c.args.recording.now c.args.sight.now c.args.elements.now
    (get_or c.args.replicas.now c.loop-k.k 0) c.finish.new.self.judged fault c.finish.new.self.walk
    × (fault ≡ None → count c.args.recording.now (get_or c.args.replicas.now c.loop-k.k 0)
    ≤ c.finish.new.self.judged)
found c fault is =
    let h = c.args.recording.now in
    let table = c.args.sight.now in
    let elements = c.args.elements.now in
    let new = c.finish.new.self in
    let done = c.in_ok-finish.ensures in
    let replica : new.replica ≡ get_or c.args.replicas.now c.loop-k.k 0 =
    done.replica ∙ ap (λ (w : OnTheWay). w.replica) c.index_mut-way.ensures.value
    ∙ replica_at h table elements c.args.replicas.now c.loop-k.ways.items c.loop-k.k
    c.index_mut-way.result.now (omega (arith, c.loop-k-test.true)) c.loop-k.invariant.on_the_way in
    subst (λ (r : ℕ). IsJudgedTo h table elements r new.judged fault new.walk
    × (fault ≡ None → count h r ≤ new.judged)) replica (
      subst (λ (f : Option Fault). IsJudgedTo h table elements new.replica new.judged f new.walk) is
          done.on_the_way,
      λ none. done.end (is ∙ none),
    )

pub loop-k-preserved : goal.loop-k-preserved
loop-k-preserved c =
    let h = c.args.recording.now in
    let elements = c.args.elements.now in
    let all : List ℕ = c.args.replicas.now in
    let k : ℕ = c.loop-k.k in
    let new = c.finish.new.self in
    let added = c.in_ok-append-in-None.ensures in
    let judged = found (goal.at.loop-k-preserved c).In_ok-finish None c.in-None.is in
    record {
      on_the_way = one_goes_on h c.args.sight.now elements all c.loop-k.ways.items k new
          c.index_mut-way.result.now
          (c.in_ok-finish.ensures.replica ∙ ap (λ (w : OnTheWay). w.replica) c.index_mut-way.ensures.value)
          c.loop-k.invariant.on_the_way c.in_ok-finish.ensures.on_the_way;
      walked =
          subst (λ (l : List ℕ). IsWalked h (element_names elements) l (Right c.append.new.self))
          (sym (take_more all k 0 (omega (arith, c.loop-k-test.true))))
          (walked-more h (element_names elements) (take k all) (get_or all k 0 ∷ []) c.loop-k.covering
          new.walk.covering c.append.new.self c.loop-k.invariant.walked
          (walked-to_end h c.args.sight.now elements (get_or all k 0) new.judged new.walk (judged.1 refl)
          judged.0) added.operations added.cut added.rows);
    }

pub returns-in-Some : goal.returns-in-Some
returns-in-Some c =
    let all : List ℕ = c.args.replicas.now in
    let k : ℕ = c.loop-k.k in
    wrong-behind c.args.recording.now (element_names c.args.elements.now) (take k all) (get_or all k 0 ∷ [])
    (drop (k + 1) all) all c.in-Some.fault (place-parts all k (omega (arith, c.loop-k-test.true)))
    c.loop-k.invariant.walked.0
    (found (goal.at.returns-in-Some c).In_ok-finish (Some c.in-Some.fault) c.in-Some.is).0

pub returns : goal.returns
returns c =
    let all : List ℕ = c.args.replicas.now in
    let end : length all ≤ c.loop-k.k = omega (arith, c.loop-k-test.false) in
    subst (λ (l : List ℕ). IsWalked c.args.recording.now (element_names c.args.elements.now) l
    (Right c.loop-k.covering)) (take_all c.loop-k.k all end) c.loop-k.invariant.walked
