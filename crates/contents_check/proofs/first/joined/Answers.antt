-- What one piece is found to be after those of the pieces before it.
use Rattle.std.proofs.Common.{◌≡◌, ℕ, ◌+◌, ◌-◌, ◌*◌, List, length, take, drop, refl, sym, ap, ◌∙◌, subst}
use Rattle.std.proofs.Common.{Ok, arith}
use Rattle.std.specs.Prelude.{IfOk}
use Rattle.std.proofs.lemmas.Option.{get_or_from_slice_get}
use Rattle.std.proofs.Math.Seq.{take-add}
use Rattle.events.specs.Names.{NameBytes}
use Rattle.contents_check.specs.Covering.{IsWalked}
use Rattle.contents_check.specs.Known.{element_names}
use Rattle.contents_check.specs.declared.walk.Walked.{Walked}
use Rattle.contents_check.specs.declared.walk.Walked.TheVariants.{Right, Wrong}
use Rattle.contents_check.proofs.Walked.{none-walked, take-parts, walked-more, wrong-behind}
use Rattle.contents_check.proofs.first.joined.Goals as goal
use Rattle.contents_check.proofs.first.joined.Goals.{In-Ok}

pub loop-piece-init : goal.loop-piece-init
loop-piece-init c =
    let none : 0 * c.args.size ≡ 0 = omega arith in (
      subst (λ (n : ℕ). IsWalked c.args.recording.now (element_names c.args.elements.now)
          (take n c.args.replicas.now) (Right c.new-covering.result)) (sym none)
          (none-walked c.args.recording.now (element_names c.args.elements.now) c.new-covering.result
          c.new-covering.ensures.operations c.new-covering.ensures.cut c.new-covering.ensures.rows),
      λ _ _. refl,
    )

-- what the piece is found to be
found : (c : In-Ok) (walked : Walked) → c.in-Ok.walked ≡ walked
    → IsWalked c.args.recording.now (element_names c.args.elements.now)
    (take c.args.size (drop (c.loop-piece.piece-index * c.args.size) c.args.replicas.now)) walked
found c walked is =
    let Found =
    IsWalked c.args.recording.now (element_names c.args.elements.now)
    (take c.args.size (drop (c.loop-piece.piece-index * c.args.size) c.args.replicas.now)) in
    subst Found is
    (subst (λ piece. IfOk piece Found) (sym c.piece-item.is ∙ c.in-Ok.is)
    (c.requires c.loop-piece.piece-index c.piece-item.result (omega arith)))

pub loop-piece-preserved : goal.loop-piece-preserved
loop-piece-preserved c =
    let h = c.args.recording.now in
    let names : List NameBytes = element_names c.args.elements.now in
    let all : List ℕ = c.args.replicas.now in
    let size : ℕ = c.args.size in
    let before : ℕ = c.loop-piece.piece-index * size in
    let added = c.in_ok-append-in-Right.ensures in
    let next : (c.loop-piece.piece-index + 1) * size ≡ before + size = grind arith in (
      subst (λ (l : List ℕ). IsWalked h names l (Right c.append.new.self))
          (sym (ap (λ m. take m all) next ∙ take-add before size all))
          (walked-more h names (take before all) (take size (drop before all)) c.loop-piece.covering
          c.in-Right.more c.append.new.self c.loop-piece.invariant.0
          (found (goal.at.loop-piece-preserved c).In-Ok (Right c.in-Right.more) c.in-Right.is)
          added.operations added.cut added.rows),
      λ fault is.
          let zero = c.loop-piece.invariant.1 fault is in
          let read = get_or_from_slice_get c.args.pieces.now 0 (Ok (Wrong fault)) c.piece-item.result is in
          grind (arith, zero, read, c.piece-item.is, c.in-Ok.is, c.in-Right.is),
    )

pub returns-in-Wrong-clause-walked : goal.returns-in-Wrong-clause-walked
returns-in-Wrong-clause-walked c =
    let all : List ℕ = c.args.replicas.now in
    let size : ℕ = c.args.size in
    let n : ℕ = c.loop-piece.piece-index in
    let count : ℕ = length c.args.pieces.now in
    let left : ℕ = count - (n + 1) in
    let counted : count ≡ n + 1 + left = omega (arith, c.loop-piece-test.true) in
    let places : count * size ≡ n * size + size + left * size = ap (λ m. m * size) counted ∙ grind arith in
    wrong-behind c.args.recording.now (element_names c.args.elements.now) (take (n * size) all)
    (take size (drop (n * size) all)) (take (left * size) (drop (n * size + size) all))
    (take (count * size) all) c.in-Wrong.fault
    (take-parts (n * size) size (left * size) (count * size) all places) c.loop-piece.invariant.0.0
    (found (goal.at.returns-in-Wrong-clause-walked c).In-Ok (Wrong c.in-Wrong.fault) c.in-Wrong.is)

pub returns-clause-walked : goal.returns-clause-walked
returns-clause-walked c =
    let done : c.loop-piece.piece-index ≡ length c.args.pieces.now = omega arith in
    subst (λ (n : ℕ). IsWalked c.args.recording.now (element_names c.args.elements.now)
    (take (n * c.args.size) c.args.replicas.now) (Right c.loop-piece.covering)) done
    c.loop-piece.invariant.0
