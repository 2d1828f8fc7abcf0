-- One operation more, which is an insert or not.
use Rattle.std.proofs.Common.{◌≡◌, ℕ, ◌+◌, Bool, true, false, Option, Some, None, List, [], ◌∷◌, ◌++◌, length}
use Rattle.std.proofs.Common.{cond, refl, sym, ◌∙◌, ap, arith}
use Rattle.std.specs.Prelude.{is_some, option_and_then}
use Rattle.std.specs.List.{cons_option}
use Rattle.events.specs.Operation.{Operation}
use Rattle.events.specs.History.{inserted_name}
use Rattle.events.specs.Operations.{operation}
use Rattle.events.proofs.Numbers.{names_push}
use Rattle.contents_check.specs.Covering.{first_operations}
use Rattle.report.specs.Counts.{inserted_by}
use Rattle.report.proofs.Longer.{one-more}
use Rattle.report.proofs.counts.inserts_among.Goals as goal
use Rattle.report.proofs.counts.inserts_among.Goals.{then-is_insert, else-is_insert}

had : {X : Type 0} (o : Option X) (b : Bool) → b ≡ is_some o → length (cons_option o []) ≡ cond b 1 0
had (Some x) b e = rw e refl
had None b e = rw e refl

pub loop-i-preserved : goal.loop-i-preserved
loop-i-preserved c =
    let h = c.args.recording.now in
    let f = λ (o : Operation). option_and_then inserted_name (operation h o) in
    let r : ℕ = c.args.r in
    let i : ℕ = c.loop-i.i in
    let x : Operation = record { replica = r; n = i + 1 } in
    let more : length (inserted_by h (first_operations r (i + 1)))
    ≡ length (inserted_by h (first_operations r i)) + length (cons_option (f x) []) =
    ap (λ (l : List Operation). length (inserted_by h l)) (sym (names_push r i))
    ∙ one-more f (first_operations r i) x in
    elim c.if-is_insert.branch [
      | then-is_insert w ↦
          let one : length (cons_option (f x) []) ≡ 1 =
          had (f x) true (sym w.if-is_insert.true ∙ c.is_insert.ensures) in
          record {
            counted = omega (arith, w.inserts-is, c.loop-i.invariant.counted, more, one);
            few = omega (arith, w.inserts-is, c.loop-i.invariant.few);
          }
      | else-is_insert w ↦
          let none : length (cons_option (f x) []) ≡ 0 =
          had (f x) false (sym w.if-is_insert.false ∙ c.is_insert.ensures) in
          record {
            counted = omega (arith, w.inserts-is, c.loop-i.invariant.counted, more, none);
            few = omega (arith, w.inserts-is, c.loop-i.invariant.few);
          }
    ]

pub returns : goal.returns
returns c =
    let h = c.args.recording.now in
    let end : c.loop-i.i ≡ c.args.count = omega (arith, c.loop-i-test.false) in
    record {
      inserts =
          c.loop-i.invariant.counted
          ∙ ap (λ (n : ℕ). length (inserted_by h (first_operations c.args.r n))) end;
      few = omega (arith, c.loop-i.invariant.few, end);
    }
