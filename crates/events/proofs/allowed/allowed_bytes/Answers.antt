-- Sixteen more pass each time, or one of them does not, or fewer are left.
use Rattle.std.proofs.Common.{◌≡◌, ◌∙◌, ◌+◌, ◌≤◌, length, drop, sym, ap, arith, length-drop}
use Rattle.std.specs.List.{prefix_len}
use Rattle.std.proofs.lemmas.Grind.{common_steps}
use Rattle.std.proofs.lemmas.List.{drop-drop}
use Rattle.std.proofs.lemmas.List.Sums.{prefix_len-le-length}
use Rattle.events.specs.Names.{is_name_byte}
use Rattle.events.proofs.Prefixes.{stops-there, goes-on}
use Rattle.events.proofs.allowed.allowed_bytes.Goals as goal
use Rattle.events.proofs.allowed.allowed_bytes.Goals.{After-not_allowed-marks}

sixteen-left : (c : After-not_allowed-marks) → 16 ≤ length c.after.result.now
sixteen-left c =
    omega (
      arith,
      ap length c.after.ensures,
      length-drop c.lanes.allowed c.args.bytes.now,
      c.lanes-test.true,
    )

pub returns-then-marks-ne0 : goal.returns-then-marks-ne0
returns-then-marks-ne0 c =
    let long = sixteen-left (goal.at.returns-then-marks-ne0 c).After-not_allowed-marks in
    ap (λ n. c.lanes.allowed + n)
    (stops-there is_name_byte c.after.result.now c.not_allowed-marks.result long
    c.not_allowed-marks.ensures c.if-marks-ne0.true ∙ ap (prefix_len is_name_byte) c.after.ensures)
    ∙ sym c.lanes.invariant.passed

pub lanes-preserved : goal.lanes-preserved
lanes-preserved c =
    let long = sixteen-left (goal.at.lanes-preserved c).After-not_allowed-marks in
    let more : prefix_len is_name_byte c.after.result.now ≡ 16
    + prefix_len is_name_byte (drop 16 c.after.result.now) =
    goes-on is_name_byte c.after.result.now c.not_allowed-marks.result long c.not_allowed-marks.ensures
    c.if-marks-ne0.false in
    let behind : drop 16 c.after.result.now ≡ drop (c.lanes.allowed + 16) c.args.bytes.now =
    ap (drop 16) c.after.ensures ∙ drop-drop 16 c.lanes.allowed c.args.bytes.now in
    record {
      within = omega (arith, c.lanes-test.true, c.lanes.invariant.within);
      passed =
          omega (
            arith,
            c.lanes.invariant.passed,
            ap (prefix_len is_name_byte) c.after.ensures,
            more,
            ap (prefix_len is_name_byte) behind,
          );
    }

pub overflow_add-result-2 : goal.overflow_add-result-2
overflow_add-result-2 c =
    let within : c.lanes.allowed + c.allowed_in_few.result ≤ length c.args.bytes.now =
    omega (
      arith,
      c.allowed_in_few.ensures,
      prefix_len-le-length is_name_byte c.after-2.result.now,
      ap length c.after-2.ensures,
      length-drop c.lanes.allowed c.args.bytes.now,
      c.lanes.invariant.within,
    ) in
    grind (arith, common_steps, within)
