-- One noted depth after the other is taken back.
use Rattle.std.proofs.Common.{◌<◌, ℕ, ◌∙◌, List, length, get_or, arith, length-set}
use Rattle.std.specs.Prelude.{Contains}
use Rattle.std.proofs.lemmas.List.Elements.{Contains-get_or}
use Rattle.cert_check.proofs.RowNumbers.{left-first, left-next, left-none}
use Rattle.cert_check.proofs.row_depths.take_back.Goals as goal

pub loop-number-init : goal.loop-number-init
loop-number-init c = record {
  len = omega arith;
  left = left-first c.args.depths.now c.args.noted.now c.args.unset c.requires.noted c.requires.most;
}

pub bounds-depths-number : goal.bounds-depths-number
bounds-depths-number c =
    let noted : List ℕ = c.args.noted.now in
    let i : ℕ = c.loop-number.number-index in
    let there : Contains noted (get_or noted i 0) = Contains-get_or noted i 0 c.loop-number-test.true in
    omega (arith, ((c.requires.noted (get_or noted i 0)).0 there).0, c.loop-number.invariant.len)

pub loop-number-preserved : goal.loop-number-preserved
loop-number-preserved c =
    let noted : List ℕ = c.args.noted.now in
    let i : ℕ = c.loop-number.number-index in
    let there : Contains noted (get_or noted i 0) = Contains-get_or noted i 0 c.loop-number-test.true in
    let within : get_or noted i 0 < length c.args.depths.now =
    ((c.requires.noted (get_or noted i 0)).0 there).0 in
    record {
      len = length-set c.loop-number.depths (get_or noted i 0) c.args.unset ∙ c.loop-number.invariant.len;
      left = left-next c.loop-number.depths noted c.args.unset i c.loop-number-test.true
          (omega (arith, within, c.loop-number.invariant.len)) c.loop-number.invariant.left;
    }

pub returns-clause-unset : goal.returns-clause-unset
returns-clause-unset c =
    left-none c.loop-number.depths c.args.noted.now c.args.unset c.loop-number.number-index
    (omega arith) c.loop-number.invariant.left
