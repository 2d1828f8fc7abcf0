use Rattle.std.proofs.Common.{◌<◌, ◌*◌, ◌∙◌, length, get_or, subst, sym, arith}
use Rattle.std.proofs.lemmas.Grind.{get_or_default_zero}
use Rattle.std.proofs.lemmas.List.Elements.{Contains-get_or}
use Rattle.bit_tables.specs.Sets.{Has}
use Rattle.bit_tables.proofs.SetLemmas.{Has-room}
use Rattle.bit_tables.proofs.few.add_few.Goals as goal

pub insert-requires : goal.insert-requires
insert-requires c =
    let few = c.args.few.now in
    let room : get_or few c.loop-y.y-index 0 < 64 * length c.args.all.now =
    Has-room c.args.all.now (get_or few c.loop-y.y-index 0) (c.requires.within (get_or few c.loop-y.y-index 0)
    (Contains-get_or few c.loop-y.y-index 0 c.loop-y-test.true)) in
    let len = c.loop-y.invariant.len in
    let width = c.requires.width in
    omega arith

pub returns-clause-few : goal.returns-clause-few
returns-clause-few c y contains =
    subst (Has c.loop-y.set) (sym (get_or_default_zero c.args.few.now contains.0 y contains.1) ∙ contains.2)
    (c.loop-y.invariant.few contains.0 (let test = c.loop-y-test.false in let within = contains.1 in
    omega arith))
