-- The bytes from where the name at the place begins are the text of the names from there on.
use Rattle.std.proofs.Common.{length, ap, arith}
use Rattle.events.proofs.Runs.{as-many-ends, packed-from}
use Rattle.events.proofs.response.Response.text_from.Goals as goal

pub start_from-from-requires : goal.start_from-from-requires
start_from-from-requires c =
    omega (
      arith,
      as-many-ends c.self.invariant c.self.view_is,
      c.requires,
      ap length c.as_slice.ensures.value,
    )

pub after-requires : goal.after-requires
after-requires c =
    let rest = packed-from c.args.j c.self.invariant c.self.view_is c.start_from-from.ensures.value
    c.as_slice.ensures.value in
    omega (arith, rest.within, ap length c.as_slice-2.ensures.value)

pub returns-clause-text : goal.returns-clause-text
returns-clause-text c =
    let rest = packed-from c.args.j c.self.invariant c.self.view_is c.start_from-from.ensures.value
    c.as_slice.ensures.value in
    rw (c.after.ensures, c.as_slice-2.ensures.value) rest.bytes_are
