-- The names from the place on, as they are packed.
use Rattle.std.proofs.Common.{length, drop, ap, arith}
use Rattle.events.proofs.Runs.{as-many-ends, packed-from}
use Rattle.events.proofs.response.Response.run_in.Goals as goal
use Rattle.events.proofs.response.Response.run_in.Goals.{After-after-2}

pub start_from-from-requires : goal.start_from-from-requires
start_from-from-requires c =
    omega (
      arith,
      as-many-ends c.self.invariant c.self.view_is,
      c.requires,
      ap length c.as_slice-ends.ensures.value,
    )

pub after-requires : goal.after-requires
after-requires c =
    let rest = packed-from c.args.i c.self.invariant c.self.view_is c.start_from-from.ensures.value
    c.as_slice-ends.ensures.value in
    omega (arith, rest.within, ap length c.as_slice.ensures.value)

pub after-requires-2 : goal.after-requires-2
after-requires-2 c =
    omega (
      arith,
      as-many-ends c.self.invariant c.self.view_is,
      c.requires,
      ap length c.as_slice-ends.ensures.value,
    )

pub longest_run-requires-clause-packed : goal.longest_run-requires-clause-packed
longest_run-requires-clause-packed c =
    let rest = packed-from c.args.i c.self.invariant c.self.view_is c.start_from-from.ensures.value
    c.as_slice-ends.ensures.value in (
      drop c.args.i c.args.self.now,
      rw (c.after.ensures, c.as_slice.ensures.value) rest.bytes_are,
      rw (c.after-2.ensures, c.as_slice-ends.ensures.value) rest.ends_are,
    )

pub returns-clause-longest : goal.returns-clause-longest
unfolding longest_run-requires-clause-packed
returns-clause-longest c =
    let packed = longest_run-requires-clause-packed (goal.at.returns-clause-longest c).After-after-2 in
    c.longest_run.ensures packed.0 packed.1 packed.2
