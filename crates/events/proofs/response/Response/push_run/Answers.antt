-- The names of the other response from a place on, as they are packed.
use Rattle.std.proofs.Common.{length, take, drop, All, subst, ap, arith, length-drop}
use Rattle.std.proofs.lemmas.List.Elements.{All-take}
use Rattle.events.specs.Names.{IsName}
use Rattle.events.specs.Runs.{IsLongestRun}
use Rattle.events.proofs.Runs.{size-within, ends-length, take-spaced, ends-take}
use Rattle.events.proofs.Runs.{ArePackedFrom, packed-from, as-many-ends, no-run}
use Rattle.events.proofs.response.Response.push_run.Goals as goal
use Rattle.events.proofs.response.Response.push_run.Goals.{After-start_from-from, After-longest_run-run}
use Rattle.events.proofs.response.Response.push_run.Goals.{After-front-2}

pub returns-then-j-ends-clause-ok : goal.returns-then-j-ends-clause-ok
returns-then-j-ends-clause-ok c =
    no-run c.args.text.now (drop c.args.j c.args.other.now) (omega (
      arith,
      as-many-ends c.other.invariant c.other.view_is,
      c.if-j-ends.true,
      ap length c.as_slice-ends.ensures.value,
      length-drop c.args.j c.args.other.now,
    ))

names_from_j : (c : After-start_from-from)
    → ArePackedFrom c.other.inside.bytes.items c.other.inside.ends.items c.args.other.now c.args.j
    c.start_from-from.result
names_from_j c =
    packed-from c.args.j c.other.invariant c.other.view_is c.start_from-from.ensures.value
    c.as_slice-ends.ensures.value

pub after-requires : goal.after-requires
after-requires c =
    let rest = names_from_j (goal.at.after-requires c).After-start_from-from in
    omega (arith, rest.within, ap length c.as_slice.ensures.value)

pub longest_run-run-requires-clause-packed : goal.longest_run-run-requires-clause-packed
longest_run-run-requires-clause-packed c =
    let rest = names_from_j (goal.at.longest_run-run-requires-clause-packed c).After-start_from-from in (
      drop c.args.j c.args.other.now,
      rw (c.after.ensures, c.as_slice.ensures.value) rest.bytes_are,
      rw (c.after-2.ensures, c.as_slice-ends.ensures.value) rest.ends_are,
    )

longest : (c : After-longest_run-run) → IsLongestRun c.args.text.now (drop c.args.j c.args.other.now)
    c.longest_run-run.result.names c.longest_run-run.result.bytes
longest c =
    let rest = packed-from c.args.j c.other.invariant c.other.view_is c.start_from-from.ensures.value
    c.as_slice-ends.ensures.value in
    c.longest_run-run.ensures (drop c.args.j c.args.other.now)
    (rw (c.after.ensures, c.as_slice.ensures.value) rest.bytes_are)
    (rw (c.after-2.ensures, c.as_slice-ends.ensures.value) rest.ends_are)

pub after-requires-3 : goal.after-requires-3
after-requires-3 c =
    let rest = names_from_j (goal.at.after-requires-3 c).After-start_from-from in
    omega (arith, rest.within, ap length c.as_slice-2.ensures.value)

pub front-requires : goal.front-requires
front-requires c =
    let rest = names_from_j (goal.at.front-requires c).After-start_from-from in
    let run = longest (goal.at.front-requires c).After-longest_run-run in
    rw (c.after-3.ensures, c.as_slice-2.ensures.value, rest.bytes_are, run.bytes_are)
    (size-within (drop c.args.j c.args.other.now) c.longest_run-run.result.names)

pub front-requires-2 : goal.front-requires-2
front-requires-2 c =
    let rest = names_from_j (goal.at.front-requires-2 c).After-start_from-from in
    let run = longest (goal.at.front-requires-2 c).After-longest_run-run in
    rw (
      c.after-4.ensures,
      c.as_slice-ends.ensures.value,
      rest.ends_are,
      ends-length c.start_from-from.result (drop c.args.j c.args.other.now),
    ) run.within

pub push_packed-requires : goal.push_packed-requires
push_packed-requires c =
    let rest = names_from_j (goal.at.push_packed-requires c).After-start_from-from in
    let run = longest (goal.at.push_packed-requires c).After-longest_run-run in (
      take c.longest_run-run.result.names (drop c.args.j c.args.other.now),
      All-take IsName c.longest_run-run.result.names (drop c.args.j c.args.other.now) rest.are,
      rw (
        c.front.ensures,
        c.after-3.ensures,
        c.as_slice-2.ensures.value,
        rest.bytes_are,
        run.bytes_are,
      ) (take-spaced (drop c.args.j c.args.other.now) c.longest_run-run.result.names),
      rw (c.front-2.ensures, c.after-4.ensures, c.as_slice-ends.ensures.value, rest.ends_are)
          (ends-take c.start_from-from.result (drop c.args.j c.args.other.now)
          c.longest_run-run.result.names),
    )

pub returns-clause-ok : goal.returns-clause-ok
returns-clause-ok c = longest (goal.at.returns-clause-ok c).After-longest_run-run

pub returns-clause-value : goal.returns-clause-value
unfolding push_packed-requires
returns-clause-value c =
    let pushed = push_packed-requires (goal.at.returns-clause-value c).After-front-2 in
    c.in_ok-push_packed.ensures.ok pushed.0 pushed.2 pushed.3

pub returns-then-j-ends-clause-names : goal.returns-then-j-ends-clause-names
returns-then-j-ends-clause-names c = subst (All IsName) c.other.view_is c.other.invariant.names

pub returns-clause-names : goal.returns-clause-names
returns-clause-names c = subst (All IsName) c.other.view_is c.other.invariant.names
