use Rattle.events.proofs.entry.look_over.Goals as goal

pub returns-in-Recv : goal.returns-in-Recv
returns-in-Recv c = rw (c.in-Recv.is, ← c.seen.view_is) c.seen.invariant
