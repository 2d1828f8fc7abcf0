-- One lane was written, and it holds what it held.
use Rattle.std.proofs.Common.{arith, subst, sym}
use Rattle.std.proofs.lemmas.Result.{on_ok_weaker}
use Rattle.events.specs.Lanes.{HasRoom}
use Rattle.events.proofs.Lanes.{lanes-same}
use Rattle.events.proofs.Places.{slice_get-within, set-same}
use Rattle.events.proofs.lane.make_room.Goals as goal

pub returns-clause-keeps : goal.returns-clause-keeps
returns-clause-keeps c = λ replicas entries are.
    lanes-same replicas entries c.args.lanes.now.items c.args.r c.index_mut-lane.result.now
    c.make_room.new.self are
    (slice_get-within c.args.lanes.now.items c.args.r c.index_mut-lane.result.now
    (omega (arith, c.args.lanes.now.ok)) c.index_mut-lane.ensures.value)
    c.make_room.ensures.same

pub returns-clause-room : goal.returns-clause-room
returns-clause-room c =
    on_ok_weaker c.make_room.result
    (λ room lane e. subst HasRoom
    (sym (set-same c.args.lanes.now.items c.args.r c.make_room.new.self lane e)) room)
    c.make_room.ensures.room
