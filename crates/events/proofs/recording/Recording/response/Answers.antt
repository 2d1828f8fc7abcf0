-- A receipt is no operation.
use Rattle.std.proofs.Common.{◌≡◌, true, false, sym, ◌∙◌, ap}
use Rattle.events.specs.History.{is_operation}
use Rattle.events.proofs.Bodies.{body_is_operation}
use Rattle.events.proofs.recording.Recording.response.Goals as goal

pub returns-in-Recv : goal.returns-in-Recv
returns-in-Recv c = λ is.
    let operates =
    body_is_operation c.args.self.now c.args.name c.in_ok-response.field-0.now
    (sym c.in_ok-response.ensures) in
    let bad : false ≡ true = sym (ap is_operation c.in-Recv.is) ∙ operates in
    cc
