use Rattle.std.proofs.Common.{rules}
use Rattle.std.proofs.lemmas.Result.{IfOk-weaker}
use Rattle.command_line.specs.Commands.{IsCommandOf, bare_app, cert_app, live_app, verdict_app, verify_app}
use Rattle.command_line.proofs.Built.{subcommand-added}
use Rattle.command_line.proofs.words.finder_command.Goals as goal

pub returns : goal.returns
returns c =
    let bare : IsCommandOf bare_app c.subcommand_required.result = search rules in
    let one =
    subcommand-added _ _ c.in_ok-subcommand.field-0 bare_app verdict_app bare
    c.in_ok-verdict_command.ensures c.in_ok-subcommand.ensures in
    let two =
    subcommand-added _ _ c.in_ok-subcommand-2.field-0 _ cert_app one c.in_ok-cert_command.ensures
    c.in_ok-subcommand-2.ensures in
    let three =
    subcommand-added _ _ c.in_ok-subcommand-3.field-0 _ verify_app two c.in_ok-verify_command.ensures
    c.in_ok-subcommand-3.ensures in
    IfOk-weaker c.subcommand-4.result _ _
    (λ command added. subcommand-added _ _ command _ live_app three c.in_ok-live_command.ensures added)
    c.subcommand-4.ensures
