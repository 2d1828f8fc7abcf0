-- What a command takes once an argument or a subcommand is added.
use Rattle.std.proofs.Common.{◌||◌, ap, ap₂, ◌∙◌}
use Rattle.clap.specs.Words.{AddsSubcommand, App, with_subcommand}
use Rattle.clap.specs.declared.builder.command.Command.{Command}
use Rattle.command_line.specs.Commands.{IsCommandOf}

pub subcommand-added : (old sub new : Command) (app part : App) → IsCommandOf app old → IsCommandOf part sub
    → AddsSubcommand old sub new
    → IsCommandOf (with_subcommand app part.top) new
subcommand-added old sub new app part whole one added = (
  added.shape one.1 ∙ ap₂ with_subcommand whole.0 (ap (λ (a : App). a.top) one.0),
  added.globals ∙ ap₂ (λ b d. b || d) whole.1 one.1,
)
