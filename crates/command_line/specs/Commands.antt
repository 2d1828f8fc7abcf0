-- What the commands of the program take, in the words of `clap`.
use Rattle.std.specs.Prelude.{◌≡◌, Some, true, false, codes}
use Rattle.clap.specs.Words.{App, Rule, Text, app_of, new_app, new_rule, with_rule, with_subcommand, rule_of}
use Rattle.clap.specs.declared.builder.arg.Arg.{Arg}
use Rattle.clap.specs.declared.builder.ArgAction.TheVariants.{Set, SetTrue}
use Rattle.clap.specs.declared.builder.command.Command.{Command}
use Rattle.clap.specs.declared.builder.command.Command.TheViews.{out-Command}

-- the argument has this rule, and is not global
abbrev pub IsArgOf : Rule → Arg → Type 0
IsArgOf rule arg = (rule_of arg ≡ rule) × (arg.global ≡ false)

-- `--workers N`
abbrev pub workers_rule : Rule
workers_rule = record (new_rule (codes "workers")) {
  long = Some (codes "workers");
  action = Some Set;
  value_names = 1;
}

-- `--json`
abbrev pub json_rule : Rule
json_rule = record (new_rule (codes "json")) { long = Some (codes "json"); action = Some SetTrue }

-- a file of this name, which is to be given
abbrev pub required_rule : Text → Rule
required_rule name = record (new_rule name) { action = Some Set; required = true }

-- FILE
abbrev pub file_rule : Rule
file_rule = required_rule (codes "FILE")

-- CERT
abbrev pub certificate_rule : Rule
certificate_rule = required_rule (codes "CERT")

-- `verdict [--workers N] [--json] FILE`
abbrev pub verdict_app : App
verdict_app = with_rule (with_rule (with_rule (new_app (codes "verdict")) workers_rule) json_rule) file_rule

-- `cert FILE`
abbrev pub cert_app : App
cert_app = with_rule (new_app (codes "cert")) file_rule

-- `verify FILE CERT`
abbrev pub verify_app : App
verify_app = with_rule (with_rule (new_app (codes "verify")) file_rule) certificate_rule

-- `live [--workers N] FILE`
abbrev pub live_app : App
live_app = with_rule (with_rule (new_app (codes "live")) workers_rule) file_rule

-- the program without its commands: one of them is to be named, and the words begin with its name; it has a
-- version
abbrev pub bare_app : App
bare_app = record (new_app (codes "domepeeler")) {
  top = record (new_app (codes "domepeeler")).top {
    no_binary_name = true;
    subcommand_required = true;
    has_version = true;
  };
}

-- the program
abbrev pub finder_app : App
finder_app =
    with_subcommand
    (with_subcommand (with_subcommand (with_subcommand bare_app verdict_app.top) cert_app.top) verify_app.top)
    live_app.top

-- the command takes what the app says, and none of its arguments is global
abbrev pub IsCommandOf : App → Command → Type 0
IsCommandOf app command = (app_of command ≡ app) × ((out-Command command).has_globals ≡ false)
