-- What holds of the task that a command line asks for.
use Rattle.std.specs.Prelude.{◌≡◌, ◌≤◌, ◌↔◌, ◌⊎◌, Option, None, Some, Result, Ok, MatchResult, List, ℕ, codes}
use Rattle.clap.specs.Words.{Row, first_of, one_of}
use Rattle.command_line.specs.declared.task.Form.{Form}
use Rattle.command_line.specs.declared.task.Form.TheVariants.{Text, Json}
use Rattle.command_line.specs.declared.task.Task.{Task}
use Rattle.command_line.specs.declared.task.Task.TheVariants.{Verdict, Cert, Verify, Live}
use Rattle.command_line.specs.declared.words.WordsFault.{WordsFault}
use Rattle.command_line.specs.declared.words.WordsFault.TheVariants.{Usage, Memory}
use Rattle.command_line.specs.Workers.{IsWorkersOf}

-- its workers are 1 to 64
abbrev pub HasWorkers : Task → Type 0
HasWorkers (Verdict workers form file) = (1 ≤ workers) × (workers ≤ 64)
HasWorkers (Cert file) = Unit {0}
HasWorkers (Verify file cert) = Unit {0}
HasWorkers (Live workers file) = (1 ≤ workers) × (workers ≤ 64)

-- the task of a command line without words: standard input, four workers, and text
abbrev pub IsDefault : Task → Type 0
IsDefault (Verdict workers form file) = (workers ≡ 4) × (form ≡ Text) × (file ≡ codes "-")
IsDefault (Cert file) = ⊥
IsDefault (Verify file cert) = ⊥
IsDefault (Live workers file) = ⊥

-- JSON where the flag was given, else text
abbrev pub IsFormOf : Option (List ℕ) → Form → Type 0
IsFormOf flag form = (form ≡ Json) ↔ (flag ≡ Some (codes "true"))

-- the word that was given for an argument, or out of memory; and a usage fault where none was
abbrev pub IsWordOf : Option (List ℕ) → Result (List ℕ) WordsFault → Type 0
IsWordOf None answer = MatchResult answer (λ _. ⊥) (λ fault. fault ≡ Usage)
IsWordOf (Some word) answer = MatchResult answer (λ given. given ≡ word) (λ fault. fault ≡ Memory)

-- the subcommand of this name asks for the task, with what was found for its arguments
abbrev pub IsTaskOf : List ℕ → List Row → Task → Type 0
IsTaskOf name rows (Verdict workers form file) =
    (name ≡ codes "verdict") × IsWorkersOf (first_of (codes "workers") rows) (Ok workers)
    × IsFormOf (one_of (codes "json") rows) form × (first_of (codes "FILE") rows ≡ Some file)
IsTaskOf name rows (Cert file) = (name ≡ codes "cert") × (first_of (codes "FILE") rows ≡ Some file)
IsTaskOf name rows (Verify file cert) =
    (name ≡ codes "verify") × (first_of (codes "FILE") rows ≡ Some file)
    × (first_of (codes "CERT") rows ≡ Some cert)
IsTaskOf name rows (Live workers file) =
    (name ≡ codes "live") × IsWorkersOf (first_of (codes "workers") rows) (Ok workers)
    × (first_of (codes "FILE") rows ≡ Some file)

-- the task is what the subcommand, if there is one, asks for
abbrev pub AsksFor : Option (List ℕ × List Row) → Task → Type 0
AsksFor None task = ⊥
AsksFor (Some given) task = IsTaskOf given.0 given.1 task

-- the task that the subcommand asks for; a usage fault where it asks for none; or out of memory
abbrev pub IsAnswerToSubcommand : Option (List ℕ × List Row) → Result Task WordsFault → Type 0
IsAnswerToSubcommand given answer = MatchResult answer (AsksFor given)
    (λ fault. (fault ≡ Memory) ⊎ ((fault ≡ Usage) × ((task : Task) → ¬ AsksFor given task)))

-- `verdict` or `live` was asked for with a word for the number of workers that is no number from 1 to 64
abbrev pub HasBadWorkers : Option (List ℕ × List Row) → Type 0
HasBadWorkers None = ⊥
HasBadWorkers (Some given) =
    ((given.0 ≡ codes "verdict") ⊎ (given.0 ≡ codes "live"))
    × ((n : ℕ) → IsWorkersOf (first_of (codes "workers") given.1) (Ok n) → ⊥)

-- the task that the subcommand asks for; a usage fault where its number of workers is none; or out of memory
abbrev pub IsAnswerWhereTaken : Option (List ℕ × List Row) → Result Task WordsFault → Type 0
IsAnswerWhereTaken given answer =
    MatchResult answer (AsksFor given) (λ fault. (fault ≡ Memory) ⊎ ((fault ≡ Usage) × HasBadWorkers given))
