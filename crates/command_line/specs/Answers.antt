-- What the words of a command line are answered.
use Rattle.std.specs.Prelude.{◌≡◌, ◌≢◌, ◌⊎◌, [], List, ℕ, Option, Result, Ok, Err}
use Rattle.clap.specs.Words.{IsAmong, Kinds, Row, fault_of, subcommand_of}
use Rattle.clap.specs.declared.error.ErrorKind.{ErrorKind}
use Rattle.clap.specs.declared.error.ErrorKind.TheVariants.{DisplayHelp, DisplayVersion, OutOfMemory}
use Rattle.command_line.specs.Commands.{finder_app}
use Rattle.command_line.specs.Tasks.{AsksFor, HasBadWorkers}
use Rattle.command_line.specs.declared.task.Task.{Task}
use Rattle.command_line.specs.declared.words.WordsFault.{WordsFault}
use Rattle.command_line.specs.declared.words.WordsFault.TheVariants.{Usage, Help, Memory}

-- the kinds that `clap`'s fault may have on the words: none where the program takes them
abbrev pub kinds_at : List (List ℕ) → Kinds
kinds_at words = fault_of finder_app words

-- the subcommand that the words name, and what they give for each of its arguments
abbrev pub given_by : List (List ℕ) → Option (List ℕ × List Row)
given_by words = subcommand_of finder_app words

-- help or the version is asked for
abbrev pub AsksForText : ErrorKind → Type 0
AsksForText kind = (kind ≡ DisplayHelp) ⊎ (kind ≡ DisplayVersion)

-- what is answered to a fault of this kind; the text of help or version may be refused for out of memory
abbrev pub IsFaultOf : ErrorKind → WordsFault → Type 0
IsFaultOf kind Usage = (¬ AsksForText kind) × (kind ≢ OutOfMemory)
IsFaultOf kind (Help text) = AsksForText kind
IsFaultOf kind Memory = AsksForText kind ⊎ (kind ≡ OutOfMemory)

-- one of the kinds that the fault may have asks for help or the version
abbrev pub HasWish : Kinds → Type 0
HasWish kinds = (kind : ErrorKind) × IsAmong kind kinds × AsksForText kind

-- one of the kinds that the fault may have is a mistake, and no such wish
abbrev pub HasMistake : Kinds → Type 0
HasMistake kinds = (kind : ErrorKind) × IsAmong kind kinds × IsFaultOf kind Usage

-- the task that the words ask for; a text where they ask for help or the version; a usage fault where `clap`
-- may find a mistake, or finds none and the number of workers is none; or out of memory
abbrev pub IsAnswerToWords : List (List ℕ) → Result Task WordsFault → Type 0
IsAnswerToWords words (Ok task) = (kinds_at words ≡ []) × AsksFor (given_by words) task
IsAnswerToWords words (Err Usage) =
    HasMistake (kinds_at words) ⊎ ((kinds_at words ≡ []) × HasBadWorkers (given_by words))
IsAnswerToWords words (Err (Help text)) = HasWish (kinds_at words)
IsAnswerToWords words (Err Memory) = Unit {0}
