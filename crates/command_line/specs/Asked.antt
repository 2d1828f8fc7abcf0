-- What words ask for, as one fact: all that `read_words` says of its answer.
use Rattle.std.specs.Prelude.{◌≡◌, ◌≢◌, [], ℕ, true, IfOk, List, MatchResult, Result}
use Rattle.clap.specs.Words.{takes}
use Rattle.command_line.specs.Answers.{IsAnswerToWords, given_by}
use Rattle.command_line.specs.Commands.{finder_app}
use Rattle.command_line.specs.Tasks.{HasWorkers, IsDefault, IsAnswerWhereTaken}
use Rattle.command_line.specs.declared.task.Task.{Task}
use Rattle.command_line.specs.declared.words.WordsFault.{WordsFault}
use Rattle.command_line.specs.declared.words.WordsFault.TheVariants.{Memory}

-- the answer to the words that stand after the program's name
pub record IsAskedBy (words : List (List ℕ)) (answer : Result Task WordsFault) : Type 0 where
  pub workers : IfOk answer HasWorkers
  pub none : words ≡ [] → MatchResult answer IsDefault (λ fault. fault ≡ Memory)
  pub given : words ≢ [] → IsAnswerToWords words answer
  pub taken : words ≢ [] → takes finder_app words ≡ true → IsAnswerWhereTaken (given_by words) answer
