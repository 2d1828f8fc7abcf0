-- What the words are answered, by what `clap` made of them.
use Rattle.std.proofs.Common.{◌≡◌, ℕ, List, [], Option, Result, Ok, Err, sym, ◌∙◌, subst, refl, inl, inr}
use Rattle.std.proofs.Common.{true}
use Rattle.clap.specs.Words.{App, FailsBy, HasKind, HasMatchesOf, Row, fault_of, is_simple}
use Rattle.clap.specs.Words.{is_simple_and_free, kind_of, subcommand_rows_of}
use Rattle.clap.specs.declared.error.Error.{Error}
use Rattle.clap.specs.declared.error.ErrorKind.TheVariants.{DisplayHelp, DisplayVersion, OutOfMemory}
use Rattle.clap.specs.declared.parser.matches.ArgMatches.{ArgMatches}
use Rattle.command_line.specs.Answers.{AsksForText, IsAnswerToWords, IsFaultOf, given_by, kinds_at}
use Rattle.clap.specs.declared.error.ErrorKind.{ErrorKind}
use Rattle.command_line.specs.Commands.{finder_app}
use Rattle.command_line.specs.Tasks.{IsAnswerToSubcommand, IsAnswerWhereTaken}
use Rattle.command_line.proofs.Taken.{named-whole, taken-as}
use Rattle.command_line.specs.declared.task.Task.{Task}
use Rattle.command_line.specs.declared.words.WordsFault.{WordsFault}
use Rattle.command_line.specs.declared.words.WordsFault.TheVariants.{Usage, Help, Memory}

finder-simple : is_simple finder_app ≡ true
finder-simple = refl

finder-free : is_simple_and_free finder_app ≡ true
finder-free = refl

-- the matches of the program's command are those that the words give
pub matches-given : (app : App) (words : List (List ℕ)) (m : ArgMatches) → app ≡ finder_app
    → HasMatchesOf app words m → subcommand_rows_of m ≡ given_by words
matches-given app words m is h = (subst (λ a. HasMatchesOf a words m) is h finder-simple).1

-- and it fails by the kinds that they have
pub fails-by : (app : App) (words : List (List ℕ)) (parsed : Result ArgMatches Error) → app ≡ finder_app
    → (is_simple_and_free app ≡ true → FailsBy (fault_of app words) parsed) → FailsBy (kinds_at words) parsed
fails-by app words parsed is h =
    subst (λ a. is_simple_and_free a ≡ true → FailsBy (fault_of a words) parsed) is h finder-free

-- the answer to matches
pub matches-answer : (words : List (List ℕ)) (answer : Result Task WordsFault) → kinds_at words ≡ []
    → IsAnswerWhereTaken (given_by words) answer
    → IsAnswerToWords words answer
matches-answer words (Ok task) none h = (none, h)
matches-answer words (Err Memory) none h = tt
matches-answer words (Err Usage) none (inl memory) = absurd (let bad : Usage ≡ Memory = memory in cc)
matches-answer words (Err Usage) none (inr usage) = inr (none, usage.1)
matches-answer words (Err (Help text)) none (inl memory) =
    absurd (let bad : Help text ≡ Memory = memory in cc)
matches-answer words (Err (Help text)) none (inr usage) = absurd (let bad : Help text ≡ Usage = usage.0 in cc)

-- out of memory is no wish for help or the version
no-text : (kind : ErrorKind) → AsksForText kind → kind ≡ OutOfMemory → ⊥
no-text kind (inl help) memory = absurd (let bad : DisplayHelp ≡ OutOfMemory = sym help ∙ memory in cc)
no-text kind (inr version) memory =
    absurd (let bad : DisplayVersion ≡ OutOfMemory = sym version ∙ memory in cc)

-- the answer to a fault
pub fault-answer : (words : List (List ℕ)) (error : Error) (fault : WordsFault)
    → HasKind (kinds_at words) error → IsFaultOf (kind_of error) fault
    → IsAnswerToWords words (Err fault)
fault-answer words error Memory kind h = tt
fault-answer words error Usage (inl memory) h = absurd (h.1 memory)
fault-answer words error Usage (inr among) h = inl (kind_of error, among, h)
fault-answer words error (Help text) (inl memory) h = absurd (no-text (kind_of error) h memory)
fault-answer words error (Help text) (inr among) h = (kind_of error, among, h)

-- where memory ran out, that is told
pub memory-answer : (given : Option (List ℕ × List Row)) (error : Error) (fault : WordsFault)
    → kind_of error ≡ OutOfMemory → IsFaultOf (kind_of error) fault
    → IsAnswerWhereTaken given (Err fault)
memory-answer given error Memory memory h = inl refl
memory-answer given error Usage memory h = absurd (h.1 memory)
memory-answer given error (Help text) memory h = absurd (no-text (kind_of error) h memory)

-- the matches that the words give, where nothing is wrong in them, are answered by their task or by the
-- number of workers
pub given-answer : (words : List (List ℕ)) (given : Option (List ℕ × List Row))
    (answer : Result Task WordsFault) → given ≡ given_by words
    → kinds_at words ≡ [] → IsAnswerToSubcommand given answer → IsAnswerWhereTaken (given_by words) answer
given-answer words given answer same none h =
    taken-as (given_by words) answer (named-whole words none)
    (subst (λ g. IsAnswerToSubcommand g answer) same h)
