use Rattle.std.proofs.Common.{◌≡◌, List, [], ℕ, map, string_bytes, ap, ◌∙◌, subst}
use Rattle.clap.specs.Words.{App, FailsBy, subcommand_rows_of, takes}
use Rattle.command_line.specs.Answers.{given_by, kinds_at}
use Rattle.command_line.proofs.Answered.{fails-by, fault-answer, given-answer, matches-answer, matches-given}
use Rattle.command_line.proofs.Answered.{memory-answer}
use Rattle.command_line.proofs.Asked.{answer-workers}
use Rattle.command_line.proofs.words.read_words.Goals as goal

pub returns-in-Ok-clause-workers : goal.returns-in-Ok-clause-workers
returns-in-Ok-clause-workers c =
    answer-workers (subcommand_rows_of c.in-Ok.matches) c.task_of.result c.task_of.ensures

pub returns-in-Ok-clause-answer : goal.returns-in-Ok-clause-answer
returns-in-Ok-clause-answer c = λ some.
    let words : List (List ℕ) = map string_bytes c.args.words.now in
    let app = c.in_ok-finder_command.ensures.0 in
    let given = matches-given _ words c.in-Ok.matches app c.in-Ok.ensures.matches in
    let none : kinds_at words ≡ [] =
    subst (FailsBy (kinds_at words)) c.in-Ok.is
    (fails-by _ words _ app c.try_get_matches_from.ensures.kinds) in
    matches-answer words c.task_of.result none
    (given-answer words _ c.task_of.result given none c.task_of.ensures)

pub returns-in-Err-clause-answer : goal.returns-in-Err-clause-answer
returns-in-Err-clause-answer c = λ some.
    let words : List (List ℕ) = map string_bytes c.args.words.now in
    let kind = fails-by _ words _ c.in_ok-finder_command.ensures.0 c.try_get_matches_from.ensures.kinds in
    fault-answer words c.in-Err.error c.fault_of.result (subst (FailsBy (kinds_at words)) c.in-Err.is kind)
    c.fault_of.ensures

pub returns-in-Ok-clause-taken : goal.returns-in-Ok-clause-taken
returns-in-Ok-clause-taken c = λ some taken.
    let words : List (List ℕ) = map string_bytes c.args.words.now in
    let app = c.in_ok-finder_command.ensures.0 in
    let given = matches-given _ words c.in-Ok.matches app c.in-Ok.ensures.matches in
    let none : kinds_at words ≡ [] =
    subst (FailsBy (kinds_at words)) c.in-Ok.is
    (fails-by _ words _ app c.try_get_matches_from.ensures.kinds) in
    given-answer words _ c.task_of.result given none c.task_of.ensures

pub returns-in-Err-clause-taken : goal.returns-in-Err-clause-taken
returns-in-Err-clause-taken c = λ some taken.
    let words : List (List ℕ) = map string_bytes c.args.words.now in
    let memory =
    c.in-Err.ensures.passes (ap (λ (a : App). takes a words) c.in_ok-finder_command.ensures.0 ∙ taken) in
    memory-answer (given_by words) c.in-Err.error c.fault_of.result memory c.fault_of.ensures
