-- Which task a subcommand asks for, by what the getters of its matches read.
use Rattle.std.proofs.Common.{◌≡◌, ℕ, ◌≤◌, List, Option, Some, None, Ok, Err, sym, ap, ◌∙◌, subst, refl, inl}
use Rattle.std.proofs.Common.{inr, arith, codes, length, get_or, ◌⊎◌, Result}
use Rattle.std.specs.Prelude.{IfOk, IsErrAnd}
use Rattle.clap.specs.Words.{Row, first_of, first_value, one_text, rows_of}
use Rattle.clap.specs.declared.parser.matches.Found.{Found}
use Rattle.clap.proofs.WalkLemmas.{first_value-rows, one_text-rows}
use Rattle.command_line.specs.Tasks.{AsksFor, HasWorkers, IsAnswerToSubcommand, IsFormOf, IsTaskOf, IsWordOf}
use Rattle.command_line.specs.Workers.{IsWorkersOf}
use Rattle.command_line.specs.declared.task.Form.{Form}
use Rattle.command_line.specs.declared.task.Task.{Task}
use Rattle.command_line.specs.declared.task.Task.TheVariants.{Verdict, Cert, Verify, Live}
use Rattle.command_line.specs.declared.words.WordsFault.{WordsFault}
use Rattle.command_line.specs.declared.words.WordsFault.TheVariants.{Usage, Memory}

-- a word that was read is the one that was given
pub given-word : (o : Option (List ℕ)) (w : List ℕ) → IsWordOf o (Ok w) → o ≡ Some w
given-word None w h = absurd h
given-word (Some v) w h = ap (λ t. Some t) (sym h)

pub word-read : (f : Found) (id w : List ℕ) → IsWordOf (first_value f id) (Ok w)
    → first_of id (rows_of f) ≡ Some w
word-read f id w h = sym (first_value-rows f id) ∙ given-word (first_value f id) w h

-- what is told where a word could not be had
word-fault : (o : Option (List ℕ)) (fault : WordsFault) → IsWordOf o (Err fault)
    → (fault ≡ Memory) ⊎ ((fault ≡ Usage) × (o ≡ None))
word-fault None fault h = inr (h, refl)
word-fault (Some v) fault h = inl h

-- a task of a subcommand has its file
file-given : (f : Found) (name : List ℕ) (task : Task) → IsTaskOf name (rows_of f) task
    → first_value f (codes "FILE") ≡ None → ⊥
file-given f name (Verdict workers form file) h none = let bad : None ≡ Some file =
    sym none ∙ first_value-rows f (codes "FILE") ∙ h.3 in cc
file-given f name (Cert file) h none = let bad : None ≡ Some file =
    sym none ∙ first_value-rows f (codes "FILE") ∙ h.1 in cc
file-given f name (Verify file cert) h none = let bad : None ≡ Some file =
    sym none ∙ first_value-rows f (codes "FILE") ∙ h.1 in cc
file-given f name (Live workers file) h none = let bad : None ≡ Some file =
    sym none ∙ first_value-rows f (codes "FILE") ∙ h.2 in cc

pub no-file : (f : Found) (name : List ℕ) (fault : WordsFault)
    → IsWordOf (first_value f (codes "FILE")) (Err fault)
    → IsAnswerToSubcommand (Some (name, rows_of f)) (Err fault)
no-file f name fault h = elim (word-fault _ fault h) [
  | inl memory ↦ inl memory
  | inr none ↦ inr (none.0, λ task asks. file-given f name task asks none.1)
]

pub no-cert : (f : Found) (name : List ℕ) (fault : WordsFault) → name ≡ codes "verify"
    → IsWordOf (first_value f (codes "CERT")) (Err fault)
    → IsAnswerToSubcommand (Some (name, rows_of f)) (Err fault)
no-cert f name fault is h = elim (word-fault _ fault h) [
  | inl memory ↦ inl memory
  | inr none ↦ inr (none.0, λ task asks. cert-given task asks none.1)
]
  where
    cert-given : (task : Task) → IsTaskOf name (rows_of f) task → first_value f (codes "CERT") ≡ None → ⊥
    cert-given (Verdict workers form file) asks none =
        let bad : length (codes "verify") ≡ length (codes "verdict") = ap length (sym is ∙ asks.0) in
        absurd (omega arith)
    cert-given (Cert file) asks none = let bad : length (codes "verify") ≡ length (codes "cert") =
        ap length (sym is ∙ asks.0) in absurd (omega arith)
    cert-given (Live workers file) asks none = let bad : codes "verify" ≡ codes "live" = sym is ∙ asks.0 in
        absurd (let wrong : length (codes "verify") ≡ length (codes "live") = ap length bad in omega arith)
    cert-given (Verify file cert) asks none = let bad : None ≡ Some cert =
        sym none ∙ first_value-rows f (codes "CERT") ∙ asks.2 in cc

-- the number of workers fails by a usage fault alone, and then no number is the right one
workers-fault : (o : Option (List ℕ)) (fault : WordsFault) → IsWorkersOf o (Err fault)
    → (fault ≡ Usage) × ((n : ℕ) → IsWorkersOf o (Ok n) → ⊥)
workers-fault None fault h = absurd h
workers-fault (Some word) fault h = (h.0, λ n is. h.1 n is.1 is.2 is.0)

pub no-workers : (f : Found) (name : List ℕ) (fault : WordsFault) → (name ≡ codes "verdict")
    ⊎ (name ≡ codes "live") → IsWorkersOf (first_value f (codes "workers")) (Err fault)
    → IsAnswerToSubcommand (Some (name, rows_of f)) (Err fault)
no-workers f name fault is h =
    let failed = workers-fault _ fault h in
    inr (failed.0, λ task asks. fits is task asks failed.1)
  where
    fits : (name ≡ codes "verdict") ⊎ (name ≡ codes "live") → (task : Task) → IsTaskOf name (rows_of f) task
        → ((n : ℕ) → IsWorkersOf (first_value f (codes "workers")) (Ok n) → ⊥) → ⊥
    fits is (Verdict workers form file) asks none =
        none workers
        (subst (λ o. IsWorkersOf o (Ok workers)) (sym (first_value-rows f (codes "workers"))) asks.1)
    fits is (Live workers file) asks none =
        none workers
        (subst (λ o. IsWorkersOf o (Ok workers)) (sym (first_value-rows f (codes "workers"))) asks.1)
    fits (inl is) (Cert file) asks none = let bad : length (codes "verdict") ≡ length (codes "cert") =
        ap length (sym is ∙ asks.0) in absurd (omega arith)
    fits (inl is) (Verify file cert) asks none =
        let bad : length (codes "verdict") ≡ length (codes "verify") = ap length (sym is ∙ asks.0) in
        absurd (omega arith)
    fits (inr is) (Cert file) asks none = let bad : codes "live" ≡ codes "cert" = sym is ∙ asks.0 in
        absurd (let wrong : get_or (codes "live") 0 0 ≡ get_or (codes "cert") 0 0 =
        ap (λ (t : List ℕ). get_or t 0 0) bad in omega arith)
    fits (inr is) (Verify file cert) asks none = let bad : length (codes "live") ≡ length (codes "verify") =
        ap length (sym is ∙ asks.0) in absurd (omega arith)

-- `?` gives the same fault on
pub fault-kept : (f : Found) (name : List ℕ) (answer : Result Task WordsFault) (fault : WordsFault)
    → IsErrAnd answer (λ e. e ≡ fault)
    → IsAnswerToSubcommand (Some (name, rows_of f)) (Err fault)
    → IsAnswerToSubcommand (Some (name, rows_of f)) answer
fault-kept f name (Ok task) fault same h = absurd same
fault-kept f name (Err e) fault same h =
    subst (λ x. IsAnswerToSubcommand (Some (name, rows_of f)) (Err x)) (sym same) h

pub verdict-asked : (f : Found) (workers : ℕ) (form : Form) (file : List ℕ)
    → IsWorkersOf (first_value f (codes "workers")) (Ok workers)
    → IsFormOf (one_text f (codes "json")) form → IsWordOf (first_value f (codes "FILE")) (Ok file)
    → IsTaskOf (codes "verdict") (rows_of f) (Verdict workers form file)
verdict-asked f workers form file number flag word = (
  refl,
  subst (λ o. IsWorkersOf o (Ok workers)) (first_value-rows f (codes "workers")) number,
  subst (λ o. IsFormOf o form) (one_text-rows f (codes "json")) flag,
  word-read f (codes "FILE") file word,
)

pub live-asked : (f : Found) (workers : ℕ) (file : List ℕ)
    → IsWorkersOf (first_value f (codes "workers")) (Ok workers)
    → IsWordOf (first_value f (codes "FILE")) (Ok file)
    → IsTaskOf (codes "live") (rows_of f) (Live workers file)
live-asked f workers file number word = (
  refl,
  subst (λ o. IsWorkersOf o (Ok workers)) (first_value-rows f (codes "workers")) number,
  word-read f (codes "FILE") file word,
)

workers-within : (o : Option (List ℕ)) (n : ℕ) → IsWorkersOf o (Ok n) → (1 ≤ n) × (n ≤ 64)
workers-within None n h = (omega arith, omega arith)
workers-within (Some word) n h = (h.1, h.2)

has-workers : (given : Option (List ℕ × List Row)) (task : Task) → AsksFor given task → HasWorkers task
has-workers None task h = absurd h
has-workers (Some given) (Verdict workers form file) h = workers-within _ workers h.1
has-workers (Some given) (Cert file) h = tt
has-workers (Some given) (Verify file cert) h = tt
has-workers (Some given) (Live workers file) h = workers-within _ workers h.1

-- a task that was asked for has 1 to 64 workers
pub answer-workers : (given : Option (List ℕ × List Row)) (answer : Result Task WordsFault)
    → IsAnswerToSubcommand given answer → IfOk answer HasWorkers
answer-workers given (Ok task) h = has-workers given task h
answer-workers given (Err fault) h = tt
