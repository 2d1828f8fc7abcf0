use Rattle.std.proofs.Common.{codes, inl, inr}
use Rattle.clap.specs.Words.{found_of}
use Rattle.command_line.proofs.Asked.{fault-kept, no-cert, no-file, live-asked, no-workers, verdict-asked}
use Rattle.command_line.proofs.Asked.{word-read}
use Rattle.command_line.proofs.words.task_given.Goals as goal

pub returns-in_err-workers_of-in-verdict : goal.returns-in_err-workers_of-in-verdict
returns-in_err-workers_of-in-verdict c =
    fault-kept (found_of c.args.given.now) c.args.name.now _ _ c.from_residual.ensures.1
    (no-workers (found_of c.args.given.now) c.args.name.now _
    (inl c.in-verdict.is) c.in_err-workers_of-in-verdict.ensures)

pub returns-in_err-word_of-in-verdict : goal.returns-in_err-word_of-in-verdict
returns-in_err-word_of-in-verdict c =
    fault-kept (found_of c.args.given.now) c.args.name.now _ _
    c.from_residual-in_err-word_of-in-verdict.ensures.1
    (no-file (found_of c.args.given.now) c.args.name.now _ c.in_err-word_of-in-verdict.ensures)

pub returns-in_err-word_of-in-cert : goal.returns-in_err-word_of-in-cert
returns-in_err-word_of-in-cert c =
    fault-kept (found_of c.args.given.now) c.args.name.now _ _
    c.from_residual-in_err-word_of-in-cert.ensures.1
    (no-file (found_of c.args.given.now) c.args.name.now _ c.in_err-word_of-in-cert.ensures)

pub returns-in_err-word_of-in-verify : goal.returns-in_err-word_of-in-verify
returns-in_err-word_of-in-verify c =
    fault-kept (found_of c.args.given.now) c.args.name.now _ _
    c.from_residual-in_err-word_of-in-verify.ensures.1
    (no-file (found_of c.args.given.now) c.args.name.now _ c.in_err-word_of-in-verify.ensures)

pub returns-in_err-word_of-in-verify-2 : goal.returns-in_err-word_of-in-verify-2
returns-in_err-word_of-in-verify-2 c =
    fault-kept (found_of c.args.given.now) c.args.name.now _ _
    c.from_residual-in_err-word_of-in-verify-2.ensures.1
    (no-cert (found_of c.args.given.now) c.args.name.now _ c.in-verify.is
    c.in_err-word_of-in-verify-2.ensures)

pub returns-in_ok-word_of-in-verdict : goal.returns-in_ok-word_of-in-verdict
returns-in_ok-word_of-in-verdict c =
    let asked =
    verdict-asked (found_of c.args.given.now) c.in_ok-workers_of-in-verdict.field-0 c.form_of.result
    c.in_ok-word_of-in-verdict.field-0
    c.in_ok-workers_of-in-verdict.ensures c.form_of.ensures c.in_ok-word_of-in-verdict.ensures in
    (c.in-verdict.is, asked.1, asked.2, asked.3)

pub returns-in_ok-word_of-in-cert : goal.returns-in_ok-word_of-in-cert
returns-in_ok-word_of-in-cert c = (
  c.in-cert.is,
  word-read (found_of c.args.given.now) (codes "FILE") c.in_ok-word_of-in-cert.field-0
      c.in_ok-word_of-in-cert.ensures,
)

pub returns-in_ok-word_of-in-verify-2 : goal.returns-in_ok-word_of-in-verify-2
returns-in_ok-word_of-in-verify-2 c = (
  c.in-verify.is,
  word-read (found_of c.args.given.now) (codes "FILE") c.in_ok-word_of-in-verify.field-0
      c.in_ok-word_of-in-verify.ensures,
  word-read (found_of c.args.given.now) (codes "CERT") c.in_ok-word_of-in-verify-2.field-0
      c.in_ok-word_of-in-verify-2.ensures,
)

pub returns-in_err-workers_of-in-live : goal.returns-in_err-workers_of-in-live
returns-in_err-workers_of-in-live c =
    fault-kept (found_of c.args.given.now) c.args.name.now _ _
    c.from_residual-in_err-workers_of-in-live.ensures.1
    (no-workers (found_of c.args.given.now) c.args.name.now _
    (inr c.in-live.is) c.in_err-workers_of-in-live.ensures)

pub returns-in_err-word_of-in-live : goal.returns-in_err-word_of-in-live
returns-in_err-word_of-in-live c =
    fault-kept (found_of c.args.given.now) c.args.name.now _ _
    c.from_residual-in_err-word_of-in-live.ensures.1
    (no-file (found_of c.args.given.now) c.args.name.now _ c.in_err-word_of-in-live.ensures)

pub returns-in_ok-word_of-in-live : goal.returns-in_ok-word_of-in-live
returns-in_ok-word_of-in-live c =
    let asked =
    live-asked (found_of c.args.given.now) c.in_ok-workers_of-in-live.field-0
    c.in_ok-word_of-in-live.field-0 c.in_ok-workers_of-in-live.ensures c.in_ok-word_of-in-live.ensures in
    (c.in-live.is, asked.1, asked.2)
