use Rattle.std.proofs.Common.{[], ap, subst, IfSome, inl, inr}
use Rattle.std.proofs.lemmas.List.{append-nil}
use Rattle.std.proofs.lemmas.Result.{err_from_is_err_and, IfErr-weaker, IfOk-weaker}
use Rattle.specification.specs.TraceText.{IsFirstLineFault}
use Rattle.trace_text.specs.Causes.{cause_of}
use Rattle.trace_text.proofs.FedText.{not-cut-at-nothing, unfed}
use Rattle.trace_text.proofs.ReadBack.{only-memory}
use Rattle.trace_text.proofs.whole.read.Goals as goal

pub returns-in_err-feed : goal.returns-in_err-feed
returns-in_err-feed c =
    let p = err_from_is_err_and c.from_residual.result c.from_residual.ensures.1 in
    let fault = c.in_err-feed.field-0.0 in
    let none = unfed c.new-reader.result c.new-reader.ensures in
    let first = subst (λ t. IfSome (cause_of fault.cause) (IsFirstLineFault t fault.line))
    (append-nil c.args.bytes.now) (c.in_err-feed.ensures.fault [] [] none) in
    rw (p.1, p.2) (record {
      ok = tt;
      fault = first;
      place = c.in_err-feed.ensures.place [] none;
      memory =
          λ is. elim (c.in_err-feed.ensures.memory (ap (λ r. r.fault) c.new-reader.ensures) is [] none) [
            | inl takes ↦ takes
            | inr cut ↦ absurd (not-cut-at-nothing fault.line cut)
          ];
      spelled = λ h spelled. only-memory c.args.bytes.now h spelled fault.line fault.cause first;
    })

pub returns : goal.returns
returns c =
    let fed = c.feed.ensures.fed [] (unfed c.new-reader.result c.new-reader.ensures) in record {
      ok = IfOk-weaker c.end.result _ _ (λ h spells. spells c.args.bytes.now fed) c.end.ensures.ok;
      fault = IfErr-weaker c.end.result _ _ (λ fault first. first c.args.bytes.now fed) c.end.ensures.fault;
      place = IfErr-weaker c.end.result _ _ (λ fault behind. behind c.args.bytes.now fed) c.end.ensures.place;
      memory = IfErr-weaker c.end.result _ _ (λ fault never is. absurd (never is))
          (c.end.ensures.memory c.in_ok-feed.ensures.ok.1);
      spelled = λ h. c.end.ensures.spelled c.args.bytes.now h fed;
    }
