use Rattle.std.proofs.Common.{◌≡◌, ◌≤◌, length, arith}
use Rattle.std.proofs.lemmas.Grind.{common_steps}
use Rattle.specification.specs.Lines.{text_of}
use Rattle.specification.specs.CertificateText.{BeginsCertificate}
use Rattle.format_words.proofs.Places.{is-there, takes-at}
use Rattle.certificate_text.specs.CertificateOf.{cause_of}
use Rattle.certificate_text.specs.Place.{TakesMemory}
use Rattle.certificate_text.specs.Progress.{good}
use Rattle.certificate_text.proofs.Begins.{right-begins}
use Rattle.certificate_text.proofs.FirstFaults.{wrong-fault, lacking-fault, cut-fault, nothing-left}
use Rattle.certificate_text.proofs.FirstFaults.{behind-right}
use Rattle.certificate_text.proofs.reading.read_lines.Goals as goal

pub returns-in_default : goal.returns-in_default
returns-in_default c =
    let begins = right-begins c.loop-rest.progress c.loop-rest.invariant.right in
    let some : 1 ≤ length c.loop-rest.rest.now = grind (arith, common_steps) in record {
      ok = tt;
      fault = cut-fault c.args.bytes.now c.loop-rest.line (good c.loop-rest.progress) c.loop-rest.rest.now
          some c.in_default.ensures c.loop-rest.invariant.text c.loop-rest.invariant.number begins;
      place = behind-right c.args.bytes.now c.loop-rest.line (good c.loop-rest.progress)
          c.loop-rest.rest.now c.loop-rest.invariant.text c.loop-rest.invariant.number begins;
      memory = λ is. absurd (cc);
    }

pub returns-in-Err : goal.returns-in-Err
returns-in-Err c =
    let begins = right-begins c.loop-rest.progress c.loop-rest.invariant.right in
    let cut = c.in-Some.ensures in
    let at = is-there BeginsCertificate c.args.bytes.now c.loop-rest.line (good c.loop-rest.progress)
    c.in-Some.next.now c.loop-rest.rest.now c.in-Some.behind.now c.loop-rest.invariant.text cut.1 cut.0
    c.loop-rest.invariant.number begins in record {
      ok = tt;
      fault = wrong-fault c.args.bytes.now c.loop-rest.line (good c.loop-rest.progress) c.in-Some.next.now
          (cause_of c.in-Err.cause) at c.in-Err.ensures.fault;
      place = behind-right c.args.bytes.now c.loop-rest.line (good c.loop-rest.progress)
          c.loop-rest.rest.now c.loop-rest.invariant.text c.loop-rest.invariant.number begins;
      memory = λ is. takes-at BeginsCertificate TakesMemory c.args.bytes.now c.loop-rest.line
          (good c.loop-rest.progress) c.in-Some.next.now at (c.in-Err.ensures.memory is);
    }

pub returns-in-Err-end : goal.returns-in-Err-end
returns-in-Err-end c =
    let begins = right-begins c.loop-rest.progress c.loop-rest.invariant.right in
    let none : length c.loop-rest.rest.now ≡ 0 = grind (arith, common_steps) in record {
      ok = tt;
      fault = lacking-fault c.args.bytes.now c.loop-rest.line (good c.loop-rest.progress)
          (cause_of c.in-Err-end.cause)
          (nothing-left c.args.bytes.now (text_of (good c.loop-rest.progress)) c.loop-rest.rest.now
          c.loop-rest.invariant.text none)
          c.loop-rest.invariant.number begins c.in-Err-end.ensures.fault;
      place = behind-right c.args.bytes.now c.loop-rest.line (good c.loop-rest.progress)
          c.loop-rest.rest.now c.loop-rest.invariant.text c.loop-rest.invariant.number begins;
      memory = λ is. absurd (c.in-Err-end.ensures.memory is);
    }
