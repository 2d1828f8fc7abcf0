use Rattle.std.proofs.Common.{◌≡◌, Err, ap, subst, sym}
use Rattle.std.specs.Prelude.{IsErrOf}
use Rattle.engines.proofs.Failures.{fault-of}
use Rattle.engines.specs.declared.status.RunFault.{RunFault}
use Rattle.finder_cli.specs.Engines.{RunsAs}
use Rattle.finder_cli.proofs.engine.Engine.go.Goals as goal

-- an answer of one kind has the fault of an answer of another
same-fault : {A B : Type 0} (fault other : RunFault) → IsErrOf {T = A} {E = RunFault} (Err fault) other
    → IsErrOf {T = B} {E = RunFault} (Err fault) other
same-fault fault other is = let same : fault ≡ other = ap fault-of is in ap Err same

pub returns-in-Verdict : goal.returns-in-Verdict
returns-in-Verdict g c =
    let ran = c.run.ensures in
    subst (λ e. RunsAs e c.args.source.now c.run.new.source c.args.sink.now c.run.new.sink c.run.result)
    (sym c.in-Verdict.is) (
      record {
        report = ran.report;
        end = ran.end;
        workers = ran.workers;
        unread = ran.unread;
        read = ran.read;
        failed_read = ran.failed_read;
        closed_source = ran.closed_source;
        memory = ran.memory;
        place = ran.place;
        trace = ran.trace;
        write = ran.write;
        failed_write = ran.failed_write;
        closed_sink = ran.closed_sink;
        unwritten = ran.unwritten;
      },
      ran.faults,
    )

pub returns-in-Cert : goal.returns-in-Cert
returns-in-Cert g c =
    let ran = c.run_cert.ensures in
    subst (λ e. RunsAs e c.args.source.now c.run_cert.new.source c.args.sink.now c.run_cert.new.sink
    c.run_cert.result) (sym c.in-Cert.is) record {
      certificate = ran.certificate;
      end = ran.end;
      workers = ran.workers;
      faults = ran.faults;
      read = ran.read;
      failed_read = ran.failed_read;
      closed_source = ran.closed_source;
      memory = ran.memory;
      place = ran.place;
      trace = ran.trace;
      write = ran.write;
      failed_write = ran.failed_write;
      closed_sink = ran.closed_sink;
      unwritten = ran.unwritten;
    }

pub returns-in-Err : goal.returns-in-Err
returns-in-Err g c =
    let ran = c.in-Err.ensures in
    subst (λ e. RunsAs e c.args.source.now c.live.new.source c.args.sink.now c.live.new.sink
    (Err c.in-Err.fault)) (sym c.in-Live.is) (
      record {
        report = ran.report;
        end = ran.end;
        workers = (λ e. ran.workers.0 (same-fault _ _ e), λ none. same-fault _ _ (ran.workers.1 none));
        unread = ran.unread;
        read = ran.read;
        failed_read = ran.failed_read;
        closed_source = λ shut. let was = ran.closed_source shut in
            (was.0, λ some. same-fault _ _ (was.1 some));
        memory = ran.memory;
        place = ran.place;
        trace = ran.trace;
        write = ran.write;
        failed_write = ran.failed_write;
        closed_sink = ran.closed_sink;
        unwritten = ran.unwritten;
      },
      ran.stalled,
    )
