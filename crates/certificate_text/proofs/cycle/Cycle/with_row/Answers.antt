use Rattle.std.proofs.Common.{◌≡◌, List, [], ◌∷◌, ◌++◌, refl, sym, ◌∙◌, subst}
use Rattle.format_words.specs.Words.{words_of}
use Rattle.std.proofs.Common.{IfSome}
use Rattle.specification.specs.CertificateText as format
use Rattle.certificate_text.specs.declared.fault.CertCause.{CertCause}
use Rattle.certificate_text.specs.declared.fault.CertCause.TheVariants as cause
use Rattle.certificate_text.specs.CertificateOf.{version_in, cause_of}
use Rattle.certificate_text.specs.Progress.{IsWrongBehind, cycle_lines}
use Rattle.certificate_text.proofs.FirstFaults.{stop-fault, stop-takes}
use Rattle.certificate_text.proofs.TakingLines.{some-row-takes, row-takes}
use Rattle.specification.specs.LayerRule.{Row}
use Rattle.specification.specs.CertificateText.{certificate_lines, gives_cycle}
use Rattle.certificate_text.specs.Progress.{IsPartOfCycle}
use Rattle.certificate_text.specs.Reading.{row_at}
use Rattle.certificate_text.proofs.RowLines.{row-spells}
use Rattle.certificate_text.proofs.GoingOn.{no-row, row-more}
use Rattle.certificate_text.proofs.cycle.Cycle.with_row.Goals as goal

pub returns-in-Ok-push-clause-ok : goal.returns-in-Ok-push-clause-ok
returns-in-Ok-push-clause-ok c =
    let cycle = c.args.self in
    let line = c.args.line.now in
    let p = row-spells cycle.k line c.in-Ok.row c.in-Ok.ensures in
    subst (λ (rows : List Row). IsPartOfCycle cycle.k cycle.steps.items rows
    × (certificate_lines (version_in cycle.version) (gives_cycle cycle.k cycle.steps.items rows)
    ≡ certificate_lines (version_in cycle.version)
    (gives_cycle cycle.k cycle.steps.items cycle.rows.items) ++ line ∷ []))
    (sym c.in-Ok-push.ensures.items)
    (row-more (version_in cycle.version) cycle.k cycle.steps.items cycle.rows.items c.in-Ok.row line
    c.requires.right c.requires.steps c.requires.long p.0 p.1)

pub returns-in-Err-clause-fault : goal.returns-in-Err-clause-fault
returns-in-Err-clause-fault c =
    let cycle = c.args.self in
    let behind : format.CertCause → Type 0 = IsWrongBehind (cycle_lines cycle) c.args.line.now in
    subst (λ (e : CertCause). IfSome (cause_of e) behind) (sym c.cause_of_stop.ensures)
    (stop-fault (λ (row : Row). Unit {0}) cause.Shape c.in-Err.stop
    (row_at cycle.k (words_of c.args.line.now)) behind c.in-Err.ensures
    (λ none. (
      refl,
      no-row (version_in cycle.version) cycle.k cycle.steps.items cycle.rows.items c.args.line.now
          c.requires.right c.requires.steps none,
    )))

pub returns-in-Err-clause-memory : goal.returns-in-Err-clause-memory
returns-in-Err-clause-memory c =
    let cycle = c.args.self in
    λ is. some-row-takes (version_in cycle.version) cycle.k cycle.steps.items cycle.rows.items c.args.line.now
    c.requires.right c.requires.steps c.requires.long
    (stop-takes (λ (row : Row). Unit {0}) cause.Shape c.in-Err.stop
    (row_at cycle.k (words_of c.args.line.now)) (λ e. cc) c.in-Err.ensures
    (sym c.cause_of_stop.ensures ∙ is))

pub returns-in-Err-push-clause-memory : goal.returns-in-Err-push-clause-memory
returns-in-Err-push-clause-memory c =
    let cycle = c.args.self in
    λ _. row-takes (version_in cycle.version) cycle.k cycle.steps.items cycle.rows.items c.in-Ok.row
    c.args.line.now c.requires.right c.requires.steps c.requires.long c.in-Ok.ensures
