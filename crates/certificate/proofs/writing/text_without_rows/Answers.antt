use Rattle.std.proofs.Common.{◌≡◌, List, [], sym, ap, ◌∙◌, subst}
use Rattle.specification.specs.CertificateText.{IsSpellable, certificate_text}
use Rattle.specification.specs.LayerRule.{Row}
use Rattle.specification.specs.Verdict.{Verdict}
use Rattle.specification.specs.Versions.{two}
use Rattle.certificate_text.specs.CertificateOf.{certificate_of}
use Rattle.certificate.specs.ByRows.{certificate_with}
use Rattle.verdict.specs.VerdictOf.{verdict_of}
use Rattle.certificate.proofs.ByRows.{spellable_without_rows}
use Rattle.certificate.proofs.writing.text_without_rows.Goals as goal

pub write-requires : goal.write-requires
write-requires c =
    let h = c.args.recording.now in
    let v : Verdict = verdict_of c.args.verdict.now in
    let without : certificate_of c.in_ok-head.head ≡ certificate_with [] v =
    c.in_ok-head.ensures ∙ ap (λ (rows : List Row). certificate_with rows v) c.new.ensures.items in
    record {
      spellable =
          subst IsSpellable (sym without) (spellable_without_rows h v c.replicas.ensures.legal c.requires);
    }

pub returns : goal.returns
returns c =
    let v : Verdict = verdict_of c.args.verdict.now in
    let without : certificate_of c.in_ok-head.head ≡ certificate_with [] v =
    c.in_ok-head.ensures ∙ ap (λ (rows : List Row). certificate_with rows v) c.new.ensures.items in
    c.in_ok-text.ensures ∙ ap (certificate_text two) without
