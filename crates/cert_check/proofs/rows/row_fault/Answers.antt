-- The row at the element's place, if it has the element as its source, decides.
use Rattle.std.proofs.Common.{◌≡◌, ◌∙◌, Some, sym, subst, refl}
use Rattle.std.proofs.lemmas.Bool.{false≢true}
use Rattle.events.specs.Names.{NameBytes}
use Rattle.specification.specs.LayerRule.{Row, MeetsRuleOf}
use Rattle.specification.specs.Responses.{responses_of}
use Rattle.specification.specs.Elements.{elements}
use Rattle.specification.specs.ValidCertificate.{HasSource}
use Rattle.certificate_text.specs.CertificateOf.{version_in}
use Rattle.cert_check.proofs.RowsJudged.{element_at}
use Rattle.cert_check.proofs.rows.row_fault.Goals as goal

pub returns-then-not-has_source-clause-fault : goal.returns-then-not-has_source-clause-fault
returns-then-not-has_source-clause-fault c = λ rows row there is spelled h of.
    let a : NameBytes = c.index.result.now in
    let says = c.words_of_row-words.ensures c.args.k row is spelled in (
      element_at _ (elements h) _ a c.requires.element c.index.ensures of.names,
      λ r at has.
          let e : Some r ≡ Some row = sym at ∙ there in
          let same : r ≡ row = Prim.cc in
          false≢true ((c.if-not-has_source.ensures c.args.k row says).1
          (subst (λ (z : Row). HasSource z a) same has)),
    )

pub returns-then-branch-clause-fault : goal.returns-then-branch-clause-fault
returns-then-branch-clause-fault c = λ rows row there is spelled h of source at.
    let a : NameBytes = c.index.result.now in
    let says = c.words_of_row-words.ensures c.args.k row is spelled in
    let here = element_at _ (elements h) _ a c.requires.element c.index.ensures of.names in
    let e : Some a ≡ Some source = sym here ∙ at in
    let same : a ≡ source = Prim.cc in
    let rule : MeetsRuleOf (version_in c.args.version) (responses_of h) c.args.k a row =
    (c.in_ok-meets_rule.ensures.meets row says h a of here).0 c.if-branch.true in (
      row,
      there,
      subst (HasSource row) same ((c.if-not-has_source.ensures c.args.k row says).0 refl),
      subst (λ (s : NameBytes). MeetsRuleOf (version_in c.args.version) (responses_of h) c.args.k s row)
          same rule,
    )

pub returns-else-branch-clause-fault : goal.returns-else-branch-clause-fault
returns-else-branch-clause-fault c = λ rows row there is spelled h of.
    let a : NameBytes = c.index.result.now in
    let says = c.words_of_row-words.ensures c.args.k row is spelled in
    let here = element_at _ (elements h) _ a c.requires.element c.index.ensures of.names in (
      here,
      row,
      there,
      (c.if-not-has_source.ensures c.args.k row says).0 refl,
      (λ rule. false≢true (sym c.if-branch.false
          ∙ (c.in_ok-meets_rule.ensures.meets row says h a of here).1 rule)),
    )
