-- Each row is judged at its place; then there is no other, or one too many.
use Rattle.std.proofs.Common.{◌≡◌, ◌∙◌, ◌<◌, ◌≤◌, ℕ, [], inl, inr, Some, List, drop, length, sym, ap}
use Rattle.std.proofs.Common.{subst, arith}
use Rattle.std.specs.Prelude.{slice_get}
use Rattle.std.proofs.lemmas.Bool.{cases_lt}
use Rattle.std.proofs.lemmas.Option.{slice_get_within}
use Rattle.events.specs.Names.{NameBytes}
use Rattle.specification.specs.CertificateText.{IsRow}
use Rattle.specification.specs.ValidCertificate.{RowIsRight}
use Rattle.specification.specs.Elements.{elements}
use Rattle.specification.specs.Responses.{responses_of}
use Rattle.certificate_text.specs.CertificateOf.{version_in}
use Rattle.cert_check.proofs.RowsJudged.{element_at, rows_meet, first_fault}
use Rattle.cert_check.proofs.TextLines.{no-rows, row-at, drop-none, first-of-drop, drop-all}
use Rattle.cert_check.proofs.rows.first_row_fault.Goals as goal

pub returns-in_default : goal.returns-in_default
returns-in_default c = λ layers each text h of.
    let so = c.loop-i.invariant.judged layers each text in
    let none : drop c.loop-i.i layers ≡ [] =
    no-rows (drop c.loop-i.i layers) c.loop-i.rest.now so.0 c.in_default.ensures in
    let short : length layers ≤ c.loop-i.i = drop-none layers c.loop-i.i none in
    let here : c.loop-i.i < length c.args.numbered.now.names.items =
    omega (arith, c.len-count.ensures, c.loop-i-test.true) in (
      c.loop-i.i,
      element_at c.args.numbered.now.names.items (elements h) c.loop-i.i c.index-source.result.now here
          c.index-source.ensures of.names,
      so.1 h of,
      λ row at has. omega (arith, short, slice_get_within layers c.loop-i.i row at),
    )

pub returns-in-Some-2 : goal.returns-in-Some-2
returns-in-Some-2 c = λ layers each text h of.
    let so = c.loop-i.invariant.judged layers each text in
    let row = row-at c.args.k layers c.loop-i.i each so.0 c.in-Some.ensures.0 c.in-Some.ensures.1 in
    let fault = rw c.in-Some-2.is at c.in_ok-fault.ensures.fault in
    first_fault (version_in c.args.version) (responses_of h) c.args.k layers c.loop-i.i c.in-Some-2.fault
    (fault layers row.0 row.1 row.2 row.3 h of) (so.1 h of)

pub loop-i-preserved : goal.loop-i-preserved
loop-i-preserved c = record {
  fresh = rw c.in_default-2.is at c.in_ok-fault.ensures.fresh;
  ways = c.in_ok-fault.ensures.ways;
  judged = λ layers each text.
      let so = c.loop-i.invariant.judged layers each text in
      let row =
      row-at c.args.k layers c.loop-i.i {line = c.in-Some.line.now} {behind = c.in-Some.behind.now} each so.0
      c.in-Some.ensures.0 c.in-Some.ensures.1 in
      let right = rw c.in_default-2.is at c.in_ok-fault.ensures.fault in (
        row.4,
        λ h of j source lt there. elim (cases_lt j c.loop-i.i) [
          | inl low ↦ so.1 h of j source low there
          | inr high ↦
              let same : j ≡ c.loop-i.i = omega (arith, high, lt) in
              subst (λ (m : ℕ). RowIsRight (version_in c.args.version)
              (responses_of h) c.args.k layers m source) (sym same)
              (right layers row.0 row.1 row.2 row.3 h of source
              (subst (λ (m : ℕ). slice_get (elements h) m ≡ Some source) same there))
        ],
      );
}

pub returns-in-None : goal.returns-in-None
returns-in-None c = λ layers each text h of.
    let so = c.loop-i.invariant.judged layers each text in
    let none : drop c.loop-i.i layers ≡ [] =
    c.in-None.ensures c.args.k (drop c.loop-i.i layers) (drop-all (IsRow c.args.k) layers c.loop-i.i each)
    so.0 in
    let short : length layers ≤ c.loop-i.i = drop-none layers c.loop-i.i none in
    let count : length (elements h) ≡ c.len-count.result =
    omega (arith, c.len-count.ensures, ap (λ (l : List NameBytes). length l) of.names) in
    rows_meet (version_in c.args.version) (responses_of h) c.args.k (elements h) layers
    (λ j source at. so.1 h of j source
    (omega (arith, slice_get_within (elements h) j source at, count, c.loop-i-test.false)) at)
    (omega (arith, short, count, c.loop-i.auto.i-end))

pub returns-in-Some-first_source : goal.returns-in-Some-first_source
returns-in-Some-first_source c = λ layers each text h of.
    let so = c.loop-i.invariant.judged layers each text in
    let source =
    c.in-Some-first_source.ensures c.args.k (drop c.loop-i.i layers)
    (drop-all (IsRow c.args.k) layers c.loop-i.i each) so.0 in
    let count : length (elements h) ≡ c.len-count.result =
    omega (arith, c.len-count.ensures, ap (λ (l : List NameBytes). length l) of.names) in
    let end : c.loop-i.i ≡ length (elements h) =
    omega (arith, count, c.loop-i.auto.i-end, c.loop-i-test.false) in (
      (λ j a lt there. so.1 h of j a (omega (arith, lt, end)) there),
      source.0,
      ap (slice_get layers) (sym end)
          ∙ sym (first-of-drop layers c.loop-i.i) ∙ source.1,
      source.2,
    )
