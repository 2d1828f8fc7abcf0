use Rattle.std.proofs.Common.{◌≡◌, ℕ, ◌<◌, ◌≤◌, List, [], ◌∷◌, ◌++◌, get_or, take, length, sym, subst, arith}
use Rattle.std.proofs.lemmas.List.{take_more, take_all}
use Rattle.events.specs.Names.{NameBytes}
use Rattle.specification.specs.Versions.{two}
use Rattle.specification.specs.LayerRule.{Row}
use Rattle.specification.specs.ExactRows.{AreExactRows}
use Rattle.certificate.proofs.ExactRows.{exact_rows_push}
use Rattle.certificate.proofs.rows.rows_of_layers.Goals as goal

pub loop-source-preserved : goal.loop-source-preserved
loop-source-preserved c =
    let v = c.args.graph.now in
    let k : ℕ = c.args.k in
    let source : ℕ = c.loop-source.source in
    let elements : List NameBytes = v.elements in
    let a : NameBytes = get_or elements source [] in
    let rows : List Row = c.loop-source.rows.items in
    let within : source < length elements = omega arith in
    let pushed : c.push.new.self.items ≡ rows ++ c.in_ok-row.row ∷ [] = c.in_ok-push.ensures.items in
    record {
      way = c.in_ok-choose_way.ensures;
      rows = subst (λ l. AreExactRows two v k l c.push.new.self.items)
          (sym (take_more elements source [] within))
          (subst (λ l. AreExactRows two v k (take source elements ++ a ∷ []) l) (sym pushed)
          (exact_rows_push two v k (take source elements) rows a c.in_ok-row.row c.loop-source.invariant.rows
          c.in_ok-row.ensures));
    }

pub returns : goal.returns
returns c =
    let v = c.args.graph.now in
    let all : length v.elements ≤ c.loop-source.source = omega arith in
    subst (λ l. AreExactRows two v c.args.k l c.loop-source.rows.items)
    (take_all c.loop-source.source v.elements all) c.loop-source.invariant.rows
