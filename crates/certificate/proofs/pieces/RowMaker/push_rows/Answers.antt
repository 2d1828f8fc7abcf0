use Rattle.std.proofs.Common.{◌≡◌, ℕ, ◌+◌, ◌*◌, ◌≤◌, take, drop, length, refl, subst, ◌∙◌, arith}
use Rattle.std.proofs.lemmas.List.{take_all}
use Rattle.specification.specs.Responses.{Responses}
use Rattle.certificate.specs.ByRows.{AppendsRows}
use Rattle.certificate.proofs.RowLines.{no_rows, rows_next}
use Rattle.certificate.proofs.pieces.RowMaker.push_rows.Goals as goal

pub loop-batch-init : goal.loop-batch-init
loop-batch-init c = record {
  graph = refl;
  k = refl;
  way = c.requires.way;
  rows = no_rows c.args.self.now.graph.now c.args.self.now.k c.args.text.now.items;
}

pub loop-batch-preserved : goal.loop-batch-preserved
loop-batch-preserved c =
    let v : Responses = c.args.self.now.graph.now in
    let k : ℕ = c.args.self.now.k in
    let inv = c.loop-batch.invariant in
    let graph : c.choose.new.self.graph.now ≡ v = c.choose.ensures.graph ∙ inv.graph in
    let same : c.choose.new.self.k ≡ k = c.choose.ensures.k ∙ inv.k in
    let next : c.loop-batch.batch * 5120 + 5120 ≡ (c.loop-batch.batch + 1) * 5120 = omega arith in
    let more : AppendsRows v k (take 5120 (drop (c.loop-batch.batch * 5120) v.elements))
    c.loop-batch.text.items c.push_rows_from.new.text.items =
    subst (λ (w : Responses). AppendsRows w k (take 5120 (drop (c.loop-batch.batch * 5120) w.elements))
    c.loop-batch.text.items c.push_rows_from.new.text.items) graph
    (subst (λ (m : ℕ). AppendsRows c.choose.new.self.graph.now m
    (take 5120 (drop (c.loop-batch.batch * 5120) c.choose.new.self.graph.now.elements))
    c.loop-batch.text.items c.push_rows_from.new.text.items) same
    c.in_ok-push_rows_from.ensures) in
    record {
      graph = graph;
      k = same;
      way = c.in_ok-choose.ensures.way;
      rows =
          subst (λ n. AppendsRows v k (take n v.elements) c.args.text.now.items
          c.push_rows_from.new.text.items) next
          (rows_next v k v.elements (c.loop-batch.batch * 5120) 5120 c.args.text.now.items
          c.loop-batch.text.items c.push_rows_from.new.text.items inv.rows more);
    }

pub returns : goal.returns
returns c =
    let v : Responses = c.args.self.now.graph.now in
    let all : length v.elements ≤ c.loop-batch.batch * 5120 = omega arith in
    subst (λ l. AppendsRows v c.args.self.now.k l c.args.text.now.items
    c.loop-batch.text.items) (take_all (c.loop-batch.batch * 5120) v.elements all)
    c.loop-batch.invariant.rows
