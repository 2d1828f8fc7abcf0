use Rattle.std.proofs.Common.{◌≡◌, ℕ, ◌+◌, ◌*◌, ◌≤◌, take, drop, length, refl, subst, ◌∙◌, arith}
use Rattle.std.proofs.lemmas.List.{take_all}
use Rattle.specification.specs.Responses.{Responses}
use Rattle.certificate.specs.ByRows.{AppendsRows, joined}
use Rattle.certificate.proofs.RowLines.{no_rows, rows_next}
use Rattle.certificate.proofs.pieces.RowMaker.push_in_pieces.Goals as goal

pub loop-batch-init : goal.loop-batch-init
loop-batch-init g c = record {
  graph = refl;
  k = refl;
  way = c.requires.way;
  rows = no_rows c.args.self.now.graph.now c.args.self.now.k (joined c.args.texts.now.items);
}

pub loop-batch-preserved : goal.loop-batch-preserved
loop-batch-preserved g c =
    let v : Responses = c.args.self.now.graph.now in
    let k : ℕ = c.args.self.now.k in
    let inv = c.loop-batch.invariant in
    let graph : c.choose.new.self.graph.now ≡ v = c.choose.ensures.graph ∙ inv.graph in
    let same : c.choose.new.self.k ≡ k = c.choose.ensures.k ∙ inv.k in
    let next : c.loop-batch.batch * 5120 + 5120 ≡ (c.loop-batch.batch + 1) * 5120 = omega arith in
    let more : AppendsRows v k (take 5120 (drop (c.loop-batch.batch * 5120) v.elements))
    (joined c.loop-batch.texts.items) (joined c.push_side_by_side.new.texts.items) =
    subst (λ (w : Responses). AppendsRows w k (take 5120 (drop (c.loop-batch.batch * 5120) w.elements))
    (joined c.loop-batch.texts.items) (joined c.push_side_by_side.new.texts.items)) graph
    (subst (λ (m : ℕ). AppendsRows c.choose.new.self.graph.now m
    (take 5120 (drop (c.loop-batch.batch * 5120) c.choose.new.self.graph.now.elements))
    (joined c.loop-batch.texts.items) (joined c.push_side_by_side.new.texts.items)) same
    c.in_ok-push_side_by_side.ensures) in
    record {
      graph = graph;
      k = same;
      way = c.in_ok-choose.ensures.way;
      rows =
          subst (λ n. AppendsRows v k (take n v.elements) (joined c.args.texts.now.items)
          (joined c.push_side_by_side.new.texts.items)) next
          (rows_next v k v.elements (c.loop-batch.batch * 5120) 5120 (joined c.args.texts.now.items)
          (joined c.loop-batch.texts.items) (joined c.push_side_by_side.new.texts.items) inv.rows more);
    }

pub returns : goal.returns
returns g c =
    let v : Responses = c.args.self.now.graph.now in
    let all : length v.elements ≤ c.loop-batch.batch * 5120 = omega arith in
    subst (λ l. AppendsRows v c.args.self.now.k l (joined c.args.texts.now.items)
    (joined c.loop-batch.texts.items)) (take_all (c.loop-batch.batch * 5120) v.elements all)
    c.loop-batch.invariant.rows
