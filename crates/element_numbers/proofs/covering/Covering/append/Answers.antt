-- One row more; at the end all.
use Rattle.std.proofs.Common.{◌<◌, ◌≤◌, ℕ, ◌∷◌, ◌++◌, [], List, length, take, sym, ap, ◌∙◌, arith}
use Rattle.std.proofs.Common.{append_assoc}
use Rattle.std.proofs.lemmas.List.{take_all, take_more}
use Rattle.element_numbers.specs.Cuts.{rows_of}
use Rattle.element_numbers.proofs.Cuts.{length-rows}
use Rattle.element_numbers.proofs.covering.Covering.append.Goals as goal

pub loop-k-preserved : goal.loop-k-preserved
loop-k-preserved c =
    let k : ℕ = c.loop-k.k in
    let more : List (List ℕ) = rows_of c.args.more.now.rows in
    let old : List (List ℕ) = rows_of c.args.self.now.rows in
    let within : k < length more =
    omega (arith, c.loop-k-test.true, c.len-k-end.ensures, length-rows c.args.more.now.rows) in
    record {
      operations = c.loop-k.invariant.operations;
      cut = c.in_ok-push_row.ensures.cut;
      rows = c.in_ok-push_row.ensures.rows ∙ ap (λ l. l ++ c.row.result.now ∷ []) c.loop-k.invariant.rows
          ∙ append_assoc old (take k more) (c.row.result.now ∷ [])
          ∙ ap (λ l. old ++ l) (ap (λ r. take k more ++ r ∷ []) c.row.ensures
          ∙ sym (take_more more k [] within));
    }

pub returns-clause-rows : goal.returns-clause-rows
returns-clause-rows c =
    let more : List (List ℕ) = rows_of c.args.more.now.rows in
    let all : length more ≤ c.loop-k.k =
    omega (arith, c.loop-k-test.false, c.len-k-end.ensures, length-rows c.args.more.now.rows) in
    c.loop-k.invariant.rows ∙ ap (λ l. rows_of c.args.self.now.rows ++ l) (take_all c.loop-k.k more all)
