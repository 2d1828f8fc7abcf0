-- Where a row lies, and that past the last there is none.
use Rattle.std.proofs.Common.{◌≡◌, ℕ, ◌-◌, ◌<◌, ◌≤◌, [], length, get_or, take, drop, sym, ◌∙◌, ap, arith}
use Rattle.std.proofs.lemmas.Grind.{common_steps}
use Rattle.std.proofs.lemmas.List.{get_or_past}
use Rattle.std.proofs.lemmas.Option.{gets}
use Rattle.element_numbers.specs.Cuts.{cut, begin_of}
use Rattle.element_numbers.proofs.Cuts.{Lies, row-lies, length-rows}
use Rattle.element_numbers.proofs.rows.Rows.bounds.Goals as goal

pub returns-in-None : goal.returns-in-None
returns-in-None g c =
    let t = c.args.self.now in
    let past : length t.ends.items ≤ c.args.number = grind (arith, common_steps, gets) in
    record {
      rising = omega arith;
      within = omega arith;
      row = get_or_past (cut 0 t.ends.items t.items.items) c.args.number []
          (omega (arith, length-rows t));
    }

pub returns-in-Some : goal.returns-in-Some
returns-in-Some g c =
    let t = c.args.self.now in
    let n : ℕ = c.args.number in
    let lt : n < length t.ends.items = grind (arith, common_steps, gets) in
    let end : c.in-Some.end.now ≡ get_or t.ends.items n 0 = grind (arith, common_steps, gets) in
    let lies : Lies 0 t.ends.items t.items.items n = row-lies 0 t.ends.items t.items.items n c.requires lt in
    let begin : c.begin.result ≡ begin_of 0 t.ends.items n = c.begin.ensures in
    let none : begin_of 0 t.ends.items n - 0 ≡ begin_of 0 t.ends.items n = omega arith in
    record {
      rising = omega (arith, lies.rising);
      within = omega (arith, lies.within);
      row = lies.row_is
          ∙ ap (λ k. take (get_or t.ends.items n 0 - begin_of 0 t.ends.items n) (drop k t.items.items)) none
          ∙ ap (λ e. take (e - begin_of 0 t.ends.items n) (drop (begin_of 0 t.ends.items n) t.items.items))
          (sym end)
          ∙ ap (λ b. take (c.in-Some.end.now - b) (drop b t.items.items)) (sym begin);
    }
