use Rattle.std.proofs.Common.{◌≡◌, ℕ, inl, inr, List, replicate, ap, ◌∙◌}
use Rattle.std.proofs.Common.{arith}
use Rattle.std.proofs.lemmas.Bool.{cases_lt}
use Rattle.std.proofs.lemmas.List.{get_or_past, get_or-replicate, length-replicate}
use Rattle.element_numbers.proofs.Cuts.{length-rows}
use Rattle.list_rule.specs.Marks.{mark_at}
use Rattle.list_rule.specs.declared.marks.Mark.{Mark}
use Rattle.list_rule.proofs.Standing.{row_short}
use Rattle.list_rule.proofs.list_rule.ListRule.new.Goals as goal

pub all_spots-requires-clause-few : goal.all_spots-requires-clause-few
all_spots-requires-clause-few c = let t = c.args.places.now in omega (arith, length-rows t)

pub all_spots-requires-clause-short : goal.all_spots-requires-clause-short
all_spots-requires-clause-short c = λ l.
    let t = c.args.places.now in
    (let low = row_short 0 t.ends.items t.items.items l in omega (arith, low))

-- no mark is of a row
no_row : (n l : ℕ)
    → (mark_at (replicate n (record { row = 0; end = 0; behind_source = 0 })) l).row ≡ 0
no_row n l =
    let none : Mark = record { row = 0; end = 0; behind_source = 0 } in
    elim (cases_lt l n) [
      | inl low ↦ ap (λ (m : Mark). m.row) (get_or-replicate n l none none low)
      | inr past ↦
          ap (λ (m : Mark). m.row)
          (get_or_past (replicate n none) l none
          (let e = length-replicate {A = Mark} n none in omega (arith, e, past)))
    ]

pub returns : goal.returns
returns c =
    let t = c.args.places.now in
    let none : Mark = record { row = 0; end = 0; behind_source = 0 } in
    let made : c.in_ok-marks.marks.items ≡ replicate c.len-lists.result none =
    c.in_ok-marks.ensures.items_if_clones_equal (λ y same. same) in
    record {
      spots = c.in_ok-spots.ensures;
      marks = record {
        count =
            (let len = c.in_ok-marks.ensures.len in
            omega (arith, len, c.in_ok-marks.marks.ok, length-rows t));
        rows = λ l.
            (let e = ap (λ (ms : List Mark). (mark_at ms l).row) made ∙ no_row c.len-lists.result l in
            omega (arith, e));
      };
      short = λ l. (let low = row_short 0 t.ends.items t.items.items l in omega (arith, low));
    }
