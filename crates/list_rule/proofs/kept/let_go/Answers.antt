use Rattle.std.proofs.Common.{◌≡◌, ◌-◌, ◌<◌, ℕ, inl, inr, List, length, get_or, take, sym, ap, ◌∙◌, subst, arith, vec_len}
use Rattle.std.proofs.lemmas.Bool.{cases_eq}
use Rattle.std.proofs.lemmas.List.{get_or-take, get_or_default, length-take-le}
use Rattle.bit_tables.specs.Lists.{HasInOrder}
use Rattle.element_numbers.specs.Cuts.{rows_of}
use Rattle.list_rule.specs.Spots.{row}
use Rattle.list_rule.proofs.kept.let_go.Goals as goal

pub returns-then-is_part-clause-shown : goal.returns-then-is_part-clause-shown
returns-then-is_part-clause-shown c = λ a b shown.
    let lists = rows_of c.args.places.now in
    let old : List ℕ = c.args.kept.now.items in
    let new : List ℕ = c.pop.new.self.items in
    let last : ℕ = c.index-last.result.now in
    let l : ℕ = shown.0 in
    let i : ℕ = shown.1.0 in
    let lt : i < length old = shown.1.1 in
    let at : get_or old i l ≡ l = shown.1.2 in
    let size : c.len-count.result ≡ length old = omega arith in
    elim (cases_eq i (c.len-count.result - 1)) [
      | inl here ↦
          let is : last ≡ l =
          c.index-last.ensures ∙ ap (λ k. get_or old k last) (sym here) ∙ get_or_default old i last l lt ∙ at in
          inr (subst (λ (r : List ℕ). HasInOrder r a b) c.row-2.ensures
          (c.is_part.ensures c.if-is_part.true a b
          (subst (λ (r : List ℕ). HasInOrder r a b) (sym c.row.ensures)
          (subst (λ k. HasInOrder (row lists k) a b) (sym is) shown.2))))
      | inr other ↦
          let low : i < c.len-count.result - 1 = omega (arith, lt, size, other) in
          let front : new ≡ take (c.len-count.result - 1) old = c.pop.ensures.rest ∙ ap (λ n. take (n - 1) old) (let e : vec_len c.args.kept.now ≡ c.len-count.result = omega (arith, size, c.args.kept.now.ok) in e) in
          let count : length new ≡ c.len-count.result - 1 = ap (λ (r : List ℕ). length r) front ∙ length-take-le (c.len-count.result - 1) old (omega (arith, size)) in
          let here : get_or new i l ≡ l = ap (λ (r : List ℕ). get_or r i l) front ∙ get_or-take (c.len-count.result - 1) old i l low ∙ at in
          inl (l, (i, omega (arith, low, count), here), shown.2)
    ]
