-- What stands in the rest of the row stands in the row after the place.
use Rattle.std.proofs.Common.{◌≡◌, ℕ, ◌+◌, ◌-◌, ◌<◌, Bool, true, false, eqb, List, get_or, drop, length, sym}
use Rattle.std.proofs.Common.{◌∙◌, ap, subst, arith, length-drop, true≢false}
use Rattle.std.specs.List.{IsAnyAnswer}
use Rattle.std.proofs.lemmas.Bool.{eqb-true, eq-eqb}
use Rattle.std.proofs.lemmas.List.{take_rest, get_or-drop}
use Rattle.order_graph.specs.Lists.{IsBehind}
use Rattle.order_graph.proofs.pairs.stands_behind.Goals as goal

found : (row : List ℕ) (p b : ℕ) (r : Bool) → IsAnyAnswer (λ y t. eqb y b ≡ t) (drop (p + 1) row) r → r ≡ true
    → IsBehind row p b
found row p b true (k, within, holds) is =
    let at : get_or (drop (p + 1) row) k 0 ≡ b = eqb-true (get_or (drop (p + 1) row) k 0) b (holds 0) in
    record {
      later = p + 1 + k;
      in_order = omega arith;
      within = omega (arith, within, length-drop (p + 1) row);
      here = sym (get_or-drop (p + 1) row k 0) ∙ at;
    }
found row p b false answer is = absurd (cc)

absent : (row : List ℕ) (p b : ℕ) (r : Bool) → IsAnyAnswer (λ y t. eqb y b ≡ t) (drop (p + 1) row) r
    → r ≡ false → IsBehind row p b → ⊥
absent row p b true answer is behind = absurd (cc)
absent row p b false none is behind =
    let k : ℕ = behind.later - (p + 1) in
    let order : p < behind.later = behind.in_order in
    let sum : p + 1 + k ≡ behind.later = omega arith in
    let within : behind.later < length row = behind.within in
    let inside : k < length (drop (p + 1) row) = omega (arith, length-drop (p + 1) row) in
    let at : get_or (drop (p + 1) row) k 0 ≡ b =
    get_or-drop (p + 1) row k 0 ∙ ap (λ n. get_or row n 0) sum ∙ behind.here in
    true≢false (sym (eq-eqb (get_or (drop (p + 1) row) k 0) b at) ∙ none k 0 (omega arith) inside)

pub returns-then-from-row-clause-found : goal.returns-then-from-row-clause-found
returns-then-from-row-clause-found c =
    let row : List ℕ = c.args.row.now in
    let p : ℕ = c.args.place in
    found row p c.args.b c.contains.result
    (subst (λ (l : List ℕ). IsAnyAnswer (λ y t. eqb y c.args.b ≡ t) l c.contains.result)
    (take_rest row (p + 1)) c.contains.ensures.cases)

pub returns-then-from-row-clause-absent : goal.returns-then-from-row-clause-absent
returns-then-from-row-clause-absent c =
    let row : List ℕ = c.args.row.now in
    let p : ℕ = c.args.place in
    absent row p c.args.b c.contains.result
    (subst (λ (l : List ℕ). IsAnyAnswer (λ y t. eqb y c.args.b ≡ t) l c.contains.result)
    (take_rest row (p + 1)) c.contains.ensures.cases)
