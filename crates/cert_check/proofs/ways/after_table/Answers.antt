-- The table of one list more, and of all.
use Rattle.std.proofs.Common.{◌≡◌, ◌∙◌, ℕ, suc, ◌+◌, ◌/◌, ◌<◌, List, [], ◌∷◌, ◌++◌, take, length, sym, ap}
use Rattle.std.proofs.Common.{subst, arith}
use Rattle.std.proofs.Math.Seq.{take-suc}
use Rattle.std.proofs.lemmas.List.{take_all}
use Rattle.bit_tables.specs.Lists.{HaveWidth, IsTableOf}
use Rattle.element_numbers.proofs.Cuts.{length-cut}
use Rattle.cert_check.specs.Numbering.{lists_of}
use Rattle.cert_check.proofs.ways.after_table.Goals as goal

pub loop-i-preserved : goal.loop-i-preserved
loop-i-preserved c =
    let i : ℕ = c.loop-i.i in
    let n : ℕ = length c.args.numbered.now.names.items in
    let lists : List (List ℕ) = lists_of c.args.numbered.now in
    let row : List ℕ = c.row-row.result.now in
    let inv = c.loop-i.invariant in
    let count : length lists ≡ length c.args.numbered.now.places.ends.items =
    length-cut 0 c.args.numbered.now.places.ends.items c.args.numbered.now.places.items.items in
    let lt : i < length lists = omega (arith, c.loop-i-test.true, c.len-i-end.ensures, count) in
    let one : i + 1 ≡ suc i = omega arith in
    let next : take (i + 1) lists ≡ take i lists ++ row ∷ [] =
    ap (λ (k : ℕ). take k lists) one ∙ take-suc lists i [] lt
    ∙ ap (λ (l : List ℕ). take i lists ++ l ∷ []) (sym c.row-row.ensures) in
    let size : length c.loop-i.table ≡ n = inv.table.len in
    let more =
    c.in_ok-add.ensures.table (take i lists)
    (subst (λ (m : ℕ). IsTableOf m (take i lists) c.loop-i.table) (sym size) inv.table) in
    record {
      table = subst (λ (l : List (List ℕ)). IsTableOf n l c.add.new.self) (sym next)
          (subst (λ (m : ℕ). IsTableOf m (take i lists ++ row ∷ []) c.add.new.self) size more);
      noter = c.add.ensures.noter ∙ inv.noter;
      known = c.in_ok-add.ensures.known;
    }

pub note_included-requires : goal.note_included-requires
note_included-requires c =
    let inv = c.loop-i.invariant in
    record {
      width = subst (λ (m : ℕ). HaveWidth (m / 64 + 1) c.loop-i.table) (sym inv.table.len) inv.table.width;
    }

pub returns : goal.returns
returns c =
    let lists : List (List ℕ) = lists_of c.args.numbered.now in
    let count : length lists ≡ length c.args.numbered.now.places.ends.items =
    length-cut 0 c.args.numbered.now.places.ends.items c.args.numbered.now.places.items.items in
    subst (IsTableOf (length c.args.numbered.now.names.items) lists) (sym c.note_included.ensures)
    (subst (λ (l : List (List ℕ)). IsTableOf (length c.args.numbered.now.names.items) l c.loop-i.table)
    (take_all c.loop-i.i lists (omega (arith, c.loop-i-test.false, c.len-i-end.ensures, count)))
    c.loop-i.invariant.table)
