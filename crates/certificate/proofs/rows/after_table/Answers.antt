-- The table of one list more, and of all.
use Rattle.std.proofs.Common.{◌≡◌, ◌∙◌, ℕ, suc, ◌+◌, ◌/◌, ◌<◌, List, [], ◌∷◌, ◌++◌, take, length, sym, ap}
use Rattle.std.proofs.Common.{subst, arith}
use Rattle.std.proofs.Math.Seq.{take-suc}
use Rattle.std.proofs.lemmas.List.{length-map, take_all}
use Rattle.specification.specs.Elements.{numbers_in}
use Rattle.specification.specs.Responses.{Responses, Returned}
use Rattle.order_graph.specs.Lists.{lists_of}
use Rattle.bit_tables.specs.Lists.{HaveWidth, IsTableOf}
use Rattle.certificate.specs.AfterTables.{IsAfterTable}
use Rattle.certificate.proofs.rows.after_table.Goals as goal

pub loop-i-preserved : goal.loop-i-preserved
loop-i-preserved c =
    let i : ℕ = c.loop-i.i in
    let v : Responses = c.args.graph.now in
    let n : ℕ = length v.elements in
    let lists : List (List ℕ) = lists_of v in
    let list : List ℕ = c.list-list.result.now in
    let inv = c.loop-i.invariant in
    let count = length-map v.returned (λ (r : Returned). numbers_in v.elements r.names) in
    let lt : i < length lists = omega (arith, c.loop-i-test.true, c.lists-i-end.ensures.value, count) in
    let one : i + 1 ≡ suc i = omega arith in
    let next : take (i + 1) lists ≡ take i lists ++ list ∷ [] =
    ap (λ (k : ℕ). take k lists) one ∙ take-suc lists i [] lt
    ∙ ap (λ (l : List ℕ). take i lists ++ l ∷ []) (sym c.list-list.ensures.value) in
    let size : length c.loop-i.table ≡ n = inv.table.len in
    let more =
    c.in_ok-add.ensures.table (take i lists)
    (subst (λ (m : ℕ). IsTableOf m (take i lists) c.loop-i.table) (sym size) inv.table) in
    record {
      table = subst (λ (l : List (List ℕ)). IsTableOf n l c.add.new.self) (sym next)
          (subst (λ (m : ℕ). IsTableOf m (take i lists ++ list ∷ []) c.add.new.self) size more);
      noter = c.add.ensures.noter ∙ inv.noter;
      known = c.in_ok-add.ensures.known;
    }

pub note_included-requires : goal.note_included-requires
note_included-requires c =
    let inv = c.loop-i.invariant in
    record {
      width = subst (λ (m : ℕ). HaveWidth (m / 64 + 1) c.loop-i.table) (sym inv.table.len) inv.table.width;
    }

pub returns : goal.returns
returns c =
    let v : Responses = c.args.graph.now in
    let count = length-map v.returned (λ (r : Returned). numbers_in v.elements r.names) in
    let all : IsTableOf (length v.elements) (lists_of v) c.loop-i.table =
    subst (λ (l : List (List ℕ)). IsTableOf (length v.elements) l c.loop-i.table)
    (take_all c.loop-i.i (lists_of v)
    (omega (arith, c.loop-i-test.false, c.lists-i-end.ensures.value, count))) c.loop-i.invariant.table in
    subst (IsAfterTable v) (sym c.note_included.ensures) (record {
      len = all.len;
      width = all.width;
      shown = λ a b low high. all.shown a b low;
    })
