-- The table says what the lanes count.
use Rattle.std.proofs.Common.{◌≡◌, ◌≤◌, ◌↔◌, ◌∙◌, ap, sym, subst, refl, get_or, ℕ, zero, suc, List}
use Rattle.std.proofs.Math.ListN.{replicate}
use Rattle.specification.specs.Visibility.{SightTable, Sees}
use Rattle.visibility.specs.Clocks.{clock_in, table_of}
use Rattle.visibility.specs.declared.lane.Lane.{Lane}
use Rattle.visibility.proofs.Tables.{unseen_count, seen_count}
use Rattle.visibility.proofs.sight.Sight.counts.Goals as goal

zeros : (size q : ℕ) → get_or {A = ℕ} (replicate size 0) q 0 ≡ 0
zeros zero q = refl
zeros (suc size) zero = refl
zeros (suc size) (suc q) = zeros size q

pub returns-in_default : goal.returns-in_default
returns-in_default c = λ q n low.
    subst (λ (t : SightTable). Sees t (record { replica = q; n = n }) c.args.e
    ↔ (n ≤ get_or {A = ℕ} (replicate 16 0) q 0)) c.self.view_is
    (subst (λ (m : ℕ). Sees (table_of c.self.inside.lanes.items) (record { replica = q; n = n }) c.args.e
    ↔ (n ≤ m)) (sym (zeros 16 q))
    (unseen_count c.self.inside.lanes.items c.args.e q n low
    (ap (λ (ls : List Lane). clock_in ls c.args.e) (sym c.deref.ensures.value)
    ∙ sym c.in_default.ensures.clock)))

pub returns : goal.returns
returns c = λ q n low.
    let at = ap (λ (ls : List Lane). clock_in ls c.args.e) (sym c.deref.ensures.value)
    ∙ sym c.in-Some.ensures.clock in
    subst (λ (t : SightTable). Sees t (record { replica = q; n = n }) c.args.e
    ↔ (n ≤ get_or c.in-Some.clock.now.counts q 0)) c.self.view_is
    (seen_count c.self.inside.lanes.items c.args.e c.in-Some.clock.now q n low c.in-Some.ensures.number at)
