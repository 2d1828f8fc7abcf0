-- One place more.
use Rattle.std.proofs.Common.{ℕ, ◌<◌, ◌≤◌, inl, inr, List, length, ◌∙◌, arith}
use Rattle.witness_order.proofs.Listing.{both-more, next-more}
use Rattle.witness_order.proofs.successors.note_list.Goals as goal

pub loop-j-preserved : goal.loop-j-preserved
loop-j-preserved c =
    let list : List ℕ = c.args.list.now in
    let j : ℕ = c.loop-j.j in
    let inv = c.loop-j.invariant in
    let made = c.in_ok-note.ensures in
    let low : 1 ≤ j = omega arith in
    let high : j < length list = omega arith in
    record {
      count = made.count ∙ inv.count;
      kept = made.kept;
      listed = λ x y. both-more (made.listed x y) (inv.listed x y) (next-more list j x y low high);
      short = omega (arith, made.short, inv.short);
      within = omega arith;
    }

pub returns-clause-listed : goal.returns-clause-listed
returns-clause-listed c = λ x y.
    let both = c.loop-j.invariant.listed x y in (
      λ h. elim (both.0 h) [ inl old ↦ inl old | inr b ↦ inr b.0 ],
      λ s. both.1 (elim s [ inl old ↦ inl old | inr a ↦ inr (a, let low = a.within in omega arith) ]),
    )
