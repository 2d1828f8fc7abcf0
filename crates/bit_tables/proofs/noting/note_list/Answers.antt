-- The list is noted from its end on.
use Rattle.std.proofs.Common.{◌≡◌, ◌+◌, ◌-◌, ◌∙◌, ℕ, subst, arith}
use Rattle.bit_tables.proofs.Places.{AreNoted, list_stays, noted_all, noted_step}
use Rattle.bit_tables.proofs.noting.note_list.Goals as goal

pub places-preserved : goal.places-preserved
places-preserved c =
    let i : ℕ = c.places.i - 1 in
    let w = c.args.list.now in
    let inv = c.places.invariant in
    let rows = c.places.rows in
    let new = c.note_place.new.rows in
    let back : c.places.i ≡ i + 1 = omega arith in
    let noted : AreNoted i w c.args.rows.now new =
    noted_step i w c.args.rows.now rows new inv.len c.in_ok-note_place.ensures.noted
    (subst (λ (j : ℕ). AreNoted j w c.args.rows.now rows) back inv.noted) in
    record {
      len = c.note_place.ensures.len ∙ inv.len;
      width = c.note_place.ensures.width ∙ inv.width;
      sized = c.note_place.ensures.sized;
      known = list_stays c.args.known.now i w c.args.rows.now new
          (c.note_place.ensures.len ∙ inv.len) noted c.requires.known;
      noted = noted;
      back = c.in_ok-note_place.ensures.back;
    }

pub returns-clause-shown : goal.returns-clause-shown
returns-clause-shown c =
    noted_all c.args.list.now c.args.rows.now c.places.rows
    (subst (λ (j : ℕ). AreNoted j c.args.list.now c.args.rows.now c.places.rows)
    (omega (arith, c.places-test.false)) c.places.invariant.noted)
