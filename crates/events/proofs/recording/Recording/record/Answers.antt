-- A refused call leaves the entries and what is kept of them; a taken one adds the entry to both.
use Rattle.std.proofs.lemmas.Bool.Decides.{nat_tests}
use Rattle.std.proofs.Common.{List, ◌≡◌, ◌≤◌, length, refl, sym, ◌∙◌, ap, subst, arith, None}
use Rattle.events.specs.History.{History, response_of}
use Rattle.events.specs.Lanes.{IsKept}
use Rattle.events.specs.Session.{first_refusal}
use Rattle.events.specs.declared.TheConstants.{MOST_NAMES}
use Rattle.events.specs.declared.entry.Entry.{Entry}
use Rattle.events.proofs.Lanes.{lane_fits}
use Rattle.events.proofs.Legal.{legal_more}
use Rattle.events.proofs.Refusals.{is_taken}
use Rattle.events.proofs.recording.Recording.record.Goals as goal

pub invariant_of-self : goal.invariant_of-self
invariant_of-self c = record {
  legal = c.self.invariant.legal;
  lanes_are = c.make_room.ensures.keeps _ _ c.self.invariant.lanes_are;
}

pub invariant_of-self-in-Err-push : goal.invariant_of-self-in-Err-push
invariant_of-self-in-Err-push c =
    subst (λ (entries : List Entry). IsKept c.self.inside.replica_count entries c.make_room.new.lanes.items)
    (sym c.in-Err-push.ensures.items) (record {
      legal = c.self.invariant.legal;
      lanes_are = c.make_room.ensures.keeps _ _ c.self.invariant.lanes_are;
    })

pub add-requires-clause-inserts : goal.add-requires-clause-inserts
add-requires-clause-inserts c = λ lane at.
    let fits =
    lane_fits _ c.make_room.new.lanes.items c.args.entry.replica lane c.self.invariant.legal
    (c.make_room.ensures.keeps _ _ c.self.invariant.lanes_are) at in
    omega (arith, fits.0)

pub add-requires-clause-places : goal.add-requires-clause-places
add-requires-clause-places c = λ lane at.
    let fits =
    lane_fits _ c.make_room.new.lanes.items c.args.entry.replica lane c.self.invariant.legal
    (c.make_room.ensures.keeps _ _ c.self.invariant.lanes_are) at in
    let taken = is_taken c.args.self.now.replicas c.args.self.now.entries c.args.entry c.in_default.ensures in
    let short : length (response_of c.args.entry.body) ≤ MOST_NAMES = grind (arith, nat_tests, taken.long) in
    omega (arith, fits.1, short, c.weight-weight.ensures.places)

pub invariant_of-self-2 : goal.invariant_of-self-2
invariant_of-self-2 c =
    let h : History = record { replicas = c.self.inside.replica_count; entries = c.self.inside.kept.items } in
    let none : first_refusal h.replicas h.entries c.args.entry ≡ None =
    subst (λ (h : History). first_refusal h.replicas h.entries c.args.entry ≡ None)
    (sym c.self.view_is) c.in_default.ensures in
    let at : c.len-at.result ≡ length h.entries =
    c.len-at.ensures.value ∙ ap (λ (h : History). length h.entries) (sym c.self.view_is) in
    let lanes = c.make_room.ensures.keeps _ _ c.self.invariant.lanes_are in
    subst (λ (entries : List Entry). IsKept c.self.inside.replica_count entries c.add.new.lanes.items)
    (sym c.in_default-push.ensures.items) (record {
      legal = legal_more h c.args.entry c.self.invariant.legal c.look_over.ensures none;
      lanes_are = c.add.ensures _ _ c.args.entry refl at c.weight-weight.ensures lanes;
    })
