-- One name more each time, or none stands there.
use Rattle.std.proofs.Common.{◌≡◌, ◌∙◌, ◌+◌, ℕ, ◌<◌, [], ◌∷◌, ◌++◌, List, length, take, set, sym, ap, subst}
use Rattle.std.proofs.Common.{arith}
use Rattle.std.proofs.lemmas.List.{take_more_set, length-set}
use Rattle.events.specs.Names.{NameBytes}
use Rattle.events.specs.Runs.{BeginsWith}
use Rattle.events.proofs.FirstNames.{Taken, one-more, first-names}
use Rattle.events.proofs.response.words.first_names.Goals as goal

pub returns-then-size-eq0-clause-names : goal.returns-then-size-eq0-clause-names
returns-then-size-eq0-clause-names c =
    first-names c.args.text.now c.names.ends c.names.names c.names.bytes c.names.invariant.taken
    c.names.invariant.few
    (λ _ a name begins. c.name_size-size.ensures.none c.if-size-eq0.true a name
    (subst (λ t. BeginsWith t (a ∷ [])) (sym c.after.ensures) begins))

pub names-preserved : goal.names-preserved
names-preserved c =
    let some : 0 < c.name_size-size.result = omega (arith, c.if-size-eq0.false) in
    let found = c.name_size-size.ensures.some some in
    let a : NameBytes = found.0 in
    let size : length a ≡ c.name_size-size.result = found.1 in
    let end : c.names.bytes + (1 + length a) ≡ c.names.bytes + (1 + c.name_size-size.result) =
    omega (arith, size) in
    let inside : c.names.names < length c.names.ends =
    omega (arith, c.names-test.true, c.names.invariant.room) in
    let ends : List ℕ = set c.names.ends c.names.names (c.names.bytes + (1 + c.name_size-size.result)) in
    let more : Taken c.args.text.now ends (c.names.names + 1) (c.names.bytes + (1 + length a)) =
    one-more c.args.text.now c.names.ends c.names.names c.names.bytes c.names.invariant.taken a found.2
    (subst (λ t. BeginsWith t (a ∷ [])) c.after.ensures found.3) ends
    (take_more_set c.names.ends c.names.names (c.names.bytes + (1 + c.name_size-size.result)) inside
    ∙ ap (λ (n : ℕ). take c.names.names c.names.ends ++ n ∷ []) (sym end)) in
    record {
      few = omega (arith, c.names-test.true);
      room = length-set c.names.ends c.names.names (c.names.bytes + (1 + c.name_size-size.result))
          ∙ c.names.invariant.room;
      taken = subst (Taken c.args.text.now ends (c.names.names + 1)) end more;
    }
