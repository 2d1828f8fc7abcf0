-- A name that cannot be noted, and one that is.
use Rattle.std.proofs.Common.{◌≡◌, ◌≢◌, ◌∙◌, ℕ, List, [], ◌∷◌, ◌++◌, length, take, drop, codes, sym, subst}
use Rattle.std.proofs.Common.{arith, rules}
use Rattle.std.proofs.lemmas.Grind.{common_steps}
use Rattle.std.proofs.lemmas.List.{take_at}
use Rattle.std.proofs.lemmas.Slice.Eq.{slice_eq-Decides}
use Rattle.std.proofs.lemmas.Bool.Decides.{Decides-eqb}
use Rattle.std.proofs.lemmas.Bool.{false≢true}
use Rattle.bit_tables.specs.Rule.{HaveDepths}
use Rattle.cert_check.specs.Noted.{Holds}
use Rattle.cert_check.specs.RowDepths.{IsWritten}
use Rattle.cert_check.proofs.Noting.{name-goes-on, name-stops, word-name}
use Rattle.cert_check.proofs.RowNumbers.{depths-more}
use Rattle.cert_check.proofs.numbered.Numbered.note_word.Goals as goal

pub returns-in_default-clause-noted : goal.returns-in_default-clause-noted
returns-in_default-clause-noted c = λ noted holds row.
    let names = c.args.self.now.names.items in
    let depths : List ℕ = c.args.row.now.depths.items in
    let lent : Holds names c.args.unset noted c.deref_mut.result.now =
    subst (Holds names c.args.unset noted) (sym c.deref_mut.ensures.value) holds in
    let none = rw c.in_default.is at c.note.ensures.noted in
    let other : c.args.word.now ≢ codes "/" =
    λ e. false≢true (sym c.if-eq.false
    ∙ (slice_eq-Decides Decides-eqb _ _ _ c.eq.ensures).1 (e ∙ sym c.as_slice.ensures)) in
    name-stops names c.args.unset noted c.args.at.depth c.args.word.now depths other
    (none noted lent (word-name names c.args.unset noted c.args.at.depth c.args.word.now depths other row))

pub returns : goal.returns
returns c =
    let depths : List ℕ = c.args.row.now.depths.items in
    let new : List ℕ = c.note.new.values in
    let whole : take c.args.row.now.depths.len (new ++ drop (length new) depths) ≡ new =
    take_at new _ _ (omega (arith, c.note.ensures.room, c.deref_mut.ensures.len)) in
    record {
      below = search rules;
      numbers =
          (let old : List ℕ = c.args.row.now.noted.items in
          let number : ℕ = c.in-Some.number in
          let written : IsWritten depths c.args.unset number c.args.at.depth new =
          subst (λ (l : List ℕ). IsWritten l c.args.unset number c.args.at.depth new)
          c.deref_mut.ensures.value c.in-Some.ensures.written in
          let pushed : c.push.new.self.items ≡ old ++ number ∷ [] =
          grind (arith, common_steps, c.in_ok-push.ensures.items) in
          rw whole (subst (λ (l : List ℕ). HaveDepths new c.args.unset l) (sym pushed)
          (depths-more depths old new c.args.unset number c.args.at.depth c.requires.below written
          c.requires.numbers)));
      noted = λ noted holds.
          let names = c.args.self.now.names.items in
          let lent : Holds names c.args.unset noted c.deref_mut.result.now =
          subst (Holds names c.args.unset noted) (sym c.deref_mut.ensures.value) holds in
          let other : c.args.word.now ≢ codes "/" =
          λ e. false≢true (sym c.if-eq.false
          ∙ (slice_eq-Decides Decides-eqb _ _ _ c.eq.ensures).1 (e ∙ sym c.as_slice.ensures)) in
          rw whole (name-goes-on names c.args.unset noted c.args.at.depth c.args.word.now new other
          (c.in-Some.ensures.noted noted lent));
    }
