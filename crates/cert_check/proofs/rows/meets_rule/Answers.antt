-- A row that cannot be noted, or has an element below the first that counts, does not meet the rule; for the
-- others the depths decide.
use Rattle.std.proofs.Common.{◌-◌, ◌≤◌, ℕ, List, length, refl, sym, subst, arith}
use Rattle.std.specs.Prelude.{◌↔◌, All, IsTrue, slice_index_or}
use Rattle.std.proofs.lemmas.Bool.{false≢true}
use Rattle.events.specs.Names.{NameBytes}
use Rattle.specification.specs.Elements.{elements}
use Rattle.specification.specs.Responses.{Responses, AreProper, responses_of}
use Rattle.specification.specs.Versions.{Version}
use Rattle.specification.proofs.SoundResponses.{sound_responses_are_proper}
use Rattle.bit_tables.specs.Rule.{HaveDepths, MeetsRule}
use Rattle.certificate_text.specs.CertificateOf.{version_in}
use Rattle.format_words.specs.Words.{words_behind}
use Rattle.cert_check.specs.Noted.{Noted, CanBeNoted, Holds, pairs_from}
use Rattle.cert_check.specs.RowDepths.{IsUnset}
use Rattle.cert_check.specs.RowWords.{pairs_of}
use Rattle.cert_check.specs.Numbering.{AreWithin, lists_of}
use Rattle.cert_check.proofs.Listed.{once-elements}
use Rattle.cert_check.proofs.RulesFrom.{MeetsRuleFrom, from-rule, to-rule}
use Rattle.cert_check.proofs.Depths.{can_rule, names_from, noted_from, rule_from_lists, lists_from_rule}
use Rattle.cert_check.proofs.TableRule.{depths-most, lists_from_table, table_from_lists}
use Rattle.cert_check.proofs.rows.meets_rule.Goals as goal
use Rattle.cert_check.proofs.rows.meets_rule.Goals.{Else-not-is_noted}

-- the row's words are noted
row_noted : (c : Else-not-is_noted) → Holds c.args.numbered.now.names.items (c.args.k - 1)
    (pairs_of 0 (words_behind c.args.words.now)) c.note_row.new.row.depths.items
row_noted c = rw c.if-not-is_noted.false at c.in_ok-is_noted.ensures.row

pub returns-then-not-is_noted-clause-meets : goal.returns-then-not-is_noted-clause-meets
returns-then-not-is_noted-clause-meets c = λ row says h a of at. (
  λ t. absurd (false≢true t),
  λ rule.
      let v : Responses = responses_of h in
      let names : List NameBytes = c.args.numbered.now.names.items in
      let from =
      from-rule v (sound_responses_are_proper h of.legal of.sound) c.args.k c.args.source a row at
      (version_in c.args.version) rule in
      let can : CanBeNoted names (pairs_from 0 row) =
      subst (λ (ns : List NameBytes). CanBeNoted ns (pairs_from 0 row)) (sym of.names)
      (can_rule (elements h) row from.of_elements from.once) in
      let none = rw c.if-not-is_noted.true at c.in_ok-is_noted.ensures.row in
      absurd (none says.words (omega (arith, says.layers)) (subst (CanBeNoted names) (sym says.pairs) can)),
)

pub returns-then-not-are_from-clause-meets : goal.returns-then-not-are_from-clause-meets
returns-then-not-are_from-clause-meets c = λ row says h a of at. (
  λ t. absurd (false≢true t),
  λ rule.
      let version : Version = version_in c.args.version in
      let v : Responses = responses_of h in
      let first : ℕ = c.first_of-first.result in
      let names : List NameBytes = c.args.numbered.now.names.items in
      let depths : List ℕ = c.note_row.new.row.depths.items in
      let noted : List ℕ = c.note_row.new.row.noted.items in
      let some : Holds names (c.args.k - 1) (pairs_from 0 row) depths =
      subst (λ (ps : List Noted). Holds names (c.args.k - 1) ps depths) says.pairs
      (row_noted (goal.at.returns-then-not-are_from-clause-meets c).Else-not-is_noted) in
      let holds : Holds (elements h) (c.args.k - 1) (pairs_from 0 row) depths =
      subst (λ (ns : List NameBytes). Holds ns (c.args.k - 1) (pairs_from 0 row) depths) of.names some in
      let from : MeetsRuleFrom v first c.args.k a row =
      subst (λ (n : ℕ). MeetsRuleFrom v n c.args.k a row) (sym c.first_of-first.ensures)
      (from-rule v (sound_responses_are_proper h of.legal of.sound) c.args.k c.args.source a row at version
      rule) in
      let has : HaveDepths depths (c.args.k - 1) noted =
      c.in_ok-is_noted.ensures.numbers c.if-not-is_noted.false in
      let all : All (λ n. first ≤ n) noted =
      noted_from (elements h) (c.args.k - 1) first row depths noted
      (once-elements h of.legal of.sound) holds has from.from in
      absurd (false≢true
      (c.if-not-are_from.ensures.1
      (subst (λ (l : List ℕ). All (λ n. first ≤ n) l) (sym c.deref.ensures.value) all))),
)

pub are_deep-requires-clause-size : goal.are_deep-requires-clause-size
are_deep-requires-clause-size c =
    (row_noted (goal.at.are_deep-requires-clause-size c).Else-not-is_noted).size

pub are_deep-requires-clause-noted : goal.are_deep-requires-clause-noted
are_deep-requires-clause-noted c = c.in_ok-is_noted.ensures.numbers c.if-not-is_noted.false

pub are_deep-requires-clause-most : goal.are_deep-requires-clause-most
are_deep-requires-clause-most c =
    depths-most _ _ _ _ (row_noted (goal.at.are_deep-requires-clause-most c).Else-not-is_noted)

pub clear-requires-clause-noted : goal.clear-requires-clause-noted
clear-requires-clause-noted c = c.in_ok-is_noted.ensures.numbers c.if-not-is_noted.false

pub clear-requires-clause-most : goal.clear-requires-clause-most
clear-requires-clause-most c =
    depths-most _ _ _ _ (row_noted (goal.at.clear-requires-clause-most c).Else-not-is_noted)

pub returns-clause-fresh : goal.returns-clause-fresh
returns-clause-fresh c = λ meets.
    subst (λ (n : ℕ). IsUnset n (c.args.k - 1) c.clear.new.self)
    (row_noted (goal.at.returns-clause-fresh c).Else-not-is_noted).size c.clear.ensures

pub returns-clause-meets : goal.returns-clause-meets
returns-clause-meets c = λ row says h a of at.
    let version : Version = version_in c.args.version in
    let v : Responses = responses_of h in
    let proper : AreProper v = sound_responses_are_proper h of.legal of.sound in
    let first : ℕ = c.first_of-first.result in
    let t = c.args.numbered.now in
    let depths : List ℕ = c.note_row.new.row.depths.items in
    let noted : List ℕ = c.note_row.new.row.noted.items in
    let names : List NameBytes = t.names.items in
    let some : Holds names (c.args.k - 1) (pairs_from 0 row) depths =
    subst (λ (ps : List Noted). Holds names (c.args.k - 1) ps depths) says.pairs
    (row_noted (goal.at.returns-clause-meets c).Else-not-is_noted) in
    let holds : Holds (elements h) (c.args.k - 1) (pairs_from 0 row) depths =
    subst (λ (ns : List NameBytes). Holds ns (c.args.k - 1) (pairs_from 0 row) depths) of.names some in
    let within : AreWithin (length depths) t =
    subst (λ (n : ℕ). AreWithin n t) (sym some.size) c.requires.within in
    let has : HaveDepths depths (c.args.k - 1) noted =
    c.in_ok-is_noted.ensures.numbers c.if-not-is_noted.false in
    let all : All (λ n. first ≤ n) noted =
    subst (λ (l : List ℕ). All (λ n. first ≤ n) l) c.deref.ensures.value
    (c.if-not-are_from.ensures.0 refl) in
    let deep : IsTrue c.in_ok-deep.deep ↔ MeetsRule (lists_of t) first c.args.source (c.args.k - 1)
    (λ x. slice_index_or depths x (c.args.k - 1)) = c.in_ok-deep.ensures.deep in (
      λ yes. to-rule v proper c.args.k c.args.source a row at version
          (subst (λ (n : ℕ). MeetsRuleFrom v n c.args.k a row) c.first_of-first.ensures
          (rule_from_lists h t of c.args.k first row depths says.row_is.layers holds c.args.source a at
          (names_from (elements h) (c.args.k - 1) first row depths noted
          (once-elements h of.legal of.sound) holds has all)
          (lists_from_table t depths first c.args.source (c.args.k - 1) within (deep.0 yes)))),
      λ rule.
          let from : MeetsRuleFrom v first c.args.k a row =
          subst (λ (n : ℕ). MeetsRuleFrom v n c.args.k a row) (sym c.first_of-first.ensures)
          (from-rule v proper c.args.k c.args.source a row at version rule) in
          deep.1 (table_from_lists t depths first c.args.source (c.args.k - 1) within
          (lists_from_rule h t of c.args.k first row depths says.row_is.layers holds c.args.source a at
          from)),
    )
