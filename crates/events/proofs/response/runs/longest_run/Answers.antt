-- So many names end where the text is still the same, or one less.
use Rattle.std.proofs.Common.{◌≡◌, ◌≢◌, refl, ◌∙◌, ℕ, zero, suc, ◌+◌, ◌-◌, ◌<◌, ◌≤◌, ◌⊎◌, inl, inr, true}
use Rattle.std.proofs.Common.{false, List, length, take, get_or, slice_get, Some, sym, ap}
use Rattle.std.proofs.Common.{arith}
use Rattle.std.proofs.lemmas.Option.{slice_get-get_or}
use Rattle.events.specs.Names.{NameBytes}
use Rattle.events.specs.Packed.{spaced, ends_of}
use Rattle.events.specs.Runs.{IsLongestRun, may_follow}
use Rattle.events.proofs.Runs.{size, size-rises, ends-length, ends-index, all-of-them, one-less}
use Rattle.events.proofs.response.runs.longest_run.Goals as goal
use Rattle.events.proofs.response.runs.longest_run.Goals.{After-bytes_until-bytes}
use Rattle.events.proofs.response.runs.longest_run.Goals.{then-names-eq0-via-then-names-eq0}
use Rattle.events.proofs.response.runs.longest_run.Goals.{then-names-eq0-via-else-names-eq0+then-ends_word}

module _ (c : After-bytes_until-bytes) (names : List NameBytes) (bytes_are : c.args.bytes.now ≡ spaced names)
    (ends_are : c.args.ends.now ≡ ends_of c.args.from names) where
  abbrev n : ℕ
  n = c.ends_within-names.result

  abbrev equal : ℕ
  equal = c.same_bytes.result

  count : length c.args.ends.now ≡ length names
  count = ap length ends_are ∙ ends-length c.args.from names

  within : n ≤ length names
  within = omega (arith, count, c.ends_within-names.ensures.within)

  same : take equal c.args.text.now ≡ take equal (spaced names)
  same = c.same_bytes.ensures.same ∙ ap (take equal) bytes_are

  differ : (x : ℕ) → slice_get c.args.text.now equal ≡ Some x → slice_get (spaced names) equal ≡ Some x → ⊥
  differ x here there = c.same_bytes.ensures.most x here (ap (λ l. slice_get l equal) bytes_are ∙ there)

  low : size names n ≤ equal
  low = go n refl
    where
      go : (k : ℕ) → k ≡ n → size names k ≤ equal
      go zero is = omega arith
      go (suc k) is =
          let end : get_or c.args.ends.now k 0 ≡ c.args.from + size names (suc k) =
          ap (λ l. get_or l k 0) ends_are ∙ ends-index c.args.from names k 0 (omega (arith, is, within)) in
          omega (arith, end, c.ends_within-names.ensures.low k (omega (arith, is)))

  high : n < length names → equal < size names (suc n)
  high some =
      let end : get_or c.args.ends.now n 0 ≡ c.args.from + size names (suc n) =
      ap (λ l. get_or l n 0) ends_are ∙ ends-index c.args.from names n 0 some in
      let there : slice_get c.args.ends.now n ≡ Some (get_or c.args.ends.now n 0) =
      slice_get-get_or c.args.ends.now n 0 (omega (arith, some, count)) in
      omega (arith, end, c.ends_within-names.ensures.most (get_or c.args.ends.now n 0) there)

  whole : (n ≡ 0) ⊎ (may_follow (slice_get c.args.text.now c.bytes_until-bytes.result) ≡ true)
      → IsLongestRun c.args.text.now names n c.bytes_until-bytes.result
  whole = all-of-them c.args.text.now names equal same differ n within low high c.bytes_until-bytes.result
      (c.bytes_until-bytes.ensures names ends_are)

  less : (short : ℕ) → short ≡ size names (n - 1) → n ≢ 0
      → may_follow (slice_get c.args.text.now c.bytes_until-bytes.result) ≡ false
      → IsLongestRun c.args.text.now names (n - 1) short
  less short short_is some = one-less c.args.text.now names equal same differ n within low high
      c.bytes_until-bytes.result short (c.bytes_until-bytes.ensures names ends_are) short_is
      (omega (arith, some))

pub ends_within-names-requires : goal.ends_within-names-requires
ends_within-names-requires c =
    let names : List NameBytes = c.requires.packed.0 in
    λ i j d before within.
    let is : get_or c.args.ends.now i d ≡ c.args.from + size names (suc i) =
    ap (λ l. get_or l i d) c.requires.packed.2
    ∙ ends-index c.args.from names i d
    (omega (arith, before, within, ap length c.requires.packed.2, ends-length c.args.from names)) in
    let other_is : get_or c.args.ends.now j d ≡ c.args.from + size names (suc j) =
    ap (λ l. get_or l j d) c.requires.packed.2
    ∙ ends-index c.args.from names j d
    (omega (arith, within, ap length c.requires.packed.2, ends-length c.args.from names)) in
    omega (arith, is, other_is, size-rises names (suc i) (suc j) (omega (arith, before)))

pub returns-then-names-eq0 : goal.returns-then-names-eq0
returns-then-names-eq0 c = λ names bytes_are ends_are.
    whole (goal.at.returns-then-names-eq0 c).After-bytes_until-bytes names bytes_are ends_are
    (elim c.then-names-eq0.branch [
      | then-names-eq0-via-then-names-eq0 w ↦ inl w.if-names-eq0.true
      | then-names-eq0-via-else-names-eq0+then-ends_word w ↦
          inr (sym w.ends_word.ensures ∙ w.if-ends_word.true)
    ])

pub returns : goal.returns
returns c = λ names bytes_are ends_are.
    less (goal.at.returns c).After-bytes_until-bytes names bytes_are ends_are c.bytes_until.result
    (c.bytes_until.ensures names ends_are) c.if-names-eq0.false
    (sym c.ends_word.ensures ∙ c.if-ends_word.false)
