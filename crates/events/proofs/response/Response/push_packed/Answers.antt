-- The names behind are those before, and these.
use Rattle.std.proofs.Common.{◌≡◌, ◌∙◌, ◌+◌, ◌-◌, ◌<◌, ◌≤◌, ◌^◌, ◌++◌, List, length, map, All, sym, ap}
use Rattle.std.proofs.Common.{subst, refl, arith}
use Rattle.std.proofs.lemmas.Grind.{common_steps}
use Rattle.std.proofs.lemmas.List.Elements.{All-append}
use Rattle.events.specs.Names.{NameBytes, IsName}
use Rattle.events.specs.Packed.{spaced, ends_of, pieces}
use Rattle.events.proofs.Packed.{packed, packed-pieces, bytes-more, ends-more}
use Rattle.events.proofs.Runs.{ends-moved, ends-range}
use Rattle.events.proofs.response.Response.push_packed.Goals as goal
use Rattle.events.proofs.response.Response.push_packed.Goals.{After-put_ends}

pub put_ends-requires-clause-range : goal.put_ends-requires-clause-range
put_ends-requires-clause-range c =
    let names : List NameBytes = c.requires.0 in
    let size : length c.args.bytes.now ≡ length (spaced names) = ap length c.requires.2 in
    let small : c.len-begin.result + length (spaced names) < 2 ^ 32 =
    grind (arith, common_steps, c.in-Ok.ensures, size) in
    subst (All (λ end. (c.args.from ≤ end) × (c.len-begin.result + (end - c.args.from) < 2 ^ 32)))
    (sym c.requires.3) (ends-range c.args.from c.len-begin.result names small)

module _ (c : After-put_ends) (names : List NameBytes) where
  abbrev behind : List NameBytes
  behind = pieces c.self.inside.bytes.items 0 c.self.inside.ends.items ++ names

  all_bytes : c.args.bytes.now ≡ spaced names → c.extend_from_slice.new.self.items ≡ spaced behind
  all_bytes bytes_are =
      bytes-more c.self.inside.bytes.items c.self.inside.ends.items _ c.self.invariant refl names _
      (c.in_ok-extend_from_slice.ensures.items ∙ ap (λ l. c.self.inside.bytes.items ++ l) bytes_are)

  all_ends : c.args.ends.now ≡ ends_of c.args.from names → c.put_ends.new.own.items ≡ ends_of 0 behind
  all_ends ends_are =
      let begin : c.len-begin.result ≡ length c.self.inside.bytes.items =
      omega (arith, c.len-begin.ensures) in
      let there : map (λ end. c.len-begin.result + (end - c.args.from)) c.args.ends.now
      ≡ ends_of (length c.self.inside.bytes.items) names =
      ap (map (λ end. c.len-begin.result + (end - c.args.from))) ends_are
      ∙ ends-moved c.args.from c.len-begin.result names ∙ ap (λ x. ends_of x names) begin in
      ends-more c.self.inside.bytes.items c.self.inside.ends.items _ c.self.invariant refl names _
      (rw (c.put_ends.ensures, c.in_ok-reserve.ensures.items, there) refl)

pub invariant_of-self-2 : goal.invariant_of-self-2
invariant_of-self-2 c =
    let known = (goal.at.invariant_of-self-2 c).After-put_ends in
    packed _ _ _ (all_bytes known c.requires.0 c.requires.2) (all_ends known c.requires.0 c.requires.3)
    (All-append IsName _ c.requires.0 c.self.invariant.names c.requires.1)

pub returns-clause-ok : goal.returns-clause-ok
returns-clause-ok c = λ names bytes_are ends_are.
    let known = (goal.at.returns-clause-ok c).After-put_ends in
    packed-pieces _ _ (behind known names) (all_bytes known names bytes_are) (all_ends known names ends_are)
    ∙ ap (λ (l : List NameBytes). l ++ names) c.self.view_is
