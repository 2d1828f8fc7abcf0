-- The longest run in the text of the other's names is of the names that both go on with.
use Rattle.std.proofs.Common.{◌≡◌, ℕ, List, drop, subst}
use Rattle.std.proofs.lemmas.List.Elements.{All-drop}
use Rattle.events.specs.Names.{NameBytes, IsName}
use Rattle.events.specs.Packed.{spaced}
use Rattle.events.specs.Runs.{IsLongestRun}
use Rattle.events.proofs.SameNames.{fronts, others-within, none-more}
use Rattle.events.proofs.response.Response.same_names.Goals as goal

longest-in : (text : List ℕ) (names others : List NameBytes) (n bytes : ℕ) → text ≡ spaced others
    → IsLongestRun text names n bytes → IsLongestRun (spaced others) names n bytes
longest-in text names others n bytes is h = subst (λ t. IsLongestRun t names n bytes) is h

pub returns : goal.returns
returns c =
    let longest =
    longest-in c.text_from.result.now (drop c.args.i c.args.self.now) (drop c.args.j c.args.other.now)
    c.run_in.result.names c.run_in.result.bytes c.text_from.ensures.text c.run_in.ensures.longest in
    let named = All-drop IsName c.args.i c.args.self.now c.run_in.ensures.names in
    let others_named = All-drop IsName c.args.j c.args.other.now c.text_from.ensures.names in
    record {
      within = (longest.within, others-within _ _ named others_named _ _ longest);
      same = fronts _ _ named others_named _ _ longest;
      most = none-more _ _ named others_named _ _ longest;
    }
