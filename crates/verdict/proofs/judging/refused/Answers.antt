-- Where no order follows every response there is a conflict, and it is one of the recording's responses.
use Rattle.std.proofs.Common.{Option, subst}
use Rattle.std.specs.Prelude.{IfSome}
use Rattle.level_search.specs.Conflicts.{AreLooksIn, IsLeastConflict, IsWithinSearches}
use Rattle.level_search.specs.Looks.{AreCycleLooks}
use Rattle.level_search.specs.declared.conflict.Conflict.{Conflict}
use Rattle.specification.proofs.SoundResponses.{sound_responses_are_proper}
use Rattle.verdict.proofs.Refusals.{refusal-covers, some_conflict}
use Rattle.verdict.proofs.judging.refused.Goals as goal

pub unreachable-requires : goal.unreachable-requires
unreachable-requires c =
    some_conflict c.args.graph c.elements.ensures.proper c.requires.disordered
    (subst (IsLeastConflict c.args.graph) c.in-None.is c.requires.found)

pub returns-clause-verdict : goal.returns-clause-verdict
returns-clause-verdict c =
    let h = c.args.recording.now in
    let w = c.args.graph in
    refusal-covers h w c.requires.sound
    (sound_responses_are_proper h c.replicas.ensures.legal c.requires.sound) c.elements.ensures.proper
    c.requires.covered c.in-Some.conflict
    (subst (IsLeastConflict w) c.in-Some.is c.requires.found)

pub returns-clause-looked : goal.returns-clause-looked
returns-clause-looked c =
    let w = c.args.graph in
    record {
      for_number = c.in-Some.conflict.looked;
      for_cycle = c.in-Some.conflict.cycle_looked;
      number =
          subst (λ (o : Option Conflict). IfSome o (λ f. AreLooksIn w f.k f.looked)) c.in-Some.is
          c.requires.looked;
      few =
          subst (λ (o : Option Conflict). IfSome o (λ f. IsWithinSearches w f.looked)) c.in-Some.is
          c.requires.few;
      cycle =
          subst (λ (o : Option Conflict). IfSome o (λ f. AreCycleLooks w f.k f.cycle_looked)) c.in-Some.is
          c.requires.cycle;
      is_sum = c.saturating_add-looked.ensures;
    }
