-- One more body is recorded.
use Rattle.std.proofs.Common.{◌≡◌, ◌∙◌, ◌++◌, ◌∷◌, ◌+◌, [], List, ℕ, suc, take, ap, sym, rules, append_assoc}
use Rattle.std.proofs.Common.{arith}
use Rattle.std.specs.Prelude.{slice_get}
use Rattle.events.specs.History.{stream}
use Rattle.events.specs.declared.entry.Body.{Body}
use Rattle.sessions.specs.Shown.{PassShown, mine}
use Rattle.sessions.proofs.Lists.{prefix_through}
use Rattle.sessions.proofs.Replayed.{take_next}
use Rattle.sessions.proofs.session.Session.replay_with.Goals as goal

one_more : (n : ℕ) → n + 1 ≡ suc n
one_more n = omega arith

pub loop-at-preserved : goal.loop-at-preserved
loop-at-preserved g c =
    let inv = c.loop-at.invariant in
    let bodies : List Body = stream c.args.recording.now c.args.pass.now.replica in
    let one = c.in_default-replay_one.ensures.recorded in
    let at : c.pass.inside.replica ≡ c.args.pass.now.replica =
    ap (λ (p : PassShown). p.replica) c.pass.view_is in
    let next : take (c.loop-at.at + 1) bodies ≡ take c.loop-at.at bodies ++ c.in-Some.body.now ∷ [] =
    ap (λ (n : ℕ). take n bodies) (one_more c.loop-at.at) ∙ take_next bodies c.loop-at.at c.in-Some.body.now
    (c.in-Some.ensures ∙ ap (λ (r : ℕ). slice_get (stream c.args.recording.now r) c.loop-at.at) at) in
    record {
      begins =
          prefix_through c.replay_one.new.pass.seen c.loop-at.pass.seen c.args.pass.now.seen
          c.replay_one.ensures.begins inv.begins;
      mine = one
          ∙ (ap (λ (l : List Body). l ++ c.in-Some.body.now ∷ []) inv.mine
          ∙ (append_assoc (mine c.args.pass.now) (take c.loop-at.at bodies) (c.in-Some.body.now ∷ [])
          ∙ ap (λ (l : List Body). mine c.args.pass.now ++ l) (sym next)));
      same = search rules;
      told = c.replay_one.ensures.told;
    }
