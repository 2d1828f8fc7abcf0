use Rattle.std.proofs.Common.{rules, arith, ◌≡◌, ◌<◌, List, All, ◌++◌, ◌∷◌, [], length, vec_len, map, refl}
use Rattle.std.proofs.Common.{sym, ap, subst, ◌∙◌, append_assoc, length-append}
use Rattle.std.proofs.lemmas.Grind.{common_steps}
use Rattle.std.proofs.lemmas.List.{map-append}
use Rattle.std.proofs.lemmas.List.Elements.{All-tail, All-head}
use Rattle.std.specs.declared.thread.PromisedHandle.{PromisedHandle}
use Rattle.events.specs.History.{History}
use Rattle.sessions.specs.Shown.{PassShown}
use Rattle.rehearsal.specs.Joined.{HasJoined}
use Rattle.rehearsal.specs.Replays.{HasReplayed}
use Rattle.rehearsal.specs.declared.recorder.Told.{Told}
use Rattle.rehearsal.specs.declared.recorder.Replayed.{Replayed}
use Rattle.rehearsal.proofs.Joined.{joined-none, joined-more}
use Rattle.rehearsal.proofs.Passes.{first_and_rest}
use Rattle.rehearsal.proofs.team.joined.Goals as goal

pub loop-handles-init : goal.loop-handles-init
loop-handles-init g c = (
  [],
  refl,
  joined-none c.args.recording.now _ c.requires.empty refl,
  omega (arith, c.requires.room, ap length c.requires.empty, c.args.room.ok.0),
  c.requires.recording,
)

pub loop-handles-preserved : goal.loop-handles-preserved
loop-handles-preserved g c =
    let inv = c.loop-handles.invariant in
    let ok = c.loop-handles.handles.ok.0 in
    let some : 0 < vec_len c.loop-handles.handles = grind (arith, c.loop-handles-test.ensures) in
    let handle = c.remove.result in
    let rest = c.remove.new.self.items in
    let left =
    first_and_rest c.loop-handles.handles.items rest handle
    (omega (arith, ok, some)) c.remove.ensures.value c.remove.ensures.items in
    let h : History = c.args.recording.now in
    let R : PromisedHandle Told Replayed → Type 0 = λ p. p.promise.recording.value ≡ h in
    let pass : PromisedHandle Told Replayed → PassShown = λ p. p.promise.pass.value in
    let all : All R (handle ∷ rest) = subst (All R) left inv.4 in
    let told : HasReplayed h (pass handle) c.join-told.result =
    subst (λ (k : History). HasReplayed k (pass handle) c.join-told.result)
    (All-head R handle rest all) c.join-told.ensures in (
      inv.0 ++ handle ∷ [],
      inv.1 ∙ (ap (λ l. inv.0 ++ l) left ∙ sym (append_assoc inv.0 (handle ∷ []) rest)),
      subst (λ (l : List PassShown). HasJoined h l c.take_back.new.back)
          (sym (map-append pass inv.0 (handle ∷ [])))
          (joined-more h (map pass inv.0) (pass handle) c.join-told.result c.loop-handles.back
          c.take_back.new.back inv.2 told c.take_back.ensures.passes c.take_back.ensures.fault),
      omega (
        arith,
        inv.3,
        ok,
        c.remove.new.self.ok.0,
        ap length left,
        c.take_back.ensures.room,
        c.loop-handles.back.passes.ok.0,
        c.take_back.new.back.passes.ok.0,
        ap length c.take_back.ensures.passes,
        length-append c.loop-handles.back.passes.items (c.join-told.result.pass ∷ []),
      ),
      All-tail R handle rest all,
    )
