-- How a rehearsal ends, from what its threads told.
use Rattle.std.proofs.Common.{◌≡◌, ℕ, ◌<◌, ◌+◌, nat_eq, Bool, true, false, Option, Some, None, List, [], ◌∷◌}
use Rattle.std.proofs.Common.{◌++◌, map, length, refl, sym, ap, subst, ◌∙◌, append-nil, length-append, arith}
use Rattle.std.proofs.Common.{All, true≢false, ne_eqb}
use Rattle.std.specs.Prelude.{Result, Ok, Err, IfOk, IfErr, IsErrOf}
use Rattle.std.proofs.lemmas.List.Elements.{All-nil, All-cons, All-head, All-tail}
use mathlib.Core.Logic.{dite}
use native.Mathlib.Decide.{ℕ_discrete}
use Rattle.events.specs.History.{History}
use Rattle.verdict.specs.declared.verdict.Verdict.{Verdict}
use Rattle.level_search.specs.declared.search_fault.SearchFault.{SearchFault}
use Rattle.sessions.specs.Prefixes.{HasPrefix}
use Rattle.sessions.specs.Shown.{ObserverShown, PassShown, Which}
use Rattle.sessions.specs.Watches.{AreVerdicts}
use Rattle.rehearsal.specs.Ends.{EndsWith, HasEnded, IsEndOf, MayEnd}
use Rattle.rehearsal.specs.Faults.{replay_fault, fault_of_all}
use Rattle.rehearsal.specs.Foremost.{foremost_of_all}
use Rattle.rehearsal.specs.Joined.{HasJoined}
use Rattle.rehearsal.specs.Opened.{AreOpened}
use Rattle.rehearsal.specs.Replays.{AreReplayed, HasStalled, HaveActed}
use Rattle.rehearsal.specs.Watched.{HasJudged, HasWatched, WasWatched}
use Rattle.rehearsal.specs.declared.fault.RehearsalFault.{RehearsalFault}
use Rattle.rehearsal.specs.declared.fault.RehearsalFault.TheVariants as fault
use Rattle.rehearsal.specs.declared.recorder.Told.{Told}
use Rattle.rehearsal.specs.declared.rehearsing.Returns.{Returns}
use Rattle.rehearsal.specs.declared.team.Back.{Back}
use Rattle.rehearsal.specs.declared.watcher.Watched.{Watched}
use Rattle.rehearsal.proofs.Joined.{IsFresh, end-none, end-stalled, end-workers, joined-replayed}
use Rattle.rehearsal.proofs.Joined.{joined-workers, stalled-among}

-- a prefix that is as long as the whole
pub prefix-whole : {X : Type 0} (xs ys : List X) → HasPrefix xs ys → length ys ≡ length xs → ys ≡ xs
prefix-whole xs ys (([], e)) same = sym (append-nil ys) ∙ e
prefix-whole xs ys ((r ∷ rest, e)) same =
    let longer : length ys + length (r ∷ rest) ≡ length xs =
    sym (length-append ys (r ∷ rest)) ∙ ap length e in
    absurd (omega arith)

module _ (h : History) (before : List PassShown) where
  ends-with : (passes : List PassShown) (back : Back) (watch : Result (List Verdict) SearchFault)
      (whole : Bool) (f : RehearsalFault) → HasJoined h passes back
      → HasPrefix before passes → whole ≡ nat_eq (length passes) (length before)
      → fault_of_all back.fault watch whole ≡ Some f → EndsWith h before f
  ends-with passes back watch whole f j first is_whole e = record {
    passes = passes;
    tolds = j.tolds;
    watch = watch;
    started = first;
    told = j.told;
    foremost = sym (ap (λ a. fault_of_all a watch (nat_eq (length passes) (length before))) j.fault_is)
        ∙ sym (ap (fault_of_all back.fault watch) is_whole) ∙ e;
  }

  -- all threads have ended
  pub may-end : (passes : List PassShown) (back : Back) (watch : Result (List Verdict) SearchFault)
      (whole : Bool) (f : RehearsalFault) → HasJoined h passes back
      → HasPrefix before passes → whole ≡ nat_eq (length passes) (length before)
      → fault_of_all back.fault watch whole ≡ Some f → MayEnd h before f
  may-end passes back watch whole fault.Workers j first is_whole e =
      joined-workers h passes back j (end-workers back.fault watch whole e)
  may-end passes back watch whole fault.Thread j first is_whole e =
      ends-with passes back watch whole fault.Thread j first is_whole e
  may-end passes back watch whole fault.Stalled j first is_whole e =
      ends-with passes back watch whole fault.Stalled j first is_whole e
  may-end passes back watch whole fault.Memory j first is_whole e = tt

  -- no thread could be started
  pub unstarted : 0 < length before → MayEnd h before fault.Thread
  unstarted some = record {
    passes = [];
    tolds = [];
    watch = Ok [];
    started = (before, refl);
    told = tt;
    foremost = none before some;
  }
    where
      none : (ps : List PassShown) → 0 < length ps
          → fault_of_all {A = List Verdict} None (Ok []) (nat_eq 0 (length ps)) ≡ Some fault.Thread
      none [] some = absurd (omega arith)
      none (p ∷ ps) some =
          ap (λ (b : Bool). fault_of_all {A = List Verdict} None (Ok []) b)
          (ne_eqb 0 (length (p ∷ ps)) (λ (e : 0 ≡ length (p ∷ ps)). omega arith))

-- what may end the threads ends the rehearsal
pub end-of : (h : History) (session : Which) (before : List PassShown) (f : RehearsalFault)
    → session.replicas ≡ h.replicas → AreOpened session before → MayEnd h before f → IsEndOf h f
end-of h session before fault.Workers replicas opened ends = absurd ends
end-of h session before fault.Thread replicas opened ends = tt
end-of h session before fault.Stalled replicas opened ends =
    record { session = session; replicas = replicas; before = before; opened = opened; ends = ends }
end-of h session before fault.Memory replicas opened ends = tt

all-front : {X : Type 0} (P : X → Type 0) (xs ys : List X) → All P (xs ++ ys) → All P xs
all-front P [] ys all = All-nil P
all-front P (x ∷ xs) ys all =
    All-cons P x xs (All-head P x (xs ++ ys) all) (all-front P xs ys (All-tail P x (xs ++ ys) all))

-- the passes that recorders were started with
begun-of : (h : History) (session : Which) (before passes : List PassShown) → session.replicas ≡ h.replicas
    → AreOpened session before → HasPrefix before passes → All (IsFresh h) passes
begun-of h session before passes replicas opened first =
    all-front (IsFresh h) passes first.0
    (subst (All (IsFresh h)) (sym first.1)
    (λ k d less. (
      ap (λ (s : Which). s.replicas) (opened.of_session k d less) ∙ replicas,
      opened.fresh k d less,
    )))

-- where it is that one stalled, a recorder's replay has
end-stalled-of : (h : History) (f : RehearsalFault) → IsEndOf h f → f ≡ fault.Stalled → HasStalled h
end-stalled-of h fault.Workers ends e = absurd cc
end-stalled-of h fault.Thread ends e = absurd cc
end-stalled-of h fault.Stalled ends e =
    let w = ends.ends in
    stalled-among h w.passes w.tolds
    (begun-of h ends.session ends.before w.passes ends.replicas ends.opened w.started) w.told
    (end-stalled (foremost_of_all (map (λ (t : Told). replay_fault t.answer) w.tolds)) w.watch
    (nat_eq (length w.passes) (length ends.before)) w.foremost)
end-stalled-of h fault.Memory ends e = absurd cc

-- the same, where that fault is answered
pub stalled-of-end : {A : Type 0} (h : History) (session : Which) (before : List PassShown)
    (r : Result A RehearsalFault) (f : RehearsalFault) → session.replicas ≡ h.replicas
    → AreOpened session before → MayEnd h before f → r ≡ Err f → IsErrOf r fault.Stalled → HasStalled h
stalled-of-end h session before r f replicas opened ends is stalled =
    let same : f ≡ fault.Stalled = cc in
    end-stalled-of h f (end-of h session before f replicas opened ends) same

same-of : (a b : ℕ) → nat_eq a b ≡ true → a ≡ b
same-of a b e = dite (ℕ_discrete a b) (λ same. same) (λ other. absurd (true≢false (sym e ∙ ne_eqb a b other)))

module _ (h : History) (before : List PassShown) (old : ObserverShown) where
  -- where no fault is answered all have replayed, and the watcher has judged
  pub acted-of : (passes : List PassShown) (back : Back) (watched : Watched) (whole : Bool)
      (r : Result Returns RehearsalFault) → HasJoined h passes back
      → HasPrefix before passes → whole ≡ nat_eq (length passes) (length before) → HasWatched old watched
      → IfOk r (λ returns. fault_of_all back.fault watched.answer whole ≡ None)
      → IfOk r (λ returns. (returns.passes.items ≡ back.passes.items) × (returns.observer ≡ watched.observer)
      × (watched.answer ≡ Ok returns.verdicts))
      → IfOk r (HaveActed h old before)
  acted-of passes back watched whole (Err f) j first is_whole w none same = tt
  acted-of passes back watched whole (Ok returns) j first is_whole w none same =
      let both = end-none back.fault watched.answer whole none in
      let all : passes ≡ before =
      prefix-whole before passes first
      (same-of (length passes) (length before) (sym is_whole ∙ both.1)) in
      let replayed = joined-replayed h passes back j both.0 in
      let judged : IfOk {E = SearchFault} (Ok returns.verdicts)
      (λ verdicts. HasJudged old verdicts watched.observer) =
      subst (λ (a : Result (List Verdict) SearchFault). IfOk a
      (λ verdicts. HasJudged old verdicts watched.observer)) same.2 w.judged in (
        subst (λ (ps : List PassShown). AreReplayed h ps returns.passes.items) all
            (subst (AreReplayed h passes) (sym same.0) replayed),
        subst (HasJudged old returns.verdicts) (sym same.1) judged,
      )

  pub ended-of : (passes : List PassShown) (back : Back) (watched : Watched) (whole : Bool)
      (r : Result Returns RehearsalFault) → HasJoined h passes back
      → HasPrefix before passes → whole ≡ nat_eq (length passes) (length before)
      → IfErr r (λ f. fault_of_all back.fault watched.answer whole ≡ Some f) → IfErr r (MayEnd h before)
  ended-of passes back watched whole (Ok returns) j first is_whole fault = tt
  ended-of passes back watched whole (Err f) j first is_whole fault =
      may-end h before passes back watched.answer whole f j first is_whole fault

-- the lists judged are of what is recorded in the end
pub watched-of : (session : Which) (closed : History) (verdicts : List Verdict) (old new : ObserverShown)
    → old ≡ record { session = session; seen = [] }
    → closed.replicas ≡ session.replicas → HasJudged old verdicts new → HasPrefix closed.entries new.seen
    → WasWatched closed verdicts
watched-of session closed verdicts old new fresh replicas judged begins = record {
  last = new.seen;
  count = judged.count;
  verdicts_are =
      subst (λ (n : ℕ). AreVerdicts n [] verdicts new.seen) (sym replicas)
      (subst (λ (o : ObserverShown). AreVerdicts o.session.replicas o.seen verdicts new.seen) fresh
      judged.verdicts_are);
  begins = begins;
}
