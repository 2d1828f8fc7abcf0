-- What recorders that were joined one after the other told, and what follows from the fault that is answered.
use Rattle.std.proofs.Common.{◌≡◌, ℕ, inl, inr, All, Bool, true, false, Option, Some, None, List, [], ◌∷◌}
use Rattle.std.proofs.Common.{◌++◌, map, refl, sym, ap, ◌∙◌, subst}
use Rattle.std.specs.Prelude.{◌⊎◌, IsOk, Result, Ok, Err}
use Rattle.std.specs.List.{AllZip}
use Rattle.std.proofs.lemmas.List.{map-append}
use Rattle.std.proofs.lemmas.List.Elements.{All-head, All-tail}
use Rattle.events.specs.History.{History}
use Rattle.events.specs.declared.refusal.Refusal.TheVariants.{NoReplica, OwnReceipt, NotYet, EntriesFull}
use Rattle.events.specs.declared.refusal.Refusal.TheVariants.{InsertsFull, LongResponse, PlacesFull, Memory}
use Rattle.sessions.specs.Shown.{PassShown, mine}
use Rattle.sessions.specs.declared.replaying.ReplayFault.{ReplayFault}
use Rattle.sessions.specs.declared.replaying.ReplayFault.TheVariants.{Stalled, Refused}
use Rattle.level_search.specs.declared.search_fault.SearchFault.{SearchFault}
use Rattle.specification.proofs.Members.{In}
use Rattle.rehearsal.specs.Faults.{replay_fault, watch_fault, start_fault, fault_of_all}
use Rattle.rehearsal.specs.Foremost.{foremost_of, foremost_of_all}
use Rattle.rehearsal.specs.Joined.{HasJoined}
use Rattle.rehearsal.specs.Replays.{AreReplayed, HasReplayed, HasStalled, HaveTold}
use Rattle.rehearsal.specs.declared.fault.RehearsalFault.TheVariants as fault
use Rattle.rehearsal.specs.declared.recorder.Told.{Told}
use Rattle.rehearsal.specs.declared.team.Back.{Back}
use Rattle.rehearsal.proofs.Faults.{foremost-among, foremost-either, foremost-more, foremost-none}
use Rattle.rehearsal.proofs.Faults.{foremost-of-none}
use Rattle.rehearsal.proofs.Passes.{replayed_whole}

is-ok : (r : Result ℕ ReplayFault) → replay_fault r ≡ None → IsOk r
is-ok (Ok n) e = refl
is-ok (Err (Stalled at)) e = absurd cc
is-ok (Err (Refused at NoReplica)) e = absurd cc
is-ok (Err (Refused at OwnReceipt)) e = absurd cc
is-ok (Err (Refused at (NotYet have))) e = absurd cc
is-ok (Err (Refused at EntriesFull)) e = absurd cc
is-ok (Err (Refused at InsertsFull)) e = absurd cc
is-ok (Err (Refused at LongResponse)) e = absurd cc
is-ok (Err (Refused at PlacesFull)) e = absurd cc
is-ok (Err (Refused at Memory)) e = absurd cc

never-workers : (r : Result ℕ ReplayFault) → replay_fault r ≡ Some fault.Workers → ⊥
never-workers (Ok n) e = cc
never-workers (Err (Stalled at)) e = cc
never-workers (Err (Refused at NoReplica)) e = cc
never-workers (Err (Refused at OwnReceipt)) e = cc
never-workers (Err (Refused at (NotYet have))) e = cc
never-workers (Err (Refused at EntriesFull)) e = cc
never-workers (Err (Refused at InsertsFull)) e = cc
never-workers (Err (Refused at LongResponse)) e = cc
never-workers (Err (Refused at PlacesFull)) e = cc
never-workers (Err (Refused at Memory)) e = cc

-- nothing is recorded by the pass, and its session has the recording's replicas
abbrev pub IsFresh : History → PassShown → Type 0
IsFresh h p = (p.session.replicas ≡ h.replicas) × (mine p ≡ [])

module _ (h : History) where
  zip-more : (ps : List PassShown) (ts : List Told) (p : PassShown) (t : Told) → HaveTold h ps ts
      → HasReplayed h p t → HaveTold h (ps ++ p ∷ []) (ts ++ t ∷ [])
  zip-more [] [] p t z one = (one, tt)
  zip-more [] (y ∷ ts) p t z one = absurd z
  zip-more (x ∷ ps) [] p t z one = absurd z
  zip-more (x ∷ ps) (y ∷ ts) p t z one = (z.0, zip-more ps ts p t z.1 one)

  pub joined-none : (back : Back) → back.passes.items ≡ [] → back.fault ≡ None → HasJoined h [] back
  joined-none back empty none = record { tolds = []; told = tt; passes_are = empty; fault_is = none }

  -- one recorder more
  pub joined-more : (ps : List PassShown) (p : PassShown) (told : Told) (old new : Back) → HasJoined h ps old
      → HasReplayed h p told
      → new.passes.items ≡ old.passes.items ++ told.pass ∷ []
      → new.fault ≡ foremost_of old.fault (replay_fault told.answer) → HasJoined h (ps ++ p ∷ []) new
  joined-more ps p told old new j one passes fault =
      let answer : Told → Option _ = λ t. replay_fault t.answer in
      record {
        tolds = j.tolds ++ told ∷ [];
        told = zip-more ps j.tolds p told j.told one;
        passes_are = passes ∙ ap (λ l. l ++ told.pass ∷ []) j.passes_are
            ∙ sym (map-append (λ (t : Told). t.pass) j.tolds (told ∷ []));
        fault_is =
            fault ∙ ap (λ f. foremost_of f (answer told)) j.fault_is
            ∙ sym (foremost-more (map answer j.tolds) (answer told))
            ∙ ap foremost_of_all (sym (map-append answer j.tolds (told ∷ [])));
      }

  all-replayed : (ps : List PassShown) (ts : List Told) → HaveTold h ps ts
      → ((a : Option _) → In a (map (λ (t : Told). replay_fault t.answer) ts) → a ≡ None)
      → AreReplayed h ps (map (λ (t : Told). t.pass) ts)
  all-replayed [] [] z none = tt
  all-replayed [] (t ∷ ts) z none = absurd z
  all-replayed (p ∷ ps) [] z none = absurd z
  all-replayed (p ∷ ps) (t ∷ ts) z none = (
    replayed_whole h p t z.0 (is-ok t.answer (none (replay_fault t.answer) (inl refl))),
    all-replayed ps ts z.1 (λ a i. none a (inr i)),
  )

  -- where no fault is answered all have replayed
  pub joined-replayed : (ps : List PassShown) (back : Back) → HasJoined h ps back → back.fault ≡ None
      → AreReplayed h ps back.passes.items
  joined-replayed ps back j none =
      subst (AreReplayed h ps) (sym j.passes_are)
      (all-replayed ps j.tolds j.told
      (foremost-of-none (map (λ (t : Told). replay_fault t.answer) j.tolds) (sym j.fault_is ∙ none)))

  stalled-in : (ps : List PassShown) (ts : List Told) → All (IsFresh h) ps → HaveTold h ps ts
      → In (Some fault.Stalled) (map (λ (t : Told). replay_fault t.answer) ts) → HasStalled h
  stalled-in [] [] all z i = absurd i
  stalled-in [] (t ∷ ts) all z i = absurd z
  stalled-in (p ∷ ps) [] all z i = absurd z
  stalled-in (p ∷ ps) (t ∷ ts) all z (inl e) =
      let fresh = All-head (IsFresh h) p ps all in
      record { old = p; told = t; replicas = fresh.0; fresh = fresh.1; replayed = z.0; is_stalled = sym e }
  stalled-in (p ∷ ps) (t ∷ ts) all z (inr i) = stalled-in ps ts (All-tail (IsFresh h) p ps all) z.1 i

  -- and where it is that one stalled, one has
  pub stalled-among : (ps : List PassShown) (ts : List Told) → All (IsFresh h) ps → HaveTold h ps ts
      → foremost_of_all (map (λ (t : Told). replay_fault t.answer) ts) ≡ Some fault.Stalled → HasStalled h
  stalled-among ps ts all told e =
      stalled-in ps ts all told
      (foremost-among (map (λ (t : Told). replay_fault t.answer) ts) fault.Stalled e)

  no-workers : (ts : List Told) → In (Some fault.Workers) (map (λ (t : Told). replay_fault t.answer) ts) → ⊥
  no-workers [] i = i
  no-workers (t ∷ ts) (inl e) = never-workers t.answer (sym e)
  no-workers (t ∷ ts) (inr i) = no-workers ts i

  pub joined-workers : (ps : List PassShown) (back : Back) → HasJoined h ps back
      → back.fault ≡ Some fault.Workers → ⊥
  joined-workers ps back j e =
      no-workers j.tolds
      (foremost-among (map (λ (t : Told). replay_fault t.answer) j.tolds) fault.Workers (sym j.fault_is ∙ e))

watch-memory : {A : Type 0} (w : Result A SearchFault) (f : Option _) → watch_fault w ≡ f
    → (f ≡ None) ⊎ (f ≡ Some fault.Memory)
watch-memory (Ok done) f e = inl (sym e)
watch-memory (Err x) f e = inr (sym e)

start-thread : (b : Bool) (f : Option _) → start_fault b ≡ f → (f ≡ None) ⊎ (f ≡ Some fault.Thread)
start-thread true f e = inl (sym e)
start-thread false f e = inr (sym e)

pub start-none : (b : Bool) → start_fault b ≡ None → b ≡ true
start-none true e = refl
start-none false e = absurd cc

module _ {A : Type 0} (a : Option _) (w : Result A SearchFault) (b : Bool) where
  -- at the end: none is answered where no recorder had one and all were started
  pub end-none : fault_of_all a w b ≡ None → (a ≡ None) × (b ≡ true)
  end-none e =
      let both = foremost-none (foremost_of a (watch_fault w)) (start_fault b) e in
      ((foremost-none a (watch_fault w) both.0).0, start-none b both.1)

  -- that one stalled is answered of a recorder alone
  pub end-stalled : fault_of_all a w b ≡ Some fault.Stalled → a ≡ Some fault.Stalled
  end-stalled e = elim (foremost-either (foremost_of a (watch_fault w)) (start_fault b) fault.Stalled e) [
    | inl first ↦ elim (foremost-either a (watch_fault w) fault.Stalled first) [
      | inl one ↦ one
      | inr watched ↦
          elim (watch-memory w (Some fault.Stalled) watched) [ inl x ↦ absurd cc | inr x ↦ absurd cc ]
    ]
    | inr started ↦
        elim (start-thread b (Some fault.Stalled) started) [ inl x ↦ absurd cc | inr x ↦ absurd cc ]
  ]

  pub end-workers : fault_of_all a w b ≡ Some fault.Workers → a ≡ Some fault.Workers
  end-workers e = elim (foremost-either (foremost_of a (watch_fault w)) (start_fault b) fault.Workers e) [
    | inl first ↦ elim (foremost-either a (watch_fault w) fault.Workers first) [
      | inl one ↦ one
      | inr watched ↦
          elim (watch-memory w (Some fault.Workers) watched) [ inl x ↦ absurd cc | inr x ↦ absurd cc ]
    ]
    | inr started ↦
        elim (start-thread b (Some fault.Workers) started) [ inl x ↦ absurd cc | inr x ↦ absurd cc ]
  ]
