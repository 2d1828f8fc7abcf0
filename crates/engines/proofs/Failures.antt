-- How the streams failed of the calls that an engine made.
use Rattle.std.proofs.Common.{◌≡◌, ◌≤◌, ◌⊎◌, ◌<◌, ◌+◌, ◌++◌, ◌∷◌, ◌∙◌, [], ℕ, List, None, true, false, true≢false}
use Rattle.std.proofs.Common.{Result, Ok, Err, IfErr, ap, append_assoc, arith, inl, inr, length, length-append, refl, subst, sym}
use Rattle.std.specs.Prelude.{IsErr, OnErr, is_ok}
use Rattle.std.specs.Result.{IsErrAnd}
use Rattle.std.proofs.lemmas.Result.{err_from_is_err_and}
use Rattle.std.proofs.Math.Nat.{eq-or-lt_of_le}
use Rattle.byte_streams.specs.Streams.{SourceState, SinkState, ReadCall, WriteCall, IsClosed, IsOpen, Makes}
use Rattle.byte_streams.specs.Streams.{HaveCome, HaveTaken, EndInFailure, EndInRefusal}
use Rattle.byte_streams.specs.Wholes.{EndedBy, TakenAs, TakenInPart}
use Rattle.byte_streams.specs.declared.source.ReadFault.{ReadFault}
use Rattle.byte_streams.specs.declared.source.ReadFault.TheVariants.{Read}
use Rattle.byte_streams.proofs.Calls.{Makes-trans, ReadSoFar, is-false, none-made, read-failed}
use Rattle.engines.specs.declared.status.RunFault.{RunFault}
use Rattle.engines.specs.declared.status.RunFault.TheVariants as run
use Rattle.engines.specs.Failures.{FailsToRead, FailsToWrite, HasReadOn, ReadsInVain, WritesInVain}

-- the source, after reads that gave something each
pub record IsStill (old now : SourceState) : Type 0 where
  pub closed : IsClosed old → now ≡ old
  pub ended : old.ended ≡ true → now ≡ old
  pub goes_on : IsOpen old → (now.failed ≡ false) × (now.ended ≡ false) × (now.reads ≤ 268435456)

pub still-first : (state : SourceState) → IsStill state state
still-first state = record {
  closed = λ _. refl;
  ended = λ _. refl;
  goes_on = λ ready. (ready.1, ready.0, omega (arith, ready.2));
}

pub open-not-closed : (state : SourceState) → IsOpen state → IsClosed state → ⊥
open-not-closed state ready shut =
    elim (shut.1) [
      | inl failed ↦ true≢false (sym failed ∙ ready.1)
      | inr full ↦ omega (arith, full, ready.2)
    ]

pub still-more : (old now new : SourceState) → IsStill old now → IsOpen now → new.failed ≡ false
    → new.ended ≡ false → new.reads ≡ now.reads + 1 → IsStill old new
still-more old now new still ready failed ended one = record {
  closed = λ shut. absurd (open-not-closed now ready (subst IsClosed (sym (still.closed shut)) shut));
  ended = λ done. absurd (true≢false (sym (ap (λ s. s.ended) (still.ended done) ∙ done) ∙ ready.0));
  goes_on = λ _. (failed, ended, omega (arith, one, ready.2));
}

-- what is open now was handed in open
pub open-before : (old now : SourceState) (text : List ℕ) → IsStill old now → ReadSoFar old now text
    → IsOpen now → IsOpen old
open-before old now text still read ready =
    let ended : old.ended ≡ false =
    is-false old.ended
    (λ done. true≢false (sym (ap (λ s. s.ended) (still.ended done) ∙ done) ∙ ready.0)) in (
      ended,
      is-false old.failed
          (λ failed. true≢false (sym (ap (λ s. s.failed) (still.closed (
            ended,
            inl failed,
          )) ∙ failed) ∙ ready.1)),
      omega (arith, read.count, ready.2),
    )

-- the read behind those failed, or was not made
pub fails-to-read : (old now new : SourceState) (text : List ℕ) (asked : ℕ) → IsStill old now
    → ReadSoFar old now text → IsClosed new → (now.ended ≡ true → ⊥) → (IsClosed now → new ≡ now)
    → (IsOpen now
    → (new.reads ≡ now.reads + 1) × Makes now.calls new.calls (record { asked = asked; came = None } ∷ []))
    → FailsToRead old new
fails-to-read old now new text asked still read closes goes_on shut one = record {
  closes = closes;
  ended = is-false old.ended (λ done. goes_on (ap (λ s. s.ended) (still.ended done) ∙ done));
  vain = λ ready. let is = still.goes_on ready in
      elim (eq-or-lt_of_le is.2) [
        | inl full ↦ let same = shut (is.1, inr full) in
            let all : ReadSoFar old new text = subst (λ s. ReadSoFar old s text) (sym same) read in
            (all.calls, all.made, all.count, inr (all.came, ap (λ s. s.reads) same ∙ full))
        | inr under ↦ let all = read-failed old now new text asked read (one (is.1, is.0, under)) in
            (all.0, all.1, all.2, inl all.3)
      ];
  closed = λ was. let same = still.closed was in shut (subst IsClosed (sym same) was) ∙ same;
}

-- a whole text was read in vain
pub ended-in-vain : (before after : SourceState) (fault : ReadFault) → fault ≡ Read
    → (calls : List ReadCall) × Makes before.calls after.calls calls
    × (after.reads ≡ before.reads + length calls) × EndedBy fault after.reads calls
    → ReadsInVain before after
ended-in-vain before after fault is made =
    let ends : EndedBy fault after.reads made.0 = made.3 in
    (made.0, made.1, made.2, subst (λ f. EndedBy f after.reads made.0) is ends)

-- a read gave a piece, behind those that gave something too
pub has-read-on : (old now new : SourceState) (text more : List ℕ) → IsStill old now → ReadSoFar old now text
    → ReadSoFar old new more → IsOpen now → new.failed ≡ false → new.ended ≡ false
    → new.reads ≡ now.reads + 1 → HasReadOn old new
has-read-on old now new text more still read all ready failed ended one = record {
  ready = open-before old now text still read ready;
  failed = failed;
  ended = ended;
  limit = omega (arith, one, ready.2);
  calls = all.calls;
  made = all.made;
  count = all.count;
  came = all.came;
}

came-behind : (calls more : List ReadCall) → HaveCome calls → HaveCome more → HaveCome (calls ++ more)
came-behind [] more all others = others
came-behind (call ∷ calls) more all others = (all.0, came-behind calls more all.1 others)

failed-behind : (calls more : List ReadCall) → HaveCome calls → EndInFailure more
    → EndInFailure (calls ++ more)
failed-behind calls more all fails = (
  calls ++ fails.0,
  fails.1,
  ap (λ l. calls ++ l) fails.2 ∙ sym (append_assoc calls fails.0 _),
  came-behind calls fails.0 all fails.3,
)

-- the reads behind those that went on failed
pub fails-behind : (old mid new : SourceState) → (mid.ended ≡ true) ⊎ HasReadOn old mid
    → FailsToRead mid new → FailsToRead old new
fails-behind old mid new (inl done) fails = absurd (true≢false (sym done ∙ fails.ended))
fails-behind old mid new (inr went) fails = record {
  closes = fails.closes;
  ended = went.ready.0;
  vain = λ _. elim (eq-or-lt_of_le went.limit) [
    | inl full ↦ let same = fails.closed (went.ended, inr full) in
        let all : HasReadOn old new = subst (HasReadOn old) (sym same) went in
        (all.calls, all.made, all.count, inr (all.came, ap (λ s. s.reads) same ∙ full))
    | inr under ↦ let vain = fails.vain (went.ended, went.failed, under) in (
      went.calls ++ vain.0,
      Makes-trans old.calls mid.calls new.calls went.calls vain.0 went.made vain.1,
      omega (arith, went.count, vain.2, length-append went.calls vain.0),
      elim (vain.3) [
        | inl last ↦ inl (failed-behind went.calls vain.0 went.came last)
        | inr full ↦ inr (came-behind went.calls vain.0 went.came full.0, full.1)
      ],
    )
  ];
  closed = λ shut. absurd (open-not-closed old went.ready shut);
}

-- nothing is written to a sink that is closed
pub stays-shut : {P Q : Type 0} (bytes : List ℕ) (old new : SinkState) → (0 < length bytes → P × (new ≡ old))
    → (bytes ≡ [] → Q × (new ≡ old)) → new ≡ old
stays-shut [] old new some none = (none refl).1
stays-shut (byte ∷ bytes) old new some none = (some (omega arith)).1

-- the sink, after writes that took something each
pub record IsWritten (old now : SinkState) : Type 0 where
  pub failed : now.failed ≡ old.failed
  pub closed : old.failed ≡ true → now ≡ old
  pub wrote : old.failed ≡ false → (calls : List WriteCall) × Makes old.calls now.calls calls
      × HaveTaken calls

pub written-first : (state : SinkState) → IsWritten state state
written-first state = record {
  failed = refl;
  closed = λ _. refl;
  wrote = λ _. ([], none-made state.calls, tt);
}

took-behind : (calls more : List WriteCall) → HaveTaken calls → HaveTaken more → HaveTaken (calls ++ more)
took-behind [] more all others = others
took-behind (call ∷ calls) more all others = (all.0, took-behind calls more all.1 others)

refused-behind : (calls more : List WriteCall) → HaveTaken calls → EndInRefusal more
    → EndInRefusal (calls ++ more)
refused-behind calls more all fails = (
  calls ++ fails.0,
  fails.1,
  ap (λ l. calls ++ l) fails.2 ∙ sym (append_assoc calls fails.0 _),
  fails.3,
  took-behind calls fails.0 all fails.4,
)

-- a whole text more
pub written-more : (old now new : SinkState) (bytes : List ℕ) → IsWritten old now → new.failed ≡ now.failed
    → (now.failed ≡ false
    → (calls : List WriteCall) × Makes now.calls new.calls calls × TakenAs bytes calls)
    → (now.failed ≡ true → new ≡ now) → IsWritten old new
written-more old now new bytes before same more shut = record {
  failed = same ∙ before.failed;
  closed = λ was. shut (before.failed ∙ was) ∙ before.closed was;
  wrote = λ fine. let first = before.wrote fine in
      let next = more (before.failed ∙ fine) in
      let taken : TakenAs bytes next.0 = next.2 in (
        first.0 ++ next.0,
        Makes-trans old.calls now.calls new.calls first.0 next.0 first.1 next.1,
        took-behind first.0 next.0 first.2 taken.0,
      );
}

-- a text that was not taken whole
pub fails-to-write : (old now new : SinkState) (bytes : List ℕ) → IsWritten old now → new.failed ≡ true
    → (now.failed ≡ false
    → (calls : List WriteCall) × Makes now.calls new.calls calls × TakenInPart bytes calls)
    → (now.failed ≡ true → new ≡ now) → FailsToWrite old new
fails-to-write old now new bytes before failed more shut = record {
  vain = λ fine. let first = before.wrote fine in
      let next = more (before.failed ∙ fine) in
      let part : TakenInPart bytes next.0 = next.2 in (
        failed,
        (
          first.0 ++ next.0,
          Makes-trans old.calls now.calls new.calls first.0 next.0 first.1 next.1,
          refused-behind first.0 next.0 first.2 part.0,
        ),
      );
  closed = λ was. shut (before.failed ∙ was) ∙ before.closed was;
}

pub ok-is-err : {A E : Type 0} {a : A} {e : E} → Ok a ≡ Err e → ⊥
ok-is-err same = true≢false (ap is_ok same)

abbrev pub fault-of : {A : Type 0} → Result A RunFault → RunFault
fault-of (Ok a) = run.Read
fault-of (Err fault) = fault

-- that a call could not read is handed on
pub handed-read : {A B : Type 0} {given : RunFault} (answer : Result B RunFault) (first : Result A RunFault)
    → IsErrAnd answer (λ fault. fault ≡ given) → fault-of first ≡ given → first ≡ Err run.Read
    → answer ≡ Err run.Read
handed-read answer first is gave same =
    let p = err_from_is_err_and answer is in
    p.1 ∙ ap Err (p.2 ∙ sym gave ∙ ap fault-of same)

pub is-err : {A E : Type 0} (P : E → Type 0) (answer : Result A E) → IsErrAnd answer P → IsErr answer
is-err P (Ok a) is = absurd is
is-err P (Err e) is = refl

-- what is so where an output was not taken whole, and what is so before it is written
pub not-taken : {A : Type 0} (X Y : Type 0) (answer : Result A RunFault) → OnErr answer X → Y
    → IfErr answer (λ fault. fault ≡ run.Write → X × Y)
not-taken X Y (Ok a) fails before = tt
not-taken X Y (Err fault) fails before = λ _. (fails, before)
