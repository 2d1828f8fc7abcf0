-- What was done, put together from its parts.
use Rattle.std.proofs.Common.{◌≡◌, ◌∙◌, ◌∷◌, [], ℕ, Err, List, Option, Result, ap, inl, inr, refl, subst, sym}
use Rattle.byte_streams.specs.Streams.{SourceState, SinkState, Makes}
use Rattle.byte_streams.proofs.Calls.{Makes-trans}
use Rattle.finder_cli.specs.Deeds.{Deed, IsFresh, closed, missed, opened}
use Rattle.finder_cli.specs.Engines.{Checks}
use Rattle.finder_cli.specs.Programs.{ChecksOn, RunsOn, answer_on}
use Rattle.engines.specs.declared.status.Status.{Status}
use Rattle.engines.specs.declared.status.RunFault.{RunFault}
use Rattle.finder_cli.specs.declared.fault.ProgramFault.{ProgramFault}
use Rattle.finder_cli.specs.declared.fault.ProgramFault.TheVariants as program

-- an engine went on an opened stream, which was closed then
pub ran-on : (Engine : SourceState → SourceState → SinkState → SinkState → Result Status RunFault
    → Type 0) (text : List ℕ → Option (List ℕ)) (word file : List ℕ)
    (start middle end : Option (List Deed)) (before after : SourceState) (old new : SinkState)
    (ran : Result Status RunFault) (answer : Result Status ProgramFault)
    → word ≡ file → IsFresh before × (before.bytes ≡ text word) → Engine before after old new ran
    → answer ≡ answer_on file ran
    → Makes start middle (opened word before ∷ []) → Makes middle end (closed after ∷ [])
    → (deeds : List Deed) × RunsOn Engine text file deeds old new answer × Makes start end deeds
ran-on Engine text word file start middle end before after old new ran answer same fresh went is first
    second = (
      opened file before ∷ closed after ∷ [],
      inr (before, after, ran, fresh.0, fresh.1 ∙ ap text same, went, refl, is),
      Makes-trans start middle end (opened file before ∷ []) (closed after ∷ [])
          (subst (λ w. Makes start middle
          (opened w before ∷ [])) same first) second,
    )

-- the trace was opened and the certificate was not, and the trace was closed
pub missed-other : (text now_text : List ℕ
    → Option (List ℕ)) (word file other_word cert : List ℕ) (start middle late end : Option (List Deed))
    (before : SourceState) (sink : SinkState)
    → word ≡ file → other_word ≡ cert → IsFresh before × (before.bytes ≡ text word)
    → Makes start middle (opened word before ∷ []) → Makes middle late (missed other_word ∷ [])
    → Makes late end (closed before ∷ [])
    → (deeds : List Deed) × ChecksOn text file cert deeds sink sink (Err (program.Read cert))
    × Makes start end deeds
missed-other text now_text word file other_word cert start middle late end before sink same same_other fresh
    first second third = (
      opened file before ∷ missed cert ∷ closed before ∷ [],
      inr (inl (before, fresh.0, fresh.1 ∙ ap text same, refl, refl, refl)),
      Makes-trans start middle end (opened file before ∷ []) (missed cert ∷ closed before ∷ []) (subst
          (λ w. Makes start middle (opened w before ∷ [])) same first)
          (Makes-trans middle late end (missed cert ∷ []) (closed before ∷ []) (subst (λ w. Makes middle late
          (missed w ∷ [])) same_other second) third),
    )

-- the checker went on both streams, which were closed then
pub checked-on : (text now_text : List ℕ
    → Option (List ℕ)) (word file other_word cert : List ℕ) (start middle both half end : Option (List Deed))
    (trace trace_after other other_after : SourceState) (old new : SinkState) (ran : Result Status RunFault)
    (answer : Result Status ProgramFault)
    → word ≡ file → other_word ≡ cert → now_text ≡ text → IsFresh trace × (trace.bytes ≡ text word)
    → IsFresh other × (other.bytes ≡ now_text other_word)
    → Checks trace trace_after other other_after old new ran → answer ≡ answer_on file ran
    → Makes start middle (opened word trace ∷ []) → Makes middle both (opened other_word other ∷ [])
    → Makes both half (closed trace_after ∷ []) → Makes half end (closed other_after ∷ [])
    → (deeds : List Deed) × ChecksOn text file cert deeds old new answer × Makes start end deeds
checked-on text now_text word file other_word cert start middle both half end trace trace_after other
    other_after old new ran answer same same_other stays fresh fresh_other went is first second third
    fourth = (
      opened file trace ∷ opened cert other ∷ closed trace_after ∷ closed other_after ∷ [],
      inr (inr (
        trace,
        trace_after,
        other,
        other_after,
        ran,
        fresh.0,
        fresh.1 ∙ ap text same,
        fresh_other.0,
        fresh_other.1 ∙ ap (λ t. t other_word) stays ∙ ap text same_other,
        went,
        refl,
        is,
      )),
      Makes-trans start middle end (opened file trace ∷ [])
          (opened cert other ∷ closed trace_after ∷ closed other_after ∷ []) (subst (λ w. Makes start middle
          (opened w trace ∷ [])) same first)
          (Makes-trans middle both end (opened cert other ∷ []) (closed trace_after ∷ closed other_after ∷ [])
          (subst (λ w. Makes middle both (opened w other ∷ [])) same_other second)
          (Makes-trans both half end (closed trace_after ∷ []) (closed other_after ∷ []) third fourth)),
    )
