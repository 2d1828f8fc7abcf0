-- The calls that were made so far, one more at a time.
use Rattle.std.proofs.Common.{◌≡◌, ℕ, ◌+◌, ◌++◌, ◌∷◌, ◌∙◌, [], List, Option, None, Some, unwrap_or, is_some}
use Rattle.std.proofs.Common.{Bool, true≢false, IsSome, zero, suc, ◌<◌, ◌-◌, true, false, drop, length, take}
use Rattle.std.proofs.Common.{refl, sym, ap, subst, arith, append_assoc, append-nil, length-append}
use Rattle.byte_streams.specs.Streams.{SourceState, SinkState, ReadCall, WriteCall, Makes, HaveCome}
use Rattle.byte_streams.specs.Streams.{HaveTaken, EndInFailure, all_that_came, all_that_was_taken}
use Rattle.byte_streams.specs.Streams.{bytes_of_read, bytes_of_write, at_least_one, some_bytes}
use Rattle.byte_streams.specs.Wholes.{CameAs, TakenInPart}
use Rattle.byte_streams.proofs.Fronts.{front-joined}

-- the reads of a source that all gave something, and gave the text
pub record ReadSoFar (old new : SourceState) (text : List ℕ) : Type 0 where
  pub calls : List ReadCall
  pub made : Makes old.calls new.calls calls
  pub count : new.reads ≡ old.reads + length calls
  pub came : HaveCome calls
  pub gave : all_that_came calls ≡ text

-- the writes of a sink that all took something, and took the text
pub record WrittenSoFar (old new : SinkState) (text : List ℕ) : Type 0 where
  pub calls : List WriteCall
  pub made : Makes old.calls new.calls calls
  pub took : HaveTaken calls
  pub gave : all_that_was_taken calls ≡ text

pub none-made : {A : Type 0} (a : Option (List A)) → Makes a a []
none-made None = tt
none-made (Some xs) = sym (append-nil xs)

pub Makes-trans : {A : Type 0} (a b c : Option (List A)) (xs ys : List A) → Makes a b xs → Makes b c ys
    → Makes a c (xs ++ ys)
Makes-trans None b c xs ys p q = tt
Makes-trans (Some x) None c xs ys p q = absurd p
Makes-trans (Some x) (Some y) None xs ys p q = absurd q
Makes-trans (Some x) (Some y) (Some z) xs ys p q = q ∙ ap (λ l. l ++ ys) p ∙ append_assoc x xs ys

came-more : (calls : List ReadCall) (call : ReadCall)
    → all_that_came (calls ++ (call ∷ [])) ≡ all_that_came calls ++ bytes_of_read call.came
came-more [] call = append-nil (bytes_of_read call.came)
came-more (first ∷ calls) call =
    ap (λ l. bytes_of_read first.came ++ l) (came-more calls call)
    ∙ sym (append_assoc (bytes_of_read first.came) (all_that_came calls) (bytes_of_read call.came))

have-more : (calls : List ReadCall) (call : ReadCall) → HaveCome calls → IsSome (some_bytes call.came)
    → HaveCome (calls ++ (call ∷ []))
have-more [] call all one = (one, tt)
have-more (first ∷ calls) call all one = (all.0, have-more calls call all.1 one)

some-came : (bytes : List ℕ) → 0 < length bytes → IsSome (some_bytes (Some bytes))
some-came [] some = absurd (omega arith)
some-came (byte ∷ bytes) some = refl

taken-more : (calls : List WriteCall) (call : WriteCall)
    → all_that_was_taken (calls ++ (call ∷
    [])) ≡ all_that_was_taken calls ++ bytes_of_write call.handed call.taken
taken-more [] call = append-nil (bytes_of_write call.handed call.taken)
taken-more (first ∷ calls) call =
    ap (λ l. bytes_of_write first.handed first.taken ++ l) (taken-more calls call)
    ∙ sym (append_assoc (bytes_of_write first.handed first.taken) (all_that_was_taken calls)
    (bytes_of_write call.handed call.taken))

took-more : (calls : List WriteCall) (call : WriteCall) → HaveTaken calls → IsSome (at_least_one call.taken)
    → HaveTaken (calls ++ (call ∷ []))
took-more [] call all one = (one, tt)
took-more (first ∷ calls) call all one = (all.0, took-more calls call all.1 one)

-- none yet
pub nothing-read : (state : SourceState) → ReadSoFar state state []
nothing-read state = record {
  calls = [];
  made = none-made state.calls;
  count = omega arith;
  came = tt;
  gave = refl;
}

-- one more
pub read-more : (old now new : SourceState) (text bytes : List ℕ) (asked : ℕ) → ReadSoFar old now text
    → 0 < length bytes
    → (new.reads ≡ now.reads + 1)
    × Makes now.calls new.calls (record { asked = asked; came = Some bytes } ∷ [])
    → ReadSoFar old new (text ++ bytes)
read-more old now new text bytes asked before some one =
    let call : ReadCall = record { asked = asked; came = Some bytes } in
    record {
      calls = before.calls ++ (call ∷ []);
      made = Makes-trans _ _ _ before.calls (call ∷ []) before.made one.1;
      count = omega (arith, before.count, one.0, length-append before.calls (call ∷ []));
      came = have-more before.calls call before.came (some-came bytes some);
      gave = came-more before.calls call ∙ ap (λ l. l ++ bytes) before.gave;
    }

-- one more, which came to the end
pub read-ended : (old now new : SourceState) (text bytes : List ℕ) (asked : ℕ) → ReadSoFar old now text
    → bytes ≡ []
    → (new.reads ≡ now.reads + 1)
    × Makes now.calls new.calls (record { asked = asked; came = Some bytes } ∷ [])
    → (calls : List ReadCall) × Makes old.calls new.calls calls × (new.reads ≡ old.reads + length calls)
    × CameAs text calls
read-ended old now new text bytes asked before none one =
    let call : ReadCall = record { asked = asked; came = Some bytes } in (
      before.calls ++ (call ∷ []),
      Makes-trans _ _ _ before.calls (call ∷ []) before.made one.1,
      omega (arith, before.count, one.0, length-append before.calls (call ∷ [])),
      (
        before.calls,
        asked,
        ap (λ l. before.calls ++ (record { asked = asked; came = Some l } ∷ [])) none,
        before.came,
        before.gave,
      ),
    )

-- one more, which failed
pub read-failed : (old now new : SourceState) (text : List ℕ) (asked : ℕ) → ReadSoFar old now text
    → (new.reads ≡ now.reads + 1) × Makes now.calls new.calls (record { asked = asked; came = None } ∷ [])
    → (calls : List ReadCall) × Makes old.calls new.calls calls × (new.reads ≡ old.reads + length calls)
    × EndInFailure calls
read-failed old now new text asked before one =
    let call : ReadCall = record { asked = asked; came = None } in (
      before.calls ++ (call ∷ []),
      Makes-trans _ _ _ before.calls (call ∷ []) before.made one.1,
      omega (arith, before.count, one.0, length-append before.calls (call ∷ [])),
      (before.calls, asked, refl, before.came),
    )

-- none yet
pub nothing-written : (state : SinkState) → WrittenSoFar state state []
nothing-written state = record {
  calls = [];
  made = none-made state.calls;
  took = tt;
  gave = refl;
}

pub some-is-none : {A : Type 0} {a : A} → Some a ≡ None → ⊥
some-is-none e = true≢false (ap is_some e)

pub is-false : (b : Bool) → (b ≡ true → ⊥) → b ≡ false
is-false true never = absurd (never refl)
is-false false never = refl

none-is-some : {A : Type 0} {a : A} → None ≡ Some a → ⊥
none-is-some e = true≢false (sym (ap is_some e))

nothing-taken : (handed : List ℕ) (taken : Option ℕ) → at_least_one taken ≡ None
    → bytes_of_write handed taken ≡ []
nothing-taken handed None is = refl
nothing-taken handed (Some zero) is = refl
nothing-taken handed (Some (suc n)) is = absurd (none-is-some (sym is))

-- one more, which took a prefix of what is left
pub written-more : (old now new : SinkState) (bytes : List ℕ) (at n : ℕ) (taken : Option ℕ)
    → WrittenSoFar old now (take at bytes)
    → Some n ≡ at_least_one taken
    → Makes now.calls new.calls (record {
      handed = take (length bytes - at)
          (drop at bytes);
      taken = taken;
    } ∷ [])
    → WrittenSoFar old new (take (at + n) bytes)
written-more old now new bytes at n None before is one = absurd (none-is-some (sym is))
written-more old now new bytes at n (Some zero) before is one = absurd (none-is-some (sym is))
written-more old now new bytes at n (Some (suc m)) before is one =
    let handed : List ℕ = take (length bytes - at) (drop at bytes) in
    let call : WriteCall = record { handed = handed; taken = Some (suc m) } in
    let same : n ≡ suc m = ap (λ o. unwrap_or o 0) is in
    record {
      calls = before.calls ++ (call ∷ []);
      made = Makes-trans _ _ _ before.calls (call ∷ []) before.made one;
      took = took-more before.calls call before.took refl;
      gave = taken-more before.calls call ∙ ap (λ l. l ++ take (suc m) handed) before.gave
          ∙ ap (λ k. take at bytes ++ take k handed) (sym same)
          ∙ sym (front-joined bytes at n);
    }

-- one more, which failed or took nothing
pub write-failed : (old now new : SinkState) (bytes : List ℕ) (at : ℕ) (handed : List ℕ) (taken : Option ℕ)
    → WrittenSoFar old now (take at bytes) → at < length bytes
    → None ≡ at_least_one taken → Makes now.calls new.calls (record { handed = handed; taken = taken } ∷ [])
    → (calls : List WriteCall) × Makes old.calls new.calls calls × TakenInPart bytes calls
write-failed old now new bytes at handed taken before within is one =
    let call : WriteCall = record { handed = handed; taken = taken } in (
      before.calls ++ (call ∷ []),
      Makes-trans _ _ _ before.calls (call ∷ []) before.made one,
      (
        (before.calls, call, refl, sym is, before.took),
        (
          at,
          within,
          taken-more before.calls call ∙ ap (λ l. l ++ bytes_of_write handed taken) before.gave
              ∙ ap (λ l. take at bytes ++ l) (nothing-taken handed taken (sym is))
              ∙ append-nil (take at bytes),
        ),
      ),
    )
