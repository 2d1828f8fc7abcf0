use Rattle.std.proofs.Common.{◌≡◌, ◌≢◌, ◌∙◌, ◌<◌, ◌≤◌, List, [], ◌++◌, ℕ, ap, arith, inl, inr, length}
use Rattle.std.proofs.Common.{length-append, length-take, rules, subst, sym, take, unwrap_or}
use Rattle.std.proofs.KnownBytes.{Consumes-trans}
use Rattle.std.proofs.Math.Nat.{eq-or-lt_of_le}
use Rattle.byte_streams.specs.Streams.{IsClosed}
use Rattle.std.specs.Io.KnownBytes.{Consumes}
use Rattle.byte_streams.proofs.Calls.{ReadSoFar, is-false, read-more, read-ended, read-failed, some-is-none}
use Rattle.byte_streams.proofs.source.Source.whole.Goals as goal

pub returns-then-n-eq0-clause-made : goal.returns-then-n-eq0-clause-made
returns-then-n-eq0-clause-made g c = λ fresh.
    let read = c.in-Some.ensures in
    let some : 0 < length c.read.new.buffer = search rules in
    let none : take c.in-Some.n c.read.new.buffer ≡ [] = ap (λ n. take n c.read.new.buffer) c.if-n-eq0.true in
    read-ended c.args.self.now c.loop-n.self c.read.new.self c.loop-n.all.items
    (take c.in-Some.n c.read.new.buffer) _
    (c.loop-n.invariant.reads fresh) none (read.asked (read.went.3 (c.loop-n.invariant.still fresh).1) some)

-- a read that gives something leaves something
read-some : (all buffer : List ℕ) (n : ℕ) → n ≢ 0 → n ≤ length buffer → 0 < length (all ++ take n buffer)
read-some all buffer n some within =
    omega (arith, some, within, length-append all (take n buffer), length-take {A = ℕ})

pub returns-then-is_err-clause-memory : goal.returns-then-is_err-clause-memory
returns-then-is_err-clause-memory g c = λ _.
    let read = c.in-Some.ensures in
    let came = take c.in-Some.n c.read.new.buffer in
    let more = read-some c.loop-n.all.items c.read.new.buffer c.in-Some.n c.if-n-eq0.false read.within in (
      read.went.0,
      (
        c.loop-n.all.items ++ came,
        more,
        Consumes-trans _ _ _ c.loop-n.all.items came
            c.loop-n.invariant.bytes read.bytes.0,
      ),
    )

pub returns-then-is_err-clause-made : goal.returns-then-is_err-clause-made
returns-then-is_err-clause-made g c = λ fresh.
    let read = c.in-Some.ensures in
    let some : 0 < length c.read.new.buffer = search rules in
    let came = take c.in-Some.n c.read.new.buffer in
    let more = read-some c.loop-n.all.items c.read.new.buffer c.in-Some.n c.if-n-eq0.false read.within in
    let all : ReadSoFar c.args.self.now c.read.new.self (c.loop-n.all.items ++ came) =
    read-more c.args.self.now c.loop-n.self c.read.new.self c.loop-n.all.items came _
    (c.loop-n.invariant.reads fresh) (omega (arith, c.if-n-eq0.false, read.within, length-take {A = ℕ}))
    (read.asked (read.went.3 (c.loop-n.invariant.still fresh).1) some) in
    (all.calls, all.made, all.count, (all.came, subst (λ l. 0 < length l) (sym all.gave) more))

pub loop-n-preserved : goal.loop-n-preserved
loop-n-preserved g c =
    let read = c.in-Some.ensures in
    let some : 0 < length c.read.new.buffer = search rules in
    let came = take c.in-Some.n c.read.new.buffer in
    let grown : c.extend_from_slice.new.self.items ≡ c.loop-n.all.items ++ came = search rules in
    record {
      bytes = subst (Consumes c.args.self.now.bytes c.read.new.self.bytes) (sym grown) (Consumes-trans _ _ _
          c.loop-n.all.items came c.loop-n.invariant.bytes read.bytes.0);
      closed = λ shut. absurd (some-is-none (read.closed (subst IsClosed (sym
          (c.loop-n.invariant.closed shut)) shut)).0);
      ended = λ done. absurd (c.if-n-eq0.false (ap (λ o. unwrap_or o 0) (read.ended (ap (λ s. s.ended)
          (c.loop-n.invariant.ended done).0 ∙ done)).0));
      still = λ fresh. let ready = read.went.3 (c.loop-n.invariant.still fresh).1 in (
        read.went.0,
        is-false _ (λ done. c.if-n-eq0.false ((read.end some).0 done)),
        omega (
          arith,
          ready.2,
          (read.asked ready some).0,
        ),
      );
      reads = λ fresh. subst (ReadSoFar c.args.self.now c.read.new.self) (sym grown)
          (read-more c.args.self.now c.loop-n.self c.read.new.self c.loop-n.all.items came _
          (c.loop-n.invariant.reads fresh) (omega (arith, c.if-n-eq0.false, read.within, length-take {A = ℕ}))
          (read.asked (read.went.3 (c.loop-n.invariant.still fresh).1) some));
    }

pub returns-clause-made : goal.returns-clause-made
returns-clause-made g c = λ fresh.
    let still = c.loop-n.invariant.still fresh in
    let before = c.loop-n.invariant.reads fresh in
    let read = c.in_default.ensures in
    let some : 0 < length c.read.new.buffer = search rules in
    elim (eq-or-lt_of_le still.2) [
      | inl full ↦ let same = (read.closed (still.1, inr full)).1 in
          let all : ReadSoFar c.args.self.now c.read.new.self c.loop-n.all.items = subst (λ s. ReadSoFar
          c.args.self.now s c.loop-n.all.items) (sym same) before in
          (all.calls, all.made, all.count, inr (all.came, ap (λ s. s.reads) same ∙ full))
      | inr under ↦ let all = read-failed c.args.self.now c.loop-n.self c.read.new.self
          c.loop-n.all.items _ before (read.asked (still.1, still.0, under) some) in
          (all.0, all.1, all.2, inl all.3)
    ]
