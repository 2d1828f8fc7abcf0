use Rattle.std.proofs.Common.{◌≡◌, ◌∙◌, ◌<◌, ◌-◌, List, ℕ, arith, drop, false, length, length-take}
use Rattle.std.proofs.Common.{length-drop, sym, take, true≢false}
use Rattle.byte_streams.proofs.Calls.{written-more, write-failed}
use Rattle.byte_streams.proofs.Fronts.{front-grows}
use Rattle.byte_streams.proofs.sink.Sink.write_whole.Goals as goal

-- before the end something is left
some-left : (bytes : List ℕ) (at : ℕ) → at < length bytes
    → 0 < length (take (length bytes - at) (drop at bytes))
some-left bytes at before = omega (arith, before, length-take {A = ℕ}, length-drop {A = ℕ})

pub returns-in_default-clause-made : goal.returns-in_default-clause-made
returns-in_default-clause-made g c = λ fine.
    let bytes = c.args.bytes.now in
    let at = c.loop-at.at in
    let some = some-left bytes at c.loop-at-test.true in
    let one = c.in_default.ensures.asked (c.loop-at.invariant.still ∙ fine) some in
    write-failed c.args.self.now c.loop-at.self c.write.new.self bytes at _ one.0
    (c.loop-at.invariant.writes fine) c.loop-at-test.true one.1 one.2

pub loop-at-preserved : goal.loop-at-preserved
loop-at-preserved g c =
    let wrote = c.in-Some.ensures in
    let bytes = c.args.bytes.now in
    let at = c.loop-at.at in
    let some = some-left bytes at c.loop-at-test.true in
    let fine_before = wrote.went.1 some in
    record {
      within = omega (arith, wrote.within.0, length-take {A = ℕ}, length-drop {A = ℕ});
      written = front-grows _ _ _ bytes at c.in-Some.n c.loop-at.invariant.written wrote.bytes;
      still = wrote.went.0 ∙ c.loop-at.invariant.still;
      closed = λ failed. absurd (true≢false (sym failed ∙ sym c.loop-at.invariant.still ∙ fine_before));
      first = λ none. absurd (omega (arith, wrote.within.1 some, none));
      writes = λ fine. let one = wrote.asked fine_before some in
          written-more c.args.self.now c.loop-at.self c.write.new.self bytes at c.in-Some.n one.0
          (c.loop-at.invariant.writes fine) one.1 one.2;
    }
