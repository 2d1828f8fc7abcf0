-- What the trace spells is what was read.
use Rattle.std.proofs.Common.{refl, inl}
use Rattle.std.proofs.lemmas.Bool.{false≢true}
use Rattle.cert_check.proofs.Implied.{implied_texts}
use Rattle.cert_check.proofs.checking.check_in_turn.Goals as goal

pub returns-in-Ok-clause-implies : goal.returns-in-Ok-clause-implies
returns-in-Ok-clause-implies c =
    implied_texts c.args.trace.now c.args.cert.now c.in-Ok.recording c.check_recording_in_turn.result
    c.in-Ok.ensures.spelled c.check_recording_in_turn.ensures.implies

pub returns-then-is_out_of_memory-clause-memory : goal.returns-then-is_out_of_memory-clause-memory
returns-then-is_out_of_memory-clause-memory c =
    inl (c.in-Err.fault.line, c.in-Err.ensures.memory (c.if-is_out_of_memory.ensures.0 refl))

pub returns-else-is_out_of_memory-clause-answer : goal.returns-else-is_out_of_memory-clause-answer
returns-else-is_out_of_memory-clause-answer c =
    λ h spells. false≢true (c.if-is_out_of_memory.ensures.1 (c.in-Err.ensures.spelled h spells))
