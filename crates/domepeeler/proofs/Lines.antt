-- Where both texts read the checker's line may take memory.
use Rattle.std.proofs.Common.{◌≡◌, ℕ, ◌⊎◌, List, inl, inr, refl}
use Rattle.cert_check.specs.AnswerOf.{IsAnswer, IsReadReason, IsReason}
use Rattle.cert_check.specs.OutOfMemory as checker
use Rattle.cert_check.specs.declared.answer.Answer.{Answer}
use Rattle.cert_check.specs.declared.answer.Answer.TheVariants.{Yes}
use Rattle.cert_check.specs.declared.answer.Kind.{Kind}
use Rattle.cert_check.specs.declared.answer.Reason.{Reason}
use Rattle.cert_check.specs.declared.answer.Reason.TheVariants as reason
use Rattle.domepeeler.specs.Ends.{IsLineEnd, IsPut}
use Rattle.domepeeler.specs.declared.TheConstants.{NO_MEMORY}
use Rattle.domepeeler.specs.declared.DomepeelerEnd.{DomepeelerEnd}
use Rattle.engines.specs.Certified.{status_of_answer}
use Rattle.engines.specs.Lines.{answer_line}
use Rattle.engines.specs.Runs.{number_of_status}
use Rattle.specification.specs.ValidCertificate as valid

read : (trace cert : List ℕ) (why : valid.Reason) → IsReadReason trace cert why → checker.TakesMemory trace cert
read trace cert why is = inr ((is.1, is.3.0), (is.0, is.2, is.3.1))

-- what is not right with a certificate that was read
pub reads : (trace cert : List ℕ) (why : Reason) → IsReason trace cert why → ¬ (why ≡ reason.Trace)
    → ¬ (why ≡ reason.CertText) → checker.TakesMemory trace cert
reads trace cert reason.Trace is not _ = absurd (not refl)
reads trace cert reason.CertText is _ not = absurd (not refl)
reads trace cert reason.WrongFault is _ _ = read trace cert valid.wrong_fault is
reads trace cert reason.NotOrder is _ _ = read trace cert valid.not_order is
reads trace cert (reason.NotFollowed at) is _ _ = read trace cert (valid.not_followed at) is
reads trace cert (reason.NoCycle step) is _ _ = read trace cert (valid.no_cycle step) is
reads trace cert (reason.MissingLayer source) is _ _ = read trace cert (valid.missing_layer source) is
reads trace cert (reason.ShortLayer source) is _ _ = read trace cert (valid.short_layer source) is
reads trace cert (reason.ExtraLayer source) is _ _ = read trace cert (valid.extra_layer source) is

-- a valid certificate was read
pub reads-yes : (trace cert : List ℕ) (kind : Kind) → IsAnswer trace cert (Yes kind)
    → checker.TakesMemory trace cert
reads-yes trace cert kind is = inr ((is.1, is.3.0), (is.0, is.2, is.3.1))

-- the line stands in the room, or memory ran out
pub line-end : (trace cert old new : List ℕ) (end : DomepeelerEnd) (a : Answer) → IsAnswer trace cert a
    → checker.TakesMemory trace cert
    → (IsPut (answer_line a) (number_of_status (status_of_answer a)) 0 old new end)
    ⊎ ((end.status ≡ NO_MEMORY) × (end.line ≡ 0) × (end.length ≡ 0) × (new ≡ old))
    → IsLineEnd trace cert old new end
line-end trace cert old new end a is takes (inl put) =
    inl (answer_line a, status_of_answer a, (a, is, refl, refl), put)
line-end trace cert old new end a is takes (inr out) = inr (takes, out.0, out.1, out.2, out.3)
