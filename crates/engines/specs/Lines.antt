-- The checker's line for an answer.
use Rattle.std.specs.Prelude.{List, ℕ, [], ◌∷◌, ◌++◌, codes, decimal}
use Rattle.specification.specs.Lines.{operation_text}
use Rattle.cert_check.specs.declared.answer.Answer.{Answer}
use Rattle.cert_check.specs.declared.answer.Answer.TheVariants.{Yes, No}
use Rattle.cert_check.specs.declared.answer.Kind.{Kind}
use Rattle.cert_check.specs.declared.answer.Kind.TheVariants as kind
use Rattle.cert_check.specs.declared.answer.Reason.{Reason}
use Rattle.cert_check.specs.declared.answer.Reason.TheVariants as reason

abbrev pub kind_words : Kind → List ℕ
kind_words kind.Doubled = codes "doubled"
kind_words kind.Contents = codes "contents"
kind_words kind.Position = codes "position"
kind_words kind.Accepted = codes "accepted"
kind_words kind.Refused = codes "refused"

abbrev pub reason_words : Reason → List ℕ
reason_words reason.Trace = codes "trace"
reason_words reason.CertText = codes "text"
reason_words reason.WrongFault = codes "fault"
reason_words reason.NotOrder = codes "order"
reason_words (reason.NotFollowed at) = codes "followed " ++ operation_text at
reason_words (reason.NoCycle step) = codes "cycle " ++ decimal step
reason_words (reason.MissingLayer source) = codes "missing" ++ (32 ∷ source)
reason_words (reason.ShortLayer source) = codes "short" ++ (32 ∷ source)
reason_words (reason.ExtraLayer source) = codes "extra" ++ (32 ∷ source)

abbrev pub answer_words : Answer → List ℕ
answer_words (Yes kind) = codes "yes " ++ kind_words kind
answer_words (No why) = codes "no " ++ reason_words why

abbrev pub answer_line : Answer → List ℕ
answer_line answer = answer_words answer ++ (10 ∷ [])
