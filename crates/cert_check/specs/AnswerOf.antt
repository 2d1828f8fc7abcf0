-- What the checker answers, and what its yes implies.
use Rattle.std.specs.Prelude.{◌≡◌, ℕ, List}
use Rattle.events.specs.History.{History}
use Rattle.specification.specs.Faults as fault
use Rattle.specification.specs.Responses.{responses_of}
use Rattle.specification.specs.Conflict.{HasConflictNumber}
use Rattle.specification.specs.ListSpecification.{MeetsStrong}
use Rattle.specification.specs.Verdict.{ProvesConflict}
use Rattle.specification.specs.Versions.{Version}
use Rattle.specification.specs.TraceText.{Spells}
use Rattle.specification.specs.CertificateText as text
use Rattle.specification.specs.ValidCertificate as valid
use Rattle.cert_check.specs.declared.answer.Answer.{Answer}
use Rattle.cert_check.specs.declared.answer.Answer.TheVariants.{Yes, No}
use Rattle.cert_check.specs.declared.answer.Kind.{Kind}
use Rattle.cert_check.specs.declared.answer.Kind.TheVariants as kind
use Rattle.cert_check.specs.declared.answer.Reason.{Reason}
use Rattle.cert_check.specs.declared.answer.Reason.TheVariants as reason

abbrev pub kind_of : text.Certificate → Kind
kind_of (text.names_fault (fault.doubled first again)) = kind.Doubled
kind_of (text.names_fault (fault.contents at)) = kind.Contents
kind_of (text.names_fault (fault.position at)) = kind.Position
kind_of (text.gives_order order) = kind.Accepted
kind_of (text.gives_cycle k steps rows) = kind.Refused

-- the texts spell this recording and, in this version, this certificate
abbrev pub Reads : List ℕ → List ℕ → Version → History → text.Certificate → Type 0
Reads trace cert version h c = Spells trace h × text.SpellsCertificate cert version c

abbrev pub IsReadReason : List ℕ → List ℕ → valid.Reason → Type 0
IsReadReason trace cert why = (version : Version) × (h : History) × (c : text.Certificate)
    × Reads trace cert version h c × valid.IsFirstReason version h c why

-- the first reason that holds, of two texts
abbrev pub IsReason : List ℕ → List ℕ → Reason → Type 0
IsReason trace cert reason.Trace = (h : History) → ¬ Spells trace h
IsReason trace cert reason.CertText = ((h : History) × Spells trace h)
    × ((version : Version) (c : text.Certificate) → ¬ text.SpellsCertificate cert version c)
IsReason trace cert reason.WrongFault = IsReadReason trace cert valid.wrong_fault
IsReason trace cert reason.NotOrder = IsReadReason trace cert valid.not_order
IsReason trace cert (reason.NotFollowed at) = IsReadReason trace cert (valid.not_followed at)
IsReason trace cert (reason.NoCycle step) = IsReadReason trace cert (valid.no_cycle step)
IsReason trace cert (reason.MissingLayer source) = IsReadReason trace cert (valid.missing_layer source)
IsReason trace cert (reason.ShortLayer source) = IsReadReason trace cert (valid.short_layer source)
IsReason trace cert (reason.ExtraLayer source) = IsReadReason trace cert (valid.extra_layer source)

abbrev pub IsAnswer : List ℕ → List ℕ → Answer → Type 0
IsAnswer trace cert (Yes k) = (version : Version) × (h : History) × (c : text.Certificate)
    × Reads trace cert version h c × valid.IsValid version h c × (kind_of c ≡ k)
IsAnswer trace cert (No why) = IsReason trace cert why

-- the answer on a recording: that on each text that spells it
abbrev pub IsAnswerOn : History → List ℕ → Answer → Type 0
IsAnswerOn h cert a = (trace : List ℕ) → Spells trace h → IsAnswer trace cert a

-- what a valid certificate implies of its recording, in either version
abbrev pub Implies : History → text.Certificate → Type 0
Implies h (text.names_fault named) = fault.IsFirstFault h named
Implies h (text.gives_order order) = MeetsStrong h
Implies h (text.gives_cycle k steps rows) =
    HasConflictNumber (responses_of h) k × ProvesConflict (responses_of h) k steps

abbrev pub ImpliesOfTexts : List ℕ → List ℕ → Answer → Type 0
ImpliesOfTexts trace cert (Yes k) = (version : Version) (h : History) (c : text.Certificate)
    → Reads trace cert version h c → Implies h c
ImpliesOfTexts trace cert (No why) = Unit {0}

-- what a yes implies of the recording
abbrev pub ImpliesOn : History → List ℕ → Answer → Type 0
ImpliesOn h cert (Yes k) = (version : Version) (c : text.Certificate) → text.SpellsCertificate cert version c
    → Implies h c
ImpliesOn h cert (No why) = Unit {0}
