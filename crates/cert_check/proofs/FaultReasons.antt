-- A certificate that does not name the first fault is wrong about it.
use Rattle.std.proofs.Common.{◌≡◌, ◌∙◌, sym, ap, refl, subst}
use Rattle.std.specs.Prelude.{Some}
use Rattle.events.specs.History.{History}
use Rattle.specification.specs.Faults.{Fault, IsFirstFault, IsSound}
use Rattle.specification.specs.Faults as fault
use Rattle.specification.specs.CertificateText.{Certificate, names_fault, gives_order, gives_cycle}
use Rattle.specification.specs.ValidCertificate.{IsWrongFault}
use Rattle.specification.proofs.VerdictsUnique.{one_first_fault, sound_or_fault}
use Rattle.certificate_text.specs.Outlines.{Outlines}
use Rattle.certificate_text.specs.declared.outline.Outline.{Outline}
use Rattle.certificate_text.specs.declared.outline.Outline.TheVariants.{Doubled, Contents, Position, Accepted}
use Rattle.certificate_text.specs.declared.outline.Outline.TheVariants.{Refused}
use Rattle.cert_check.specs.Judged.{named}

pub wrong_fault : (h : History) (c : Certificate) (f : Fault) → IsFirstFault h f → (c ≡ names_fault f → ⊥)
    → IsWrongFault h c
wrong_fault h (names_fault g) f first other = λ is. other (ap names_fault (one_first_fault h g f is first))
wrong_fault h (gives_order order) f first other = λ sound. sound_or_fault h f sound first
wrong_fault h (gives_cycle k steps rows) f first other = λ sound. sound_or_fault h f sound first

-- of a sound recording each certificate that names a fault is wrong
pub no_fault : (h : History) (c : Certificate) (f : Fault) → IsSound h → c ≡ names_fault f → IsWrongFault h c
no_fault h c f sound is = subst (IsWrongFault h) (sym is) (λ first. sound_or_fault h f sound first)

some_fault : (f g : Fault) → Some f ≡ Some g → f ≡ g
some_fault f g e = Prim.cc

named_same : (f g : Fault) → names_fault f ≡ names_fault g → f ≡ g
named_same f g e = Prim.cc

by_name : (c : Certificate) (f g : Fault) → c ≡ names_fault g
    → (Some g ≡ Some f → c ≡ names_fault f) × (c ≡ names_fault f → Some g ≡ Some f)
by_name c f g is =
    ((λ e. is ∙ ap names_fault (some_fault g f e)), (λ e. ap Some (named_same g f (sym is ∙ e))))

-- the fault that its outline names is the one that it names
pub named_is : (o : Outline) (c : Certificate) (f : Fault) → Outlines o c
    → (named o ≡ Some f → c ≡ names_fault f) × (c ≡ names_fault f → named o ≡ Some f)
named_is (Doubled first again) c f is = by_name c f (fault.doubled first again) is
named_is (Contents at) c f is = by_name c f (fault.contents at) is
named_is (Position at) c f is = by_name c f (fault.position at) is
named_is (Accepted names) c f is = (
  (λ e. absurd Prim.cc),
  (λ e. absurd (let bad : gives_order is.0 ≡ names_fault f = sym is.1 ∙ e in Prim.cc)),
)
named_is (Refused k steps rows) c f is = (
  (λ e. absurd Prim.cc),
  (λ e. absurd (let bad : gives_cycle k is.0 is.1 ≡ names_fault f = sym is.2 ∙ e in Prim.cc)),
)

-- one that has neither an order nor a cycle names a fault
pub names_some : (o : Outline) (c : Certificate) → Outlines o c → ((names : _) → o ≡ Accepted names → ⊥)
    → ((k : _) (steps : _) (rows : _) → o ≡ Refused k steps rows → ⊥) → (f : Fault) × (c ≡ names_fault f)
names_some (Doubled first again) c is accepted refused = (fault.doubled first again, is)
names_some (Contents at) c is accepted refused = (fault.contents at, is)
names_some (Position at) c is accepted refused = (fault.position at, is)
names_some (Accepted names) c is accepted refused = absurd (accepted names refl)
names_some (Refused k steps rows) c is accepted refused = absurd (refused k steps rows refl)
