-- What words are names.
use Rattle.std.proofs.Common.{◌≡◌, Option, Some, None, refl}
use Rattle.std.proofs.lemmas.Option.{same_Some}
use Rattle.events.specs.Names.{NameBytes, IsName}
use Rattle.events.specs.NameFaults.{name_fault}
use Rattle.events.specs.declared.name.NameFault.{NameFault}
use Rattle.events.proofs.NoFaults.{no-fault-name, name-no-fault}
use Rattle.format_words.specs.Words.{Word}
use Rattle.format_words.specs.Reading.{unless_fault, name_of}

unless-fault-some : (f : Option NameFault) (w : Word) (a : NameBytes) → unless_fault f w ≡ Some a
    → (f ≡ None) × (w ≡ a)
unless-fault-some None w a e = (refl, same_Some w a e)
unless-fault-some (Some f) w a e = absurd (cc)

-- a word that is read as a name is that name
pub name-is : (w : Word) (a : NameBytes) → name_of w ≡ Some a → (w ≡ a) × IsName a
unfolding name_of
name-is w a e =
    let parts = unless-fault-some (name_fault w) w a e in
    (parts.1, rw (← parts.1) (no-fault-name w parts.0))

-- and each name is read
pub name_of-name : (a : NameBytes) → IsName a → name_of a ≡ Some a
unfolding name_of
name_of-name a h = rw (name-no-fault a h) refl
