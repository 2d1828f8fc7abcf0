-- What a map of names hashes by: SipHash, begun with these names.
use Rattle.std.specs.Prelude.{List, fold}
use Rattle.std.specs.Hash.DefaultHasher as sip
use Rattle.events.specs.Names.{NameBytes}
use Rattle.events.specs.PaddedName.{padded_bytes}
use Rattle.element_numbers.specs.declared.name_key.NameKey.{NameKey}

abbrev pub no_key : NameKey
no_key = record { begun = sip.initial }

-- with one name more
abbrev pub key_with : NameKey → NameBytes → NameKey
key_with key a = record { begun = sip.write key.begun (padded_bytes a) }

unfoldable pub key_of : List NameBytes → NameKey
key_of names = fold key_with no_key names
