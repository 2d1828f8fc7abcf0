-- The key of no names, and of a list with more names behind it.
use Rattle.std.proofs.Common.{◌≡◌, List, [], ◌++◌, refl}
use Rattle.std.specs.Prelude.{fold}
use Rattle.std.proofs.lemmas.List.Sums.{fold-append}
use Rattle.events.specs.Names.{NameBytes}
use Rattle.element_numbers.specs.Keys.{key_of, key_with, no_key}

pub key-none : no_key ≡ key_of []
unfolding key_of
key-none = refl

pub key-more : (names more : List NameBytes) → key_of (names ++ more) ≡ fold key_with (key_of names) more
unfolding key_of
key-more names more = fold-append key_with no_key names more
