-- What is printed of a fault of the words.
use Rattle.std.specs.Prelude.{ℕ, List, codes}
use Rattle.command_line.specs.declared.words.WordsFault.{WordsFault}
use Rattle.command_line.specs.declared.words.WordsFault.TheVariants.{Usage, Help, Memory}

abbrev pub fault_word : WordsFault → List ℕ
fault_word Usage = codes "usage"
fault_word (Help text) = codes "help"
fault_word Memory = codes "memory"
