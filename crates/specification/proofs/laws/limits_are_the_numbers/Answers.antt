use Rattle.std.proofs.Common.{refl}
use Rattle.specification.proofs.laws.limits_are_the_numbers.Goals as goal

pub returns : goal.returns
returns c =
    record { replicas = refl; entries = refl; inserts = refl; names = refl; places = refl; bytes = refl }
