use Rattle.specification.proofs.Layers as proved
use Rattle.cert_check.proofs.laws.layers_bound_cycles.Goals as goal

pub returns : goal.returns
returns c = proved.layers_bound_cycles
