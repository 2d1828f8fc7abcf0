use Rattle.std.proofs.Common.{◌≡◌, ℕ, true, ◌+◌, ◌<◌, ◌≤◌, ◌/◌, ◌⊎◌, length, map}
use Rattle.bit_tables.specs.Sets.{Has}
use Rattle.bit_tables.proofs.LayerLemmas.{IsTested}
use Rattle.bit_tables.proofs.layers.meets_rule.Given as goal

abbrev pub invariant-layers : goal.invariant-layers
invariant-layers l = record {
  standing_len : length l.standing ≡ l.n / 64 + 1;
  shown_len : length l.shown ≡ l.n / 64 + 1;
  last : l.i ≡ 0 ⊎ l.i < length l.layers;
  least : (l.least ≤ l.first) × (l.least ≤ l.source);
  settled : l.is_settled ≡ true → (y : ℕ) → Has l.shown y → Has l.standing y;
  tested : IsTested l.first l.least l.i (map (λ layer. layer.items) l.layers) l.table l.standing l.shown;
}
