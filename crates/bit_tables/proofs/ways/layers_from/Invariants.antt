use Rattle.std.proofs.Common.{◌≡◌, ℕ, true, ◌+◌, ◌/◌, ◌<◌, length, map}
use Rattle.bit_tables.specs.Sets.{Has}
use Rattle.bit_tables.proofs.WayLemmas.{IsWalked}
use Rattle.bit_tables.proofs.ways.layers_from.Given as goal

abbrev pub invariant-loop-d : goal.invariant-loop-d
invariant-loop-d l = record {
  reached_len : length l.reached ≡ l.n / 64 + 1;
  shown_len : length l.shown ≡ l.n / 64 + 1;
  settled : l.is_settled ≡ true → l.d < l.count → (y : ℕ) → y < l.n → Has l.shown y → Has l.reached y;
  walked : IsWalked l.count l.n l.first l.source l.d l.table
      (map (λ layer. layer.items) l.layers.items) l.reached l.shown;
}
