-- What is shown of the maker of layers.
use Rattle.std.specs.Prelude.{ℕ}
use Rattle.specification.specs.Responses.{Responses}

-- looked : places passed and spots gone through for the last layers, 0 before any
pub record LayersView : Type 0 where
  pub graph : Responses
  pub looked : ℕ
