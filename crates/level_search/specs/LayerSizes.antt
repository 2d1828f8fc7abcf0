-- How many elements a set has, and how many a layer; and what a count of looks is after so many more.
use Rattle.std.specs.Prelude.{ℕ, zero, suc, ◌+◌, ◌-◌, ◌/◌, ◌%◌, List, slice_index}
use Rattle.std.specs.Int.{bit_at}
use Rattle.order_graph.specs.Lists.{ticked}
use Rattle.level_search.specs.declared.tabled.sets.Sets.{Sets}

-- 1 where the set has x, else 0
abbrev pub bit : List ℕ → ℕ → ℕ
bit set x = bit_at (slice_index set (x / 64)) (x % 64)

-- how many of the first n elements the set has
abbrev pub set_size : ℕ → List ℕ → ℕ
set_size zero set = 0
set_size (suc n) set = set_size n set + bit set n

-- how many of the first n elements are reached and not near
abbrev pub layer_size : ℕ → Sets → ℕ
layer_size zero sets = 0
layer_size (suc n) sets = layer_size n sets + (bit sets.reached n - bit sets.near n)

-- a count after so many looks more, each of which raises it by one, up to the last count
abbrev pub counted : ℕ → ℕ → ℕ
counted zero old = old
counted (suc n) old = ticked (counted n old)
