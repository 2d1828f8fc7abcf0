-- The bound of one thread: how many sources are given out, and the least offer.
use Rattle.std.specs.Prelude.{◌≡◌, ℕ, ◌+◌, min, nat_lt, if◌then◌else◌, Option, Some, None, List, [], ◌∷◌}
use Rattle.std.specs.Prelude.{length, IsPermutation}
use Rattle.shared_bound.specs.declared.TheConstants.{NO_OFFER}

pub record BoundState : Type 0 where
  pub given : ℕ
  pub least : ℕ

abbrev pub fresh : BoundState
fresh = record { given = 0; least = NO_OFFER }

pub data BoundCall : Type 0 where
  claim : BoundCall
  look : BoundCall
  offer : ℕ → BoundCall

-- what a claim among n sources gives; a look gives the least offer
abbrev pub claimed_source : ℕ → BoundState → Option ℕ
claimed_source n s = if nat_lt s.given n then Some s.given else None

-- the state after a call
abbrev pub bound_after : ℕ → BoundState → BoundCall → BoundState
bound_after n s claim = record s { given = if nat_lt s.given n then s.given + 1 else s.given }
bound_after n s look = s
bound_after n s (offer x) = record s { least = min s.least x }

-- the state after a list of calls, and all states on the way
abbrev pub bound_after_all : ℕ → BoundState → List BoundCall → BoundState
bound_after_all n s [] = s
bound_after_all n s (c ∷ cs) = bound_after_all n (bound_after n s c) cs

abbrev pub bound_states : ℕ → BoundState → List BoundCall → List BoundState
bound_states n s [] = s ∷ []
bound_states n s (c ∷ cs) = s ∷ bound_states n (bound_after n s c) cs

-- the numbers offered
abbrev pub offers : List BoundCall → List ℕ
offers [] = []
offers (claim ∷ cs) = offers cs
offers (look ∷ cs) = offers cs
offers (offer x ∷ cs) = x ∷ offers cs

abbrev pub with_source : Option ℕ → List ℕ → List ℕ
with_source None sources = sources
with_source (Some source) sources = source ∷ sources

-- the sources given out by claims among n
abbrev pub sources_given : ℕ → BoundState → List BoundCall → List ℕ
sources_given n s [] = []
sources_given n s (claim ∷ cs) = with_source (claimed_source n s) (sources_given n (bound_after n s claim) cs)
sources_given n s (look ∷ cs) = sources_given n s cs
sources_given n s (offer x ∷ cs) = sources_given n (bound_after n s (offer x)) cs

-- these calls of one thread are given just the sources that were claimed, offer just what was offered, and
-- leave this least offer
pub record IsRun (n : ℕ) (claimed offered : List ℕ) (least : ℕ) (calls : List BoundCall) : Type 0 where
  pub leads : bound_after_all n fresh calls ≡ record { given = length claimed; least = least }
  pub given : IsPermutation (sources_given n fresh calls) claimed
  pub told : IsPermutation (offers calls) offered
