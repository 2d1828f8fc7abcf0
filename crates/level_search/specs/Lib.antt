-- What contracts of this crate see: tables of what stands before each element; searches over them, and how
-- much these looked at; cores, workers and least cycles.
pub mod Tables
pub mod Ways
pub mod Fronts
pub mod Balls
pub mod LayerSizes
pub mod Looks
pub mod Steps
pub mod StrongComponents
pub mod Thinned
pub mod Cores
pub mod Conflicts
pub mod Rounds
pub mod Sources
pub mod LowerBounds
pub mod Team
pub mod BoundLaw
