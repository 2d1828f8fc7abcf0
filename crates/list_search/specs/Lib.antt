-- What contracts of this crate see: steps, walks and rings; distances; how far a search has come, and how
-- often it has read its bound.
pub mod Graph
pub mod Walks
pub mod Distances
pub mod Rings
pub mod Progress
pub mod Clean
pub mod ScratchView
pub mod Readings
