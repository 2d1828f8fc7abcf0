-- What contracts of this crate see: ways along lists, what is shown of the layers' maker, and how far layers
-- have come.
pub mod Ways
pub mod Progress
pub mod Walked
pub mod View
