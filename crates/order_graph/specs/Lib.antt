-- What contracts of this crate see: responses as lists of numbers, the spots of an element, responses that
-- cover others, and responses in the other direction.
pub mod Lists
pub mod Spots
pub mod Kept
pub mod Covers
pub mod Emptied
pub mod Renumbered
pub mod Turned
