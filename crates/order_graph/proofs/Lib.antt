-- Lemmas: on names read back from their numbers, on spots, on the limits, on responses
-- that cover others, on what is left where some elements alone are kept, on responses in the other direction.
pub mod ReadBack
pub mod AllSpots
pub mod Adding
pub mod InOrder
pub mod Shown
pub mod Totals
pub mod Made
pub mod Listed
pub mod Covers
pub mod Renumbered
pub mod NewNumbers
pub mod OneSpot
pub mod Turned
pub mod Emptied
