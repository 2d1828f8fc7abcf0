-- Lemmas on the table: the places of lists that are noted.
pub mod Noting
-- Lemmas on the search over it, and on counts of its looks.
pub mod BallLemmas
pub mod LayerSizes
pub mod Counts
pub mod OneCount
pub mod Placed
-- Lemmas on cores and cycles.
pub mod StepsRound
pub mod OnRing
pub mod Rounds
pub mod EdgeWalks
pub mod OnCycles
pub mod Cores
pub mod ShortestFew
pub mod Lengths
pub mod Rising
pub mod LowerBounds
pub mod ThinnedLists
pub mod ListLooks
pub mod SpotRooms
pub mod FoundLooks
-- Lemmas on the workers.
pub mod Teams
pub mod LeastOffer
