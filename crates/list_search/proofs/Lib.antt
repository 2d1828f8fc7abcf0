-- Lemmas on the search: parts of it, one more element reached, places read, layers, distances.
pub mod Growth
pub mod Reach
pub mod Places
pub mod Levelled
pub mod Layers
pub mod Depths
-- Lemmas on cycles: walks and rings, the first ring, the joins of numbers with names, and lists that go the
-- other way.
pub mod Firsts
pub mod RingWalks
pub mod Joining
pub mod Turning
