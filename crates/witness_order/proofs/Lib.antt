-- Lemmas: on taking free elements in turn, on counts, on neighbouring places, on linked lists of edges, from
-- orders of numbers to orders of names, and on what is taken.
pub mod InTurn
pub mod Counting
pub mod Listing
pub mod Linked
pub mod Followed
pub mod Earlier
