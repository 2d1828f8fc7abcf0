-- What contracts of this crate see: the edges between neighbouring places, what is taken in turn, and what sorting answers.
pub mod Edges
pub mod Sorted
pub mod Taken
