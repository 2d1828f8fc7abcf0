-- What contracts of this crate see: where numbers stand in lists, marks of lists, and what is known of a row.
pub mod Spots
pub mod Marks
pub mod Judging
