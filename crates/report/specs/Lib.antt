pub mod Counts
pub mod Texts
pub mod JsonReport
pub mod Objects
pub mod Laws
