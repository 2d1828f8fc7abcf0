pub mod Copies
pub mod ListWays
pub mod SameLayers
pub mod ExactRows
pub mod CoveredRows
pub mod ByRows
pub mod RowLines
