pub mod Calls
pub mod Fronts
