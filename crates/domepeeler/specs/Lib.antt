-- What contracts of this crate see: how calls end.
pub mod Ends
