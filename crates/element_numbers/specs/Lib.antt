-- What contracts of this crate see: rows cut from one list, the response of an operation that there may be,
-- what maps of names hash by, and operations whose responses cover those of others.
pub mod Cuts
pub mod Runs
pub mod Keys
pub mod Covering
