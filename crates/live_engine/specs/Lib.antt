pub mod Sessions
pub mod Endings
