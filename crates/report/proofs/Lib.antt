pub mod Longer
pub mod Ascii
pub mod Listed
pub mod OfStreams
