pub mod DepthLemmas
pub mod LayerLemmas
pub mod Places
pub mod SetLemmas
pub mod Those
pub mod WayLemmas
mod NarrowLemmas
