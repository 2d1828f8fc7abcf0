pub mod Reading
pub mod Versions
pub mod Causes
pub mod Progress
pub mod Place
pub mod Kept
pub mod Fed
pub mod Laws
