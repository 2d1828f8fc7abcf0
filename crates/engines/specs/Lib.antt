pub mod Runs
pub mod Lines
pub mod Certified
pub mod OutOfMemory
pub mod Failures
