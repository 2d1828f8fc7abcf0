pub mod Positives
pub mod Asked
pub mod Built
pub mod Answered
pub mod Filled
pub mod Taken
