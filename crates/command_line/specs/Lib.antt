pub mod Answers
pub mod Commands
pub mod Tasks
pub mod Workers
pub mod Asked
pub mod FaultWords
