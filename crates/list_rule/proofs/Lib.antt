-- Lemmas: on spots that are added, on what stands in lists, on marks of a row, on the rule
pub mod Pushing
pub mod Standing
pub mod Marking
pub mod Ruling
