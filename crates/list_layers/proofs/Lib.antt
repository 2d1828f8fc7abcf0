-- Lemmas: on what is entered, on marks, on layers so far, on what is set back
pub mod Growing
pub mod Marking
pub mod Walking
pub mod Restoring
