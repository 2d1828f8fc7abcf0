-- Lemmas on refusals: what is found of the responses that cover all is found of all.
pub mod Refusals
