-- What contracts of this crate see: the answer, elements by their numbers, and values noted for them.
pub mod AnswerOf
pub mod Values
pub mod Numbering
pub mod Noted
pub mod RowDepths
pub mod RowWords
pub mod Ring
pub mod Judged
pub mod WrongSteps
pub mod OutOfMemory
pub mod Laws
