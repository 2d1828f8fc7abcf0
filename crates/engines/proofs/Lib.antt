pub mod Failures
pub mod JoinedTexts
pub mod LineFaults
pub mod PiecesRead
pub mod Written
