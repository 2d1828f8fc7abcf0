pub mod AfterTables
pub mod ByRows
pub mod Ways
