pub mod Columns
pub mod Holes
pub mod Lines
