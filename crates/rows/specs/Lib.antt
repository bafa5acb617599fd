-- Rows of cells: which are live, and which rows are those of a frame.
pub mod Carriers
pub mod Rows
