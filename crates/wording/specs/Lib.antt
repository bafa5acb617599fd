-- How lines, numbers, lists and headers are worded, and what the calls of all programs are answered.
pub mod Calls
pub mod Cells
pub mod Hexes
pub mod Lasts
pub mod Lines
pub mod Numbers
pub mod Requests
pub mod Sizes
pub mod Stages
pub mod Texts
pub mod Words
