-- The codings from bits to phase increments and to cells.
pub mod Settings
pub mod Maps
pub mod Differences
pub mod Meanings
pub mod DifferenceLaws
pub mod Phases
pub mod Recurrences
pub mod MapLaws
pub mod Widths
pub mod Tables
pub mod MapLengths
