-- Lemmas of the stages from bits to increments and to cells.
pub mod DifferenceLoops
pub mod MapLoops
pub mod InPlace
