-- Lemmas of the stages that work in place.
pub mod InPlace
