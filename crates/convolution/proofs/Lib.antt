-- Lemmas of the convolutional code.
pub mod WordLaws
pub mod CodingLaws
pub mod RegainingLaws
pub mod InPlace
