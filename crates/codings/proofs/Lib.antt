-- Lemmas of the stages.
pub mod DivisionLaws
pub mod InPlace
pub mod FillInPlace
pub mod UnpackInPlace
