-- Lemmas of the interleaver.
pub mod CallLaws
pub mod WalkLaws
pub mod InPlace
pub mod SearchSteps
