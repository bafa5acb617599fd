-- Lemmas of the field and of the codes over it.
pub mod CallLaws
pub mod MultiplyLaws
pub mod RegisterLaws
pub mod InPlace
