-- Lemmas of the stage crate.
pub mod Misfits
pub mod Calling
