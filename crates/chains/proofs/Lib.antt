-- Lemmas of the chains.
pub mod Steps
pub mod CellSteps
pub mod HeaderSteps
pub mod PayloadSteps
pub mod MadeChains
pub mod Callers
