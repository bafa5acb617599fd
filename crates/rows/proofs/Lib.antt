-- Lemmas about rows.
pub mod GatherLaws
pub mod FitLaws
pub mod CarrierLaws
pub mod RowLaws
pub mod ChainLaws
