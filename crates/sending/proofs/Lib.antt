-- Lemmas about sending.
pub mod SentLaws
pub mod CallLaws
pub mod LawProofs
