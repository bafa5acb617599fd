-- Lemmas about a header's bits and bytes.
pub mod BitLaws
pub mod ByteLaws
pub mod HeaderBits
pub mod PackingLaws
pub mod WordCalls
pub mod WordFaults
pub mod WordLaws
