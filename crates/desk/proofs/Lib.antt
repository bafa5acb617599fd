pub mod RecordLaws
pub mod SendingLaws
pub mod TakingLaws
pub mod TurnLaws
