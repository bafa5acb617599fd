-- The receiver: what each call does, and what follows for every history of calls.
pub mod Decisions
pub mod Steps
pub mod Histories
pub mod Laws
pub mod Calls
pub mod Fronts
pub mod Keeping
pub mod Phases
pub mod Receivers
pub mod Verdicts
pub mod Recordings
pub mod Scripts
pub mod Playback
