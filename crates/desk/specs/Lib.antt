-- The desk of a run: what it holds, and what each line does to it.
pub mod Desks
pub mod Lines
pub mod Receiving
pub mod Records
pub mod Sending
pub mod Views
