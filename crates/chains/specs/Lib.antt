-- The chains of the frame coder.
pub mod Calls
pub mod Carries
pub mod Chains
pub mod Choices
pub mod Makings
pub mod Meanings
pub mod Refusals
pub mod Promises
pub mod Wholes
