pub mod Answers
pub mod Examples
pub mod Headers
pub mod Laws
pub mod Lengths
pub mod Modulations
pub mod Refusals
pub mod Sizes
