pub mod Extremes
pub mod FirstRefusal
pub mod Legality
pub mod SoundSizes
