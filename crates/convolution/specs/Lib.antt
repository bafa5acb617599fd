-- The convolutional code and its stage.
pub mod Convolutions
pub mod Words
pub mod NearestLaws
pub mod BitLaws
