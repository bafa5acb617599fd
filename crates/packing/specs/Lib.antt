-- A header's bits, and the five bytes that it packs to.
pub mod Bits
pub mod Examples
pub mod Faults
pub mod Laws
pub mod Packings
