-- The field of 256 bytes and the codes over it.
pub mod Codes
pub mod Fields
pub mod Meanings
pub mod Words
pub mod WordLaws
pub mod ParityLaws
pub mod FieldFacts
pub mod SpanLaws
pub mod LinearLaws
pub mod GeneratorLaws
