-- The worked examples together.
pub mod Examples
