-- The codings of the third party's stages.
pub mod Complement
pub mod Mark
pub mod Complements
pub mod Marks
