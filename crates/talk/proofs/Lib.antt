pub mod LiveLaws
pub mod PackLaws
