pub mod CellLaws
pub mod HexLaws
pub mod NumberLaws
pub mod WordLaws
