pub mod Writes
pub mod RowLeaves
pub mod Outputs
