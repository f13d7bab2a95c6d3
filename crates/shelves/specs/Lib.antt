pub mod Faults
pub mod Adding
pub mod Room
pub mod Cells
pub mod FramedBytes
