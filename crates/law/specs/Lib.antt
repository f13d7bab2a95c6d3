pub mod Law
pub mod Performing
pub mod Figures
pub mod Examples
