pub mod Archives
pub mod Leaves
pub mod Sizes
