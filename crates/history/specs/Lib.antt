pub mod Histories
pub mod Layout
pub mod Laws
pub mod Examples
