pub mod Refusals
pub mod Answers
pub mod Carrying
pub mod Day
