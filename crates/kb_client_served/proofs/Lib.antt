pub mod Held
pub mod Answered
pub mod Whole
