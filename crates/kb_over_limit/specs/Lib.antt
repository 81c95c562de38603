pub mod Coded
pub mod Over
pub mod Tally
