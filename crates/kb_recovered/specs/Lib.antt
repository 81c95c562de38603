pub mod Commits
pub mod Recovered
pub mod Windows
