pub mod Changes
pub mod Ending
pub mod Listed
pub mod Lost
pub mod Postponed
pub mod Snapshot
pub mod Stray
pub mod Whole
