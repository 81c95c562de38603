pub mod Aside
pub mod Damaged
pub mod Deleted
pub mod Kept
pub mod Left
pub mod Starts
pub mod Survey
pub mod Verdict
