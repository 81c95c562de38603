pub mod Asked
pub mod Cached
pub mod Kept
