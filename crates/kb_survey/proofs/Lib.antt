pub mod Changes
pub mod Checksums
pub mod CutShort
pub mod Found
pub mod Keys
pub mod Listed
pub mod Lost
pub mod Passed
