pub mod Filling
pub mod Goes
pub mod Right
pub mod Seen
pub mod Sums
