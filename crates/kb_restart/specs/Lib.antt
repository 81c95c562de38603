pub mod Again
pub mod Alone
pub mod Counts
pub mod Lengths
pub mod Restart
