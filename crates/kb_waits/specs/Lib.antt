pub mod Due
pub mod Entries
pub mod Entry
pub mod Queue
pub mod Waiters
pub mod Waits
