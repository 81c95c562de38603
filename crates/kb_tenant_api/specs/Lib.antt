pub mod Acknowledged
pub mod Deletions
pub mod Hosted
pub mod Replies
pub mod Serve
pub mod Turns
pub mod Waiters
