pub mod Calls
pub mod Groups
pub mod Replies
pub mod Requests
pub mod Tools
