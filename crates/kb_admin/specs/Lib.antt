pub mod Names
pub mod Outcomes
pub mod Stages
pub mod Settings
pub mod Requests
pub mod Replies
pub mod Session
pub mod Faults
