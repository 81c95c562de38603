pub mod Answered
pub mod Due
pub mod First
pub mod Indexed
pub mod Keys
pub mod Queues
pub mod Slots
pub mod Waiting
