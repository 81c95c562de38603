pub mod Receiver
pub mod Sending
pub mod Partition
pub mod Fetching
pub mod Consuming
