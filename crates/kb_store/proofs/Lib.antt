pub mod Ascending
pub mod Disks
pub mod Maps
pub mod Seen
