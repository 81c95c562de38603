pub mod Alike
pub mod Backup
pub mod Copies
pub mod Disks
pub mod Honest
pub mod Joined
pub mod Placed
