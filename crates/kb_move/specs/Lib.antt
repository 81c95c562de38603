pub mod Alike
pub mod Backup
pub mod Copied
