pub mod Told
pub mod Texts
pub mod Places
pub mod Dumped
pub mod Words
