pub mod Fronts
pub mod Logins
pub mod Nuls
pub mod Streams
