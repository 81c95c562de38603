pub mod Finding
pub mod Places
pub mod Stamps
pub mod Tables
