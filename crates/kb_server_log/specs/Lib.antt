pub mod Change
pub mod Guard
pub mod Lines
