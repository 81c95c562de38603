pub mod Booked
pub mod Limits
pub mod Lines
pub mod Parts
pub mod Pieces
pub mod Rounds
pub mod Same
pub mod Sums
