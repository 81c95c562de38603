pub mod Ends
pub mod Gone
pub mod InWay
pub mod Lost
pub mod Parts
pub mod Recorded
