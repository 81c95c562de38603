pub mod Ends
pub mod Keys
pub mod Left
pub mod Lost
pub mod Run
pub mod Seen
