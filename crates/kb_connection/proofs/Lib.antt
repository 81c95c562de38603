pub mod Bodies
pub mod Answering
pub mod Appended
pub mod Reacting
pub mod Turning
pub mod Fronts
pub mod Limits
