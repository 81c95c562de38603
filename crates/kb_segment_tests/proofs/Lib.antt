pub mod Listed
pub mod Reopened
pub mod StillSound
