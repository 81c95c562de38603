pub mod ClientFrames
pub mod FrameStream
pub mod Frames
pub mod Lawful
pub mod Layouts
pub mod Plain
