pub mod Route
pub mod Answer
