pub mod Following
pub mod Recovered
pub mod Results
pub mod Windows
