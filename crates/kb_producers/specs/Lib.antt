pub mod Batches
pub mod IdLaws
pub mod Ids
pub mod Recent
pub mod Table
pub mod Verdict
