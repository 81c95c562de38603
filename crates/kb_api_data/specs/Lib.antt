pub mod Both
pub mod FetchRecords
pub mod FetchSession
pub mod Layouts
pub mod Lawful
pub mod ProduceV5
