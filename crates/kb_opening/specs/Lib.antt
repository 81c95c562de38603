pub mod Catalog
pub mod Directory
pub mod Opened
pub mod Owners
pub mod Partition
pub mod Settled
pub mod Tenant
pub mod Topics
