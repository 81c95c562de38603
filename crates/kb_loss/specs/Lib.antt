pub mod Chains
pub mod Commits
pub mod Fronts
pub mod Known
pub mod Renewed
pub mod Since
pub mod Tenant
