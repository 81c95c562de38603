pub mod Fronts
pub mod Reactions
pub mod TenantAnswers
pub mod View
