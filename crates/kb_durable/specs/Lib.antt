pub mod Durable
pub mod Lawful
pub mod Standing
pub mod StandingLaws
pub mod Waiting
