pub mod Disk
pub mod Fused
pub mod Loss
pub mod LossLaws
pub mod Memory
