pub mod Codec
pub mod ErrorCode
pub mod Fits
pub mod Laws
pub mod Reads
pub mod Sunk
pub mod Varint
pub mod VarintLaws
