pub mod Asked
pub mod Building
pub mod Going
pub mod Said
pub mod Spelled
