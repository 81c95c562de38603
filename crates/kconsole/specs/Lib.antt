pub mod Console
pub mod Usage
pub mod Printing
