pub mod NamesInOrder
pub mod Keys
pub mod Addresses
pub mod Entries
pub mod AllowedConnections
pub mod StandardText
pub mod Parts
