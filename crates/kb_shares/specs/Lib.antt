pub mod Calls
pub mod Holder
pub mod Ledger
pub mod Shares
pub mod Turns
