-- The laws by which each call from C meets its contract.
pub mod Calls
