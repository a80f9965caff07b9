-- What the theorems are made of, and the theorems.
pub mod SmallRows
pub mod RowBytes
pub mod Told
pub mod Writing
pub mod Reading
pub mod Settled
pub mod Accepting
pub mod Once
pub mod Theorems
pub mod Shown
