-- The proofs; Theorems has what is cited.
pub mod Paid
pub mod Fills
pub mod Lays
pub mod Warned
pub mod Takes
pub mod Rows
pub mod Owing
pub mod InOrder
pub mod Theorems
