-- The laws of one column: its sums, what restoring and mending give, what the code's tests say; and its theorems.
pub mod Totals
pub mod Steps
pub mod Restoring
pub mod Mending
pub mod Judging
pub mod Theorems
