-- The theorems of the call that explains, and explanations worked out by hand.
pub mod Theorems
pub mod Worked
