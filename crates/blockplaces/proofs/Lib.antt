-- What is found of a group's rows, by its pieces (Found); the records' first bytes (Heads); each block's group (Places); Theorems
-- has what is cited.
pub mod Found
pub mod Heads
pub mod Places
pub mod Theorems
