-- The flags that the rule asks after (Lengths), its laws along a group (Turns), and the profile's scan beside the plain one (Merged).
pub mod Lengths
pub mod Turns
pub mod Merged
