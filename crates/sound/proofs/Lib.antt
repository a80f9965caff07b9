-- What a sound state and an accepted call are known by: the laws that the crates above cite; and exits of the chains.
pub mod Exits
pub mod SoundLaws
pub mod Accepted
