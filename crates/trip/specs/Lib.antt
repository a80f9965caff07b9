-- What a reader of this crate must believe: what C does and sees when it writes and reads a run, and what is stated of it.
pub mod ThroughC
pub mod Stated
