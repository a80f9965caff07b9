-- What a reader of this crate must believe: a run that the profile accepts to its end, at home and through C, and records of
-- one length.
pub mod Stated
pub mod ThroughC
