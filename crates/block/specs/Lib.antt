-- What a reader of this crate must believe: a Sub Data Block of source document 003, 9.4.9.2, the refusals at one, and blocks
-- worked out.
pub mod Block
pub mod Faults
pub mod Worked
