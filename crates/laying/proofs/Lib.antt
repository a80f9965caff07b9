-- Laws of the start, of signed numbers and of the room, which the proofs of this crate share and the crates above cite.
pub mod Starts
pub mod SignedLaws
pub mod RoomLaws
pub mod Closing
pub mod Worked
