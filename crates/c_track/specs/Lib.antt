-- What a reader of this crate must believe: what the two calls on a track leave.
pub mod Calls
