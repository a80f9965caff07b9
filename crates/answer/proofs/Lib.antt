-- What the rooms above share: no two refusals have one number, and no two results of a call tell the same.
pub mod Once
