-- What a reader of this crate must believe: lists said turn by turn, Table 3 of source document 003, 9.4.9.4, and its rows
-- worked out.
pub mod Turns
pub mod Items
pub mod Worked
