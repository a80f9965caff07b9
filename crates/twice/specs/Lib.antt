-- What a reader of this crate must believe, in document 01's words and by what a caller sees: how full a closed group is; what a
-- call lays and leaves; which calls are taken; what a read's rows are; which totals are owed too early; in which order calls refuse.
pub mod Filled
pub mod Laid
pub mod Taking
pub mod RowsAre
pub mod Owing
pub mod Orders
