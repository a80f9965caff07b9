-- The laws of the buffer: a change touches one byte of one column, turns add up to every column, and the first column that a
-- test fails.
pub mod Places
pub mod Failing
