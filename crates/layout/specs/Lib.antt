-- What a run means, in document 01's words: items, lawful layouts and the run without its repeats (which know nothing of reader or
-- writer), what a reader accepts, what the counts of its groups come to, where b4 begins and what its rows give, what a caller wrote,
-- what the theorems state of either, and the bench table.
pub mod Items
pub mod Layout
pub mod Repeats
pub mod Accepting
pub mod Counts
pub mod EarlyWarning
pub mod Reading
pub mod Stated
pub mod Writing
pub mod WritingStated
pub mod BenchTable
