-- What the contracts of `term_table` cite.
pub mod Table
-- the sets that the table's edges come from
pub mod Heads
-- 01's example
pub mod Example
-- what each loop of the private functions makes
pub mod Loops
