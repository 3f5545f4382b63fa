-- What the shipped functions' answers mean. Shipped is the page of statements, and Words has its words; the others are proofs. (What rests on lent memory that
-- calls made, and on the count of rules, stands on the page proofs/Shipped.antt.)
pub mod Shipped
pub mod Words
-- lent memory that calls made
pub mod Keeping
pub mod Origin
-- sheets
pub mod Reports
pub mod Line
pub mod Reader
pub mod Says
pub mod Cycles
pub mod Counts
pub mod Last
pub mod Memory
pub mod Text
