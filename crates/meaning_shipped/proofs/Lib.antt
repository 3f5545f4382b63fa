-- Shipped is the page of statements. The others are proofs of it: of lent memory that calls made, what it means, the reader's bytes, the 15 of a sheet.
pub mod Shipped
pub mod Handed
pub mod Made
pub mod Lent
pub mod Bytes
pub mod Counts
