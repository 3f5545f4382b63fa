-- Turns of the loops, and what a removal takes where it looks at fewer sites than there are.
pub mod Taking
pub mod Room
pub mod Listed
