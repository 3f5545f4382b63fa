pub mod Rounding
pub mod RoundState
pub mod Halted
