pub mod Holding
-- Laws of loading.
pub mod Placing
pub mod Walking
pub mod Gates
pub mod Widening
pub mod Parting
pub mod Laying
pub mod Checking
pub mod Keeping
pub mod Ranging
pub mod Afterwards
