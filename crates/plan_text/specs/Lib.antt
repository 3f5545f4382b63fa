pub mod Lines
pub mod Proposal
pub mod Walk
