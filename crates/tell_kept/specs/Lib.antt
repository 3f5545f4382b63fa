pub mod Listed
pub mod Cases
