-- Laws of what a script is answered.
pub mod Saying
pub mod Fitting
pub mod Stopping
