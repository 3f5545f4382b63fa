-- Laws of the definitions: no definition rests on one of them.
pub mod Laws
pub mod Walks
pub mod Joins
pub mod Labels
pub mod Closure
pub mod Outcomes
pub mod Adding
pub mod Tables
pub mod Fair
pub mod Taking
pub mod Ends
pub mod Making
pub mod Bounds
pub mod Lists
