-- Laws of the classes of a rule.
pub mod Joining
pub mod Turning
pub mod Seating
pub mod Clashing
pub mod Grouping
