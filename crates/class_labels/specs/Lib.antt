-- The lent parts of `classes` hold the classes that paper's labels tell, through every call that the rounds make.
pub mod Tied
pub mod Starting
pub mod Rows
pub mod Taking
pub mod Reading
pub mod Choosing
