-- change request [11], computed; and what the contracts of the code cite
pub mod Plans
pub mod Lent
pub mod Answered
