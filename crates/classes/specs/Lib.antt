-- What the contracts and the laws of `classes` cite, beside paper's Classes.
pub mod Answers
pub mod Well
pub mod Equal
pub mod Made
pub mod Called
