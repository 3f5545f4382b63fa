pub mod TakenLaws
pub mod InOrder
