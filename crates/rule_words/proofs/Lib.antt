pub mod PackLaws
pub mod CountLaws
pub mod StoreLaws
pub mod TurnLaws
