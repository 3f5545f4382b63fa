pub mod PlanText
pub mod Lent
