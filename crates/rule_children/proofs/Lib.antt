pub mod WordLaws
pub mod NextLaws
pub mod ScanLaws
pub mod GrowLaws
pub mod AnswerLaws
pub mod One
