-- What the contracts of `rule_classes` cite.
pub mod Growing
pub mod Meeting
