-- What the contracts of `rule_hanging` cite, beside paper's Loading.
pub mod Seen
