-- What the contracts of `rule_check` cite, beside paper's Loading.
pub mod Search
