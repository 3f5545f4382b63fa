-- What the contracts of `rule_rows` cite, beside paper's Loading.
pub mod Holding
