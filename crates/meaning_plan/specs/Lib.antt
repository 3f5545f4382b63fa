-- made sets are ready; the page
pub mod Made
pub mod Proposals
