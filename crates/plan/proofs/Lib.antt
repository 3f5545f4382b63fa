-- Laws. Tests and lists; which sets are ready; the check; the overlap answer from either side; the planner's order; which pairs a proposal breaks; the
-- plan; sets that pass already; the report
pub mod Tools
pub mod Readiness
pub mod Checked
pub mod Alike
pub mod Ordered
pub mod Mended
pub mod Planning
pub mod Staying
pub mod Reported
-- the theorems, and worked cases
pub mod Theorems
pub mod Cases
-- what the proofs of the functions use
pub mod CheckLaws
pub mod PlanLaws
-- the theorems, of the functions
pub mod Shipped
