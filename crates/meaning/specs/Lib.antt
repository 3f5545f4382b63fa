-- Theorems about the definitions of paper. Code never needs them; readers do. These four state them:
pub mod Demand3
pub mod Corollaries
pub mod Overlaps
pub mod Only
-- and one word of theirs
pub mod RuleSites
-- one instance end to end
pub mod Instance
-- values, kinds of sites, inputs
pub mod Values
pub mod Kinds
pub mod Eval
-- solved forms and their inputs; the rounds
pub mod Model
pub mod Round
pub mod Whole
pub mod Generic
-- paper's tables, labels and lists
pub mod Places
pub mod Grow
pub mod Lists
pub mod Joining
-- paper's loader: a round, the rounds, the items, checks 5, 4 and 6, and the whole
pub mod Clear
pub mod Exec
pub mod Rounds
pub mod Items
pub mod Hangs
pub mod Checks
pub mod Loads
pub mod Answers
-- paper's comparison of two kept rules
pub mod Pairs
