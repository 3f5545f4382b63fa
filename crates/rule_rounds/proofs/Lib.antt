-- Laws of the rounds.
pub mod RoundLaws
pub mod RoundGive
pub mod RoundList
pub mod Telling
pub mod RoundStep
pub mod RoundTurn
pub mod RoundPick
pub mod RoundEqual
pub mod RoundWhole
pub mod RoundLaid
