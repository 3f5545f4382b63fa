-- What a call answers, in the words of Rust's library: a value or nothing, and a value or why it is refused.
use Rattle.std.specs.declared.option.Option.{Option}
use Rattle.std.specs.declared.result.Result.{Result}
use Rattle.paper.specs.declared.Refusal.{Refusal}

abbrev pub Maybe : Type 0 → Type 0
Maybe A = Option A

abbrev pub Answer : Type 0 → Type 0
Answer A = Result A Refusal

-- the call goes on, or is refused
abbrev pub Verdict : Type 0
Verdict = Answer (Unit {0})
