-- The report of a set that is ended.
use Rattle.std.specs.Result.{result_unwrap_or}
use Rattle.std.specs.Prelude.{List, ◌++◌, ℕ, ◌+◌, take, drop}
use Rattle.report.specs.Lines.{reported, room_after}
use Rattle.report.specs.Reported.{Reported}

-- from `at` on
abbrev pub count_of : Reported → ℕ
count_of r = result_unwrap_or r 0

abbrev pub report_end : List ℕ → ℕ → ℕ → List ℕ → ℕ → ℕ
report_end ws n flags room at = at + count_of (reported ws n flags (drop at room))

abbrev pub report_after : List ℕ → ℕ → ℕ → List ℕ → ℕ → List ℕ
report_after ws n flags room at = take at room ++ room_after ws n flags (drop at room)
