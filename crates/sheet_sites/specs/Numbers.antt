-- One site more, as far as the type goes; a set has fewer.
use Rattle.std.specs.Prelude.{ℕ, ◌+◌, ltb}
use Rattle.std.specs.Prelude.{if◌then◌else◌}

abbrev pub next_of : ℕ → ℕ
next_of n = if ltb n 65535 then n + 1 else n
