-- A removal that looks only at listed sites, on any state and any list.
-- (proofs/Listed.antt: where the list ascends and has every joined site, it is paper's `remove_set_of`.)
use Rattle.std.specs.declared.option.Option.TheVariants.{None, Some}
use Rattle.std.specs.Prelude.{List, [], ◌∷◌, ◌++◌, ℕ, zero, suc, length, get_or, ltb, leb}
use Rattle.paper.specs.Answered.{Maybe}
use Rattle.paper.specs.declared.Refusal.TheVariants.{Unknown}
use Rattle.std.specs.Prelude.{if◌then◌else◌}
use Rattle.paper.specs.Numbers.{max_sites, Outcome, done, ◌>>=◌, demand}
use Rattle.paper.specs.Classes.{Classes, flatten_in, flattened, is_at, Swept, Removed, removed}
use Rattle.classes.specs.Called.{Taken}
use Rattle.classes.specs.Answers.{taken_if}

-- the updating find on y, after those of s; y is listed where its root is r
abbrev pub swept_on : ℕ → ℕ → Swept → Swept
swept_on y r s =
    let h = flatten_in s.parents y in
    record { parents = h.0; members = if is_at h.1 (Some r) then s.members ++ (y ∷ []) else s.members }

-- on the first k of the listed sites, in their order
unfoldable pub sweep_of : List ℕ → ℕ → List ℕ → ℕ → Swept
sweep_of xs zero p r = record { parents = p; members = [] }
sweep_of xs (suc k) p r = swept_on (get_or xs k 0) r (sweep_of xs k p r)

-- x's class taken apart, with the members that the sweep w finds
abbrev pub remove_by : (List ℕ → ℕ → Swept) → Classes → Maybe ℕ → Removed
remove_by w c (Some r) = removed c (w c.parents r)
remove_by w c None = record { after = c; members = [] }

unfoldable pub remove_with : (List ℕ → ℕ → Swept) → Classes → ℕ → Outcome Removed
remove_with w c x = demand (ltb x max_sites) (Unknown x) >>= λ _. (let h = flattened c x in done (remove_by w h.after h.found))

abbrev pub remove_of : List ℕ → Classes → ℕ → Outcome Removed
remove_of xs c x = remove_with (sweep_of xs (length xs)) c x

-- where the lent memory could not hold every listed site, nothing is done
abbrev pub taken_of : Classes → List ℕ → List ℕ → ℕ → Classes × List ℕ × Taken
taken_of c xs m x = taken_if (leb (length xs) (length m)) c m (remove_of xs c x)
