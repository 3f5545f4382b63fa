-- [3] of what is shipped: `sheet_read::check`, which the program and the box stand on. What it writes is the findings of the sheet, and with the old
-- numbers put in they are what 01 answered before.
use Rattle.std.specs.declared.result.Result.TheVariants.{Ok}
use Rattle.std.specs.Prelude.{◌≡◌, List, map, ℕ}
use Rattle.std.proofs.Common.{ap, ◌∙◌}
use Rattle.paper.specs.Words.{joined}
use Rattle.paper.specs.Layout.{hex}
use Rattle.sheet_findings.specs.Written.{written_at}
use Rattle.sheet_read.specs.Whole.{Checks}
use Rattle.sheet_read.specs.declared.Unchecked.TheVariants as checked
use Rattle.old_numbers.specs.Before.{old_frame, findings_before}
use Rattle.old_numbers.specs.Old.{found_in, findings_now}
use Rattle.old_numbers.proofs.Frames.{findings_old}

pub check_old : (sheet m ws i room room' : List ℕ) (n : ℕ) → Checks sheet m ws i room room' (Ok n)
    → (room' ≡ written_at room 0 (joined (map hex (found_in sheet)))) × (joined (map hex (map old_frame (found_in sheet))) ≡ findings_before sheet)
check_old sheet m ws i room room' n c = (c.1 ∙ ap (λ z. written_at room 0 z) (findings_now sheet), findings_old sheet)
