use native.Mathlib.Omega.{arith}
use Rattle.std.proofs.lemmas.List.{length-take-le}
use Rattle.sheet_lines.specs.Fed.{max_held}
use Rattle.sheet_state.proofs.put_bytes.Goals as goal

pub copy_from_slice-requires : goal.copy_from_slice-requires
copy_from_slice-requires c = omega (arith, length-take-le max_held c.args.held.now c.requires, c.told-bytes)
