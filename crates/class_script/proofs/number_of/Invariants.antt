use mathlib.Core.Path.{◌≡◌}
use lib.ListN.{drop}
use Rattle.class_script.specs.Script.{number_from}
use Rattle.class_script.proofs.number_of.Given as goal

abbrev pub invariant-loop-d : goal.invariant-loop-d
invariant-loop-d l = number_from l.value (drop l.d-index l.text) ≡ number_from 0 l.text
