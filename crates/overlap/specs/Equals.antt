-- The answer where the larger rule has every constraint of the smaller: Subset where neither has equal sites.
use Rattle.std.specs.Prelude.{◌&&◌}
use Rattle.paper.specs.declared.Overlap.{Overlap}
use Rattle.paper.specs.declared.Overlap.TheVariants.{Yes, Subset}
use Rattle.std.specs.Prelude.{if◌then◌else◌}
use Rattle.paper.specs.Loading.{Kept}
use Rattle.paper.specs.Rules.{no_equals}

abbrev pub subset_or_yes : Kept → Kept → Overlap
subset_or_yes x y = if no_equals x.equals && no_equals y.equals then Subset else Yes
