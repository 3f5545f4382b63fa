use Rattle.std.proofs.Common.{◌+◌, ◌*◌}
use Rattle.sites.proofs.+unfold_site_unfold_sources.Given as goal

abbrev pub decreases-unfold_site : goal.decreases-unfold_site
decreases-unfold_site l = l.s * 300 + 299

abbrev pub decreases-unfold_sources : goal.decreases-unfold_sources
decreases-unfold_sources l = l.s * 300 + l.left
