-- What 01 and 02 leave, whatever the reader and the lent memory hold.
use Rattle.std.specs.declared.result.Result.TheVariants.{Err, Ok}
use Rattle.std.specs.declared.option.Option.TheVariants.{None, Some}
use Rattle.std.specs.Prelude.{List, ℕ, length, drop, eqb}
use Rattle.paper.specs.declared.Refusal.TheVariants.{Layout, Repeated}
use Rattle.paper.specs.Answered.{Verdict}
use Rattle.std.specs.Prelude.{if◌then◌else◌}
use Rattle.sites.specs.Slots.{added_in, numbered_as, after_add}
use Rattle.paper.specs.Answered.{Answer}
use Rattle.sites.specs.declared.Numbered.{Numbered}
use Rattle.sites.specs.declared.Numbered.TheVariants as numbered
use Rattle.sheet_ended.specs.Sets.{verdict_as, may_begin}
use Rattle.sheet_reader.specs.State.{Lent, lent}
use Rattle.sheet_reader.specs.Answers.{is_outside, site_set}
use Rattle.sheet_reader.specs.Leaves.{After, after, gone_on, stop_in}
use Rattle.sheet_reader.specs.declared.OpenSet.{OpenSet}
use Rattle.sheet_reader.specs.declared.Reader.{Reader}
use Rattle.sheet_reader.specs.declared.Event.TheVariants as event
use Rattle.sheet_reader.specs.declared.Stands.TheVariants.{Sites}
use Rattle.paper.specs.Answered.{Maybe}
use Rattle.sheet_sites.specs.Numbers.{next_of}

-- ---- "01 term, flags": 1 where a set is open, "9 for a term used before, then 7"
abbrev pub new_set : ℕ → ℕ → OpenSet
new_set t f = record { term = t; flags = f; sites = 0; rules = 0 }

abbrev pub begin_judged : Reader → Lent → List ℕ → ℕ → OpenSet → Verdict → After
begin_judged r k room at s (Ok _) = after (gone_on r (Sites s) event.Begun at) k room
begin_judged r k room at s (Err why) = stop_in r k room at why

abbrev pub begin_as : Reader → Lent → List ℕ → ℕ → ℕ → ℕ → Verdict → After
begin_as r k room at t f v = if is_outside r.stands then begin_judged r k room at (new_set t f) v else stop_in r k room at (Layout r.line)

unfoldable pub begin_in : Reader → Lent → List ℕ → ℕ → ℕ → ℕ → After
begin_in r k room at t f = begin_as r k room at t f (verdict_as (may_begin r.ended t r.line))

-- ---- "02 kind, body": 1 where no set is before its first rule, 9 for a site that the set has, then 2 and 7
abbrev pub one_site_more : OpenSet → OpenSet
one_site_more s = record { term = s.term; flags = s.flags; sites = next_of s.sites; rules = s.rules }

abbrev pub site_numbered : Reader → Lent → List ℕ → ℕ → OpenSet → Answer Numbered → After
site_numbered r k room at s (Ok (numbered.Known i)) = stop_in r k room at (Repeated r.line)
site_numbered r k room at s (Err why) = stop_in r k room at why
site_numbered r k room at s (Ok (numbered.Fresh i)) = after (gone_on r (Sites (one_site_more s)) event.Site at) k room

abbrev pub site_where : Reader → Lent → List ℕ → ℕ → List ℕ → Maybe OpenSet → After
site_where r k room at b None = stop_in r k room at (Layout r.line)
site_where r k room at b (Some s) =
    let added = added_in k.sites s.sites r.line b in
    site_numbered r (lent (after_add k.sites s.sites added) k.words k.items k.table) room at s (numbered_as s.sites added)

unfoldable pub site_in : Reader → Lent → List ℕ → ℕ → List ℕ → After
site_in r k room at b = site_where r k room at b (site_set r.stands)

-- the body stands behind the frame's first byte
unfoldable pub site_line_in : Reader → Lent → List ℕ → ℕ → List ℕ → After
site_line_in r k room at bytes = if eqb (length bytes) 0 then stop_in r k room at (Layout r.line) else site_in r k room at (drop 1 bytes)
