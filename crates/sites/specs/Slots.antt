-- A set's sites in lent bytes: slots of 32 bytes, a length byte and then the sheet body, kind byte first. Definitions, and one law that definitions
-- elsewhere cite.
use Rattle.std.specs.declared.result.Result.TheVariants.{Err, Ok}
use Rattle.std.specs.declared.option.Option.TheVariants.{None, Some}
use Rattle.std.specs.Prelude.{◌&&◌, true, ◌≡◌, refl, length, get_or, take, drop, ltb, leb}
use Rattle.std.proofs.Math.Option.{Option, none, some}
use mathlib.Core.List.{List, [], ◌∷◌, ◌++◌}
use Prim.Native.Nat.{ℕ, zero, suc, ◌+◌, ◌*◌, ◌≤◌, ◌<◌}
use Rattle.std.proofs.Common.{◌∙◌, arith, length-append}
use Rattle.paper.specs.declared.Refusal.TheVariants.{Layout, TooManySites}
use Rattle.std.specs.Prelude.{if◌then◌else◌}
use Rattle.paper.specs.Words.{below}
use Rattle.paper.specs.Numbers.{Outcome, done, refused, ◌>>=◌, demand}
use Rattle.paper.specs.Layout.{whole, site_read}
use Rattle.paper.specs.Sites.{Site, body, Sites, Added, add, unfolded as unfolded-by}
use Rattle.site_body.specs.Body.{is_body}
use Rattle.paper.specs.Answered.{Answer}
use Rattle.sites.specs.declared.Numbered.{Numbered}
use Rattle.sites.specs.declared.Numbered.TheVariants as numbered
use Rattle.paper.specs.Answered.{Answer}
use Rattle.paper.specs.Answered.{Maybe}
pub use Rattle.site_slots.specs.Seeking.{slot}
pub use Rattle.site_body.specs.Body.{no_site, site_of, found_as}

-- the body in slot i. A slot that is not whole, or whose length passes it, has none.
unfoldable pub slot_body : List ℕ → ℕ → List ℕ
slot_body m i = if leb (i * slot + slot) (length m) && ltb (get_or m (i * slot) 0) slot then take (get_or m (i * slot) 0) (drop (i * slot + 1) m) else []

unfoldable pub site_in : List ℕ → ℕ → Site
site_in m i = site_of (slot_body m i)

-- the first n sites
unfoldable pub sites_in : List ℕ → ℕ → Sites
sites_in m n = below n (site_in m)

-- a body that a slot can hold, and not what bytes that are no body are read as
pub record Findable (b : List ℕ) : Type 0 where
  pub shape : is_body b ≡ true
  pub fits : length b < slot
  pub real : site_of b ≡ no_site → ⊥

-- ---- adding

-- a table that the lent bytes can't hold is full, as one that passes the numbers is
abbrev pub held_by : List ℕ → ℕ → Added → Outcome Added
held_by m at a = demand (leb (length a.sites * slot) (length m)) (TooManySites (length a.sites) at) >>= λ _. done a

abbrev pub add_body : List ℕ → ℕ → ℕ → Option Site → Outcome Added
add_body m n at none = refused (Layout at)
add_body m n at (some s) = add (sites_in m n) at s >>= held_by m at

unfoldable pub added_in : List ℕ → ℕ → ℕ → List ℕ → Outcome Added
added_in m n at b = add_body m n at (whole (site_read b))

-- the number, and whether it is new
abbrev pub numbered_as : ℕ → Outcome Added → Answer Numbered
numbered_as n (done a) = if ltb a.number n then (Ok (numbered.Known a.number)) else (Ok (numbered.Fresh a.number))
numbered_as n (refused r) = Err r

-- the memory m with the bytes s from `at` on
unfoldable pub put : List ℕ → ℕ → List ℕ → List ℕ
put m at s = take at m ++ s ++ drop (at + length s) m

-- the memory m with the sites s in its slots from n on
unfoldable pub store : List ℕ → ℕ → List Site → List ℕ
store m n [] = m
store m n (s ∷ rest) = store (put m (n * slot) (length (body s) ∷ body s)) (suc n) rest

-- the memory afterwards: the sites past the first n are new
abbrev pub after_add : List ℕ → ℕ → Outcome Added → List ℕ
after_add m n (done a) = store m n (drop n a.sites)
after_add m n (refused r) = m

-- ---- unfolding

-- the unfolding of site s, by the sites up to it
unfoldable pub unfolded_in : List ℕ → ℕ → List ℕ
unfolded_in m s = unfolded-by (sites_in m (suc s)) s

-- how many bytes were written
abbrev pub unfolded_as : Outcome (List ℕ) → Answer ℕ
unfolded_as (done u) = Ok (length u)
unfolded_as (refused r) = Err r

abbrev pub after_unfold : List ℕ → Outcome (List ℕ) → List ℕ
after_unfold room (done u) = put room 0 u
after_unfold room (refused r) = room

-- where the bytes u end that are written from `at` on, if the room reaches that far
abbrev pub end_at : ℕ → ℕ → List ℕ → Maybe ℕ
end_at room at u = if leb (at + length u) room then Some (at + length u) else None

pub record Writes (out : List ℕ) (at : ℕ) (u : List ℕ) (r : Maybe ℕ) (out' : List ℕ) : Type 0 where
  pub is : r ≡ end_at (length out) at u
  pub bytes : at + length u ≤ length out → out' ≡ put out at u

-- ---- how many there are below a number
pub length_below : {A : Type 0} (n : ℕ) (f : ℕ → A) → length (below n f) ≡ n
unfolding below
length_below zero f = refl
length_below (suc n) f = length-append (below n f) (f n ∷ []) ∙ (let e = length_below n f in omega arith)
