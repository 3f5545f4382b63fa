-- "Told with it", as two words: by cases, so that the code needs no proof file, with the law that they are 01's.
use Rattle.std.specs.Prelude.{◌≡◌, refl, ℕ, get_or}
use Rattle.paper.specs.declared.Refusal.{Refusal}
use Rattle.paper.specs.declared.Refusal.TheVariants.{Layout, Unknown, Itself, Unreachable, Hanging, Endless, TooManySites, TooManySources, TooManyFields, TooManyRules, TooManyItems, TooManyConstrained, TooManyEqual, TooManySets, TermTooHigh, UnfoldingTooLong, PlaceUsed, Repeated}
use Rattle.paper.specs.Numbers.{told}

abbrev pub one_told : Refusal → ℕ
one_told (Layout line) = line
one_told (Unknown site) = site
one_told (Itself site) = site
one_told (Unreachable site other) = site
one_told (Hanging site) = site
one_told (Endless site) = site
one_told (TooManySites asked at) = asked
one_told (TooManySources asked at) = asked
one_told (TooManyFields asked at) = asked
one_told (TooManyRules asked) = asked
one_told (TooManyItems asked) = asked
one_told (TooManyConstrained asked) = asked
one_told (TooManyEqual asked) = asked
one_told (TooManySets asked) = asked
one_told (TermTooHigh asked) = asked
one_told (UnfoldingTooLong asked) = asked
one_told (PlaceUsed place) = place
one_told (Repeated line) = line

abbrev pub two_told : Refusal → ℕ
two_told (Layout line) = 0
two_told (Unknown site) = 0
two_told (Itself site) = 0
two_told (Unreachable site other) = other
two_told (Hanging site) = 0
two_told (Endless site) = 0
two_told (TooManySites asked at) = at
two_told (TooManySources asked at) = at
two_told (TooManyFields asked at) = at
two_told (TooManyRules asked) = 0
two_told (TooManyItems asked) = 0
two_told (TooManyConstrained asked) = 0
two_told (TooManyEqual asked) = 0
two_told (TooManySets asked) = 0
two_told (TermTooHigh asked) = 0
two_told (UnfoldingTooLong asked) = 0
two_told (PlaceUsed place) = 0
two_told (Repeated line) = 0

pub tells : (r : Refusal) → (one_told r ≡ get_or (told r) 0 0) × (two_told r ≡ get_or (told r) 1 0)
unfolding told
tells (Layout line) = (refl, refl)
tells (Unknown site) = (refl, refl)
tells (Itself site) = (refl, refl)
tells (Unreachable site other) = (refl, refl)
tells (Hanging site) = (refl, refl)
tells (Endless site) = (refl, refl)
tells (TooManySites asked at) = (refl, refl)
tells (TooManySources asked at) = (refl, refl)
tells (TooManyFields asked at) = (refl, refl)
tells (TooManyRules asked) = (refl, refl)
tells (TooManyItems asked) = (refl, refl)
tells (TooManyConstrained asked) = (refl, refl)
tells (TooManyEqual asked) = (refl, refl)
tells (TooManySets asked) = (refl, refl)
tells (TermTooHigh asked) = (refl, refl)
tells (UnfoldingTooLong asked) = (refl, refl)
tells (PlaceUsed place) = (refl, refl)
tells (Repeated line) = (refl, refl)
