-- What is put into the room, by the definitions of what a call is answered.
use mathlib.Core.Path.{◌≡◌, refl, ap, ◌∙◌}
use mathlib.Core.List.{List, [], ◌∷◌, ◌++◌}
use Prim.Native.Nat.{ℕ, zero, suc, ◌+◌}
use native.Mathlib.Numerals.{add-one}
use lib.ListN.{get_or}
use Rattle.paper.specs.declared.Refusal.{Refusal}
use Rattle.paper.specs.declared.Refusal.TheVariants.{Layout, Unknown, Itself, Unreachable, Hanging, Endless, TooManySites, TooManySources, TooManyFields, TooManyRules, TooManyItems, TooManyConstrained, TooManyEqual, TooManySets, TermTooHigh, UnfoldingTooLong, PlaceUsed, Repeated}
use Rattle.tell_text.specs.Written.{Room, wrote, nothing, follows}
use Rattle.tell_text.specs.Decimal.{decimal}
use Rattle.tell_reply.specs.Replies.{refusal_text, member_text, members_text}

-- the same text by another name
pub told : (p q : Room) (s t : List ℕ) → s ≡ t → q ≡ wrote p s → q ≡ wrote p t
told p q s t e f = f ∙ ap (wrote p) e

pub refusal_other : (e : Refusal) → ((x : ℕ) → e ≡ Unknown x → ⊥) → ((x : ℕ) → e ≡ Itself x → ⊥) → refusal_text e ≡ []
refusal_other (Unknown x) u i = absurd (u x refl)
refusal_other (Itself x) u i = absurd (i x refl)
refusal_other (Layout a) u i = refl
refusal_other (Unreachable a b) u i = refl
refusal_other (Hanging a) u i = refl
refusal_other (Endless a) u i = refl
refusal_other (TooManySites a b) u i = refl
refusal_other (TooManySources a b) u i = refl
refusal_other (TooManyFields a b) u i = refl
refusal_other (TooManyRules a) u i = refl
refusal_other (TooManyItems a) u i = refl
refusal_other (TooManyConstrained a) u i = refl
refusal_other (TooManyEqual a) u i = refl
refusal_other (TooManySets a) u i = refl
refusal_other (TermTooHigh a) u i = refl
refusal_other (UnfoldingTooLong a) u i = refl
refusal_other (PlaceUsed a) u i = refl
refusal_other (Repeated a) u i = refl

pub member_next : (i x : ℕ) → (i ≡ 0 → ⊥) → member_text i x ≡ (32 ∷ []) ++ decimal x
member_next zero x d = absurd (d refl)
member_next (suc i) x d = refl

-- ---- the members
pub members_none : (p : Room) (ms : List ℕ) → p ≡ wrote p (members_text ms 0)
unfolding members_text
members_none p ms = nothing p

pub members_more : (p q r : Room) (ms : List ℕ) (i : ℕ) → q ≡ wrote p (members_text ms i) → r ≡ wrote q (member_text i (get_or ms i 0)) → r ≡ wrote p (members_text ms (i + 1))
unfolding members_text
members_more p q r ms i e f = rw add-one (follows p q r (members_text ms i) (member_text i (get_or ms i 0)) e f)
