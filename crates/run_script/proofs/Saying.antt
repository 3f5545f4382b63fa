-- Turns of the loops that read a script.
use Rattle.std.proofs.Common.{◌≡◌, ℕ, zero, suc, ◌+◌, ◌<◌, ◌≤◌, Bool, true, false, not, List, [], ◌∷◌, ◌++◌, length, get_or, take, sym, refl, add-one, arith, le-ltb, lt-ltb}
use Rattle.paper.specs.Text.{unended}
use Rattle.paper.specs.Classes.{Classes}
use Rattle.class_script.specs.Script.{stepped, call_in}
use Rattle.class_script.specs.declared.Reply.{Reply}
use Rattle.class_script.specs.declared.Reply.TheVariants as reply
use Rattle.tell_text.specs.Written.{Room, wrote, nothing}
use Rattle.tell_text.specs.Decimal.{decimal}
use Rattle.run_script.specs.Said.{lf, replied, unended_text, Standing, Took, IsFedTo, Read, ReadTo}

-- ---- a line
pub replied_long : (c : Classes) (ms line : List ℕ) (used : ℕ) → length line < used → ◌≡◌ {A = Classes × List ℕ × Reply} (c, ms, reply.Bad) (replied c ms line used)
unfolding replied
replied_long c ms line used h = rw (lt-ltb (length line) used h)

pub replied_call : (c : Classes) (ms line : List ℕ) (used : ℕ) (x : Classes × List ℕ × Reply) → used ≤ length line → x ≡ stepped c ms (call_in (take used line)) → x ≡ replied c ms line used
unfolding replied
replied_call c ms line used x h e = rw (le-ltb (length line) used h) e

pub unended_none : (p : Room) (used line : ℕ) → used ≡ 0 → p ≡ wrote p (unended_text used line)
unfolding unended_text
unended_none p zero line e = nothing p
unended_none p (suc n) line e = absurd (omega arith)

pub unended_some : (p q : Room) (used line : ℕ) → (used ≡ 0 → ⊥) → q ≡ wrote p ((unended "bad " ++ decimal line) ++ (lf ∷ [])) → q ≡ wrote p (unended_text used line)
unfolding unended_text
unended_some p q zero line d e = absurd (d refl)
unended_some p q (suc n) line d e = e

-- ---- bytes
pub goes : (b : Bool) → not b ≡ false → b ≡ true
goes true e = refl
goes false e = sym e

pub fed_none : (bytes : List ℕ) (s : Standing) → IsFedTo bytes 0 s s
unfolding IsFedTo
fed_none bytes s = refl

pub fed_more : (bytes : List ℕ) (i : ℕ) (s t u : Standing) → IsFedTo bytes i s t → t.place.goes ≡ true → Took (get_or bytes i 0) t u → IsFedTo bytes (i + 1) s u
unfolding IsFedTo
fed_more bytes i s t u F g T = rw add-one (t, F, g, T)

-- ---- chunks
pub read_none : (s : Standing) → ReadTo 0 s s
unfolding ReadTo
read_none s = refl

pub read_more : (i : ℕ) (s t u : Standing) → ReadTo i s t → t.place.goes ≡ true → Read t u → ReadTo (i + 1) s u
unfolding ReadTo
read_more i s t u F g R = rw add-one (t, F, g, R)
