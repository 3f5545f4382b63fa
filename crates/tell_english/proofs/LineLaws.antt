-- Laws of a line's end, and of the words that are picked.
use mathlib.Core.Path.{◌≡◌, refl, ap, ◌∙◌}
use mathlib.Core.Bool.{Bool, true, false}
use mathlib.Core.List.{List, [], ◌∷◌, ◌++◌}
use Prim.Native.Nat.{ℕ, ◌+◌, ◌<◌}
use native.Mathlib.Omega.{arith}
use lib.ListN.{length, length-append}
use lib.Seq.{sets, length-sets}
use lib.Dec.{leb}
use borrow.Author.Tests.{lt-ltb, le-ltb, leb-true, leb-false}
use Rattle.std.specs.declared.option.Option.TheVariants.{Some}
use Rattle.tell_text.specs.Written.{Room, wrote, with_byte, after, fits, reaches}
use Rattle.paper.specs.Answered.{Maybe}
use Rattle.sheet_findings.specs.Written.{room_said}
use Rattle.tell_english.specs.Said.{explained, said, line_end, line_room}

-- ---- LF
-- whether the text and LF had room
ended_as : (b : Bool) (m : List ℕ) (at : ℕ) (t : List ℕ) → leb (at + length (t ++ (10 ∷ []))) (length m) ≡ b → line_end (wrote (m, at) t) ≡ room_said m at (t ++ (10 ∷ []))
unfolding line_end room_said
ended_as true m at t e =
    let n = length-append t (10 ∷ []) in
    let h = leb-true (at + length (t ++ (10 ∷ []))) (length m) e in
    let l : at + length t < length (sets m at t) = rw length-sets (omega arith) in
    let k : at + length t + 1 ≡ at + length (t ++ (10 ∷ [])) = omega arith in
    rw (fits t m at (omega arith), lt-ltb (at + length t) (length (sets m at t)) l, e) (ap Some k)
ended_as false m at t e =
    let n = length-append t (10 ∷ []) in
    let h = leb-false (at + length (t ++ (10 ∷ []))) (length m) e in
    let r = reaches t m at (omega arith) in
    rw (le-ltb (wrote (m, at) t).1 (length (wrote (m, at) t).0) r, e)

pub line_said : (p q : Room) (f : List ℕ) (clean : Bool) (r : Maybe ℕ) (out : List ℕ) → q ≡ wrote p (explained clean f) → r ≡ line_end q → out ≡ line_room q → (r ≡ room_said p.0 p.1 (said clean f)) × (out ≡ (wrote p (said clean f)).0)
unfolding said line_room wrote
line_said p q f clean r out e g h =
    let t = explained clean f in (
      g ∙ (ap line_end e ∙ ended_as (leb (p.1 + length (t ++ (10 ∷ []))) (length p.0)) p.0 p.1 t refl),
      h ∙ (ap (λ z. (with_byte z 10).0) e ∙ ap (λ z. z.0) (after p t (10 ∷ []))),
    )
