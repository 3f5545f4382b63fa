-- What `explain` comes to: the findings in words are each finding in words.
use mathlib.Core.Path.{◌≡◌, refl, ap, ◌∙◌}
use mathlib.Core.Bool.{Bool, true, false, ◌&&◌}
use mathlib.Core.Option.{Option, none, some}
use mathlib.Core.List.{List, [], ◌∷◌, ◌++◌, map}
use Prim.Native.Nat.{ℕ, ◌+◌, ◌*◌, ◌%◌, ◌≤◌}
use native.Mathlib.Omega.{arith}
use lib.ListN.{length, take}
use lib.Seq.{take_all}
use lib.Dec.{ltb}
use borrow.Author.Tests.{ltb-true}
use Rattle.std.specs.Prelude.{if◌then◌else◌}
use Rattle.paper.specs.Words.{joined}
use Rattle.paper.specs.Layout.{lines, digit, with_byte, bytes}
use Rattle.sheet_findings.specs.Written.{digits_of}
use Rattle.sheet_findings.specs.ReadBack.{AllBytes, digits_back, line_back}
use Rattle.sheet_lines.specs.Pieces.{as_lines}
use Rattle.tell_english.specs.Said.{said}
use Rattle.run_answers.specs.Told.{byte_of, bytes_in, finding_room, finding_in, lines_said, in_words}

no_way : {A : Type 0} {B : Type 0} {s : B} → none ≡ some s → A
no_way e = absurd (let z : ◌≡◌ {A = ℕ} 0 1 = cc in omega arith)

-- ---- the bytes that digits write, where all are digits
one_byte : (h l : ℕ) (u s : List ℕ) → with_byte h l (some u) ≡ some s → (h % 16 * 16 + l % 16) ∷ u ≡ s
one_byte h l u s e = go (ltb h 16) (ltb l 16) refl refl e
  where
    go : (a b : Bool) → ltb h 16 ≡ a → ltb l 16 ≡ b → (if a && b then some ((h * 16 + l) ∷ u) else none) ≡ some s → (h % 16 * 16 + l % 16) ∷ u ≡ s
    go true true x y f =
        let i = ltb-true h 16 x in
        let j = ltb-true l 16 y in
        let n : h % 16 * 16 + l % 16 ≡ h * 16 + l = omega arith in
        let z : (h * 16 + l) ∷ u ≡ s = cc in
        ap (λ (k : ℕ). k ∷ u) n ∙ z
    go true false x y f = no_way f
    go false b x y f = no_way f

bytes_some : (l s : List ℕ) → bytes l ≡ some s → bytes_in l ≡ s
unfolding bytes bytes_in
bytes_some [] s e = let z : [] ≡ s = cc in z
bytes_some (h ∷ []) s e = no_way e
bytes_some (h ∷ k ∷ t) s e = go (bytes t) refl e (bytes_some t)
  where
    go : (o : Option (List ℕ)) → bytes t ≡ o → with_byte (digit h) (digit k) o ≡ some s → ((u : List ℕ) → bytes t ≡ some u → bytes_in t ≡ u) → byte_of h k ∷ bytes_in t ≡ s
    go none x f w = no_way f
    go (some u) x f w = ap (λ z. byte_of h k ∷ z) (w u x) ∙ one_byte (digit h) (digit k) u s f

abbrev pub Findings : List (List ℕ) → Type 0
Findings [] = Unit {0}
Findings (x ∷ f) = AllBytes x × (length x ≤ finding_room) × Findings f

finding_back : (x : List ℕ) → AllBytes x → length x ≤ finding_room → finding_in (digits_of x) ≡ x
unfolding finding_in
finding_back x b n = ap (take finding_room) (bytes_some (digits_of x) x (digits_back x b)) ∙ take_all finding_room x n

-- each finding in words, one after the other
pub each_in_words : (clean : Bool) (f : List (List ℕ)) → Findings f → in_words clean (as_lines f) ≡ joined (map (said clean) f)
unfolding in_words joined lines
each_in_words clean [] w = refl
each_in_words clean (x ∷ f) w =
    ap (lines_said clean) (line_back x (as_lines f) w.0)
    ∙ (ap (λ z. said clean z ++ in_words clean (as_lines f)) (finding_back x w.0 w.1) ∙ ap (λ z. said clean x ++ z) (each_in_words clean f w.2))
