-- What a reading says of its line: the paper's frame, whole. Only a site's fields are not in the answer, and they are in the bytes.
use mathlib.Core.Path.{◌≡◌, refl, sym, ap, ◌∙◌}
use mathlib.Core.Option.{Option, none, some}
use mathlib.Core.List.{List, [], ◌∷◌}
use Prim.Native.Nat.{ℕ, zero, suc, ◌-◌, ◌≤◌}
use native.Mathlib.Omega.{arith}
use lib.ListN.{length, get_or, take, drop, length-append, length-replicate}
use lib.Seq.{take_at}
use Rattle.paper.specs.Words.{or_else}
use Rattle.paper.specs.declared.Constraint.{Constraint}
use Rattle.paper.specs.declared.Item.TheVariants.{Is, Equal}
use Rattle.paper.specs.Sites.{Site}
use Rattle.paper.specs.Layout as paper
use Rattle.paper.specs.Layout.{then_read, give, refuse, byte, two_bytes, four_bytes, eight_bytes, flags_byte, site_read, constraint_read, frame_readers, frame_read, whole, framed, line_bytes, frame_of, begin_set, a_site, a_rule, an_item, end_set}
use Rattle.sheet_frames.specs.declared.Read.{Read}
use Rattle.sheet_frames.specs.declared.Frame.{Frame}
use Rattle.sheet_frames.specs.declared.Frame.TheVariants as said
use Rattle.sheet_frames.specs.Said.{max_bytes, padded, code, reading_of}

-- a site's body, behind the frame's first byte
abbrev pub body_in : Read → List ℕ
body_in r = take (r.length - 1) (drop 1 r.bytes)

-- the paper's frame from the answer and the site x of the body
unfoldable pub frame_back : Frame → Site → Option paper.Frame
frame_back (said.Begin t f) x = some (begin_set t f)
frame_back said.Site x = some (a_site x)
frame_back (said.Rule p q n) x = some (a_rule p q n)
frame_back (said.Item i) x = some (an_item i)
frame_back said.End x = some end_set
frame_back said.Wrong x = none

-- what o is comes back
abbrev Comes : Site → Option paper.Frame → Type 0
Comes x o = o ≡ frame_back (code o) x

-- one field more
last_field : {A : Type 0} (f : A → paper.Frame) (x : Site) → ((a : A) → Comes x (some (f a))) → (o : Option (A × List ℕ)) → Comes x (whole (then_read (λ a. give (f a)) o))
unfolding frame_back code
last_field f x h none = refl
last_field f x h (some (a, [])) = h a
last_field f x h (some (a, b ∷ s)) = refl

module _ (x : Site) where
  begins : (s : List ℕ) → Comes x (whole (get_or frame_readers 1 refuse s))
  unfolding frame_readers frame_back code
  begins s = go (two_bytes s)
    where
      go : (o : Option (ℕ × List ℕ)) → Comes x (whole (then_read (λ f r. then_read (λ a. give (f a)) (flags_byte r)) (then_read (λ a. give (begin_set a)) o)))
      go none = refl
      go (some p) = last_field (begin_set p.0) x (λ a. refl) (flags_byte p.1)

  rules : (s : List ℕ) → Comes x (whole (get_or frame_readers 3 refuse s))
  unfolding frame_readers frame_back code
  rules s = go (four_bytes s)
    where
      next : (n : ℕ) (o : Option (ℕ × List ℕ)) → Comes x (whole (then_read (λ f r. then_read (λ a. give (f a)) (byte r)) (then_read (λ a. give (a_rule n a)) o)))
      next n none = refl
      next n (some p) = last_field (a_rule n p.0) x (λ a. refl) (byte p.1)

      go : (o : Option (ℕ × List ℕ)) → Comes x (whole (then_read (λ f r. then_read (λ a. give (f a)) (byte r)) (then_read (λ f r. then_read (λ a. give (f a)) (eight_bytes r)) (then_read (λ a. give (a_rule a)) o))))
      go none = refl
      go (some p) = next p.0 (eight_bytes p.1)

  is_items : (s : List ℕ) → Comes x (whole (get_or frame_readers 4 refuse s))
  unfolding frame_readers frame_back code
  is_items s = go (two_bytes s)
    where
      go : (o : Option (ℕ × List ℕ)) → Comes x (whole (then_read (λ (f : Constraint → paper.Frame) (r : List ℕ). then_read (λ a. give (f a)) (constraint_read r)) (then_read (λ a. give (λ c. an_item (Is a c))) o)))
      go none = refl
      go (some p) = last_field (λ c. an_item (Is p.0 c)) x (λ a. refl) (constraint_read p.1)

  equal_items : (s : List ℕ) → Comes x (whole (get_or frame_readers 5 refuse s))
  unfolding frame_readers frame_back code
  equal_items s = go (two_bytes s)
    where
      go : (o : Option (ℕ × List ℕ)) → Comes x (whole (then_read (λ (f : ℕ → paper.Frame) (r : List ℕ). then_read (λ a. give (f a)) (two_bytes r)) (then_read (λ a. give (λ b. an_item (Equal a b))) o)))
      go none = refl
      go (some p) = last_field (λ b. an_item (Equal p.0 b)) x (λ a. refl) (two_bytes p.1)

  ends : (s : List ℕ) → Comes x (whole (get_or frame_readers 6 refuse s))
  unfolding frame_readers frame_back code
  ends [] = refl
  ends (b ∷ s) = refl

sites : (d : Site) (s : List ℕ) → Comes (or_else (whole (site_read s)) d) (whole (get_or frame_readers 2 refuse s))
unfolding frame_readers frame_back code
sites d s = go (site_read s)
  where
    go : (o : Option (Site × List ℕ)) → Comes (or_else (whole o) d) (whole (then_read (λ a. give (a_site a)) o))
    go none = refl
    go (some (a, [])) = refl
    go (some (a, b ∷ t)) = refl

bytes_back : (d : Site) (s : List ℕ) → Comes (or_else (whole (site_read (drop 1 s))) d) (framed (some s))
unfolding frame_read frame_readers frame_back code
bytes_back d [] = refl
bytes_back d (zero ∷ s) = refl
bytes_back d (suc zero ∷ s) = begins (or_else (whole (site_read s)) d) s
bytes_back d (suc (suc zero) ∷ s) = sites d s
bytes_back d (suc (suc (suc zero)) ∷ s) = rules (or_else (whole (site_read s)) d) s
bytes_back d (suc (suc (suc (suc zero))) ∷ s) = is_items (or_else (whole (site_read s)) d) s
bytes_back d (suc (suc (suc (suc (suc zero)))) ∷ s) = equal_items (or_else (whole (site_read s)) d) s
bytes_back d (suc (suc (suc (suc (suc (suc zero))))) ∷ s) = ends (or_else (whole (site_read s)) d) s
bytes_back d (suc (suc (suc (suc (suc (suc (suc k)))))) ∷ s) = refl

body_is : (s : List ℕ) → take (length s - 1) (drop 1 (padded s)) ≡ drop 1 s
unfolding padded
body_is [] = refl
body_is (b ∷ s) = let e : suc (length s) - 1 ≡ length s = omega arith in rw e (take_at s _ (length s) refl)

nothing_back : (x : Site) → Comes x none
unfolding frame_back code
nothing_back x = refl

-- whatever site d stands for bytes that are none
pub line_back : (d : Site) (l : List ℕ) → frame_of l ≡ frame_back (reading_of l).frame (or_else (whole (site_read (body_in (reading_of l)))) d)
unfolding reading_of frame_of
line_back d l = go (line_bytes l)
  where
    go : (o : Option (List ℕ)) → framed o ≡ frame_back (code (framed o)) (or_else (whole (site_read (take (length (or_else o []) - 1) (drop 1 (padded (or_else o [])))))) d)
    go none = nothing_back _
    go (some s) = bytes_back d s ∙ ap (λ b. frame_back (code (framed (some s))) (or_else (whole (site_read b)) d)) (sym (body_is s))

-- the array of a reading has its length, so that its parts can be lent
pub bytes_long : (l : List ℕ) (r : Read) → r ≡ reading_of l → r.length ≤ max_bytes → length r.bytes ≡ max_bytes
unfolding reading_of padded
bytes_long l r e h =
    let b = or_else (line_bytes l) [] in
    let n : length b ≤ max_bytes = rw e at h in
    rw e (simp (length-append, length-replicate) (omega arith))
