-- A line as a whole: what its bytes say is what it says.
use mathlib.Core.Path.{◌≡◌, refl, sym, ap, ◌∙◌}
use mathlib.Core.Bool.{true, false}
use mathlib.Core.Option.{Option, none, some}
use mathlib.Core.List.{List, []}
use Prim.Native.Nat.{ℕ, ◌≤◌}
use native.Mathlib.Omega.{arith}
use lib.ListN.{length, take, replicate, length-append, length-replicate}
use lib.Seq.{take_at}
use Rattle.paper.specs.Words.{or_else}
use Rattle.paper.specs.Layout.{line_bytes, framed, frame_of, whole, frame_read}
use Rattle.sheet_frames.specs.declared.Bytes.{Bytes}
use Rattle.std.specs.declared.option.Option.TheVariants.{None, Some}
use Rattle.paper.specs.Answered.{Maybe}
use Rattle.sheet_frames.specs.declared.Read.{Read}
use Rattle.sheet_frames.specs.declared.Frame.{Frame}
use Rattle.sheet_frames.specs.declared.Frame.TheVariants as said
use Rattle.sheet_frames.specs.Said.{max_bytes, padded, bytes_said, Takes, code, frame_in, reading_of}

abbrev reading : Option (List ℕ) → Read
reading o = record { frame = code (framed o); length = length (or_else o []); bytes = padded (or_else o []) }

reading_is : (l : List ℕ) → reading_of l ≡ reading (line_bytes l)
unfolding reading_of frame_of
reading_is l = refl

pub wrong_read : (l out : List ℕ) (t : Maybe ℕ) → Takes l out t → t ≡ None → (record { frame = said.Wrong; length = 0; bytes = replicate max_bytes 0 } ≡ reading_of l) × (0 ≤ max_bytes)
unfolding padded code
wrong_read l out t T f = (ap reading (sym (T.wrong f)) ∙ sym (reading_is l), omega arith)

padded_take : (s : List ℕ) → take (length s) (padded s) ≡ s
unfolding padded
padded_take s = take_at s _ (length s) refl

right_read : (l : List ℕ) (b : Bytes) (f : Frame) → b ≡ bytes_said (line_bytes l) → b.right ≡ true → f ≡ frame_in (take b.length b.bytes) → record { frame = f; length = b.length; bytes = b.bytes } ≡ reading_of l
unfolding bytes_said frame_in
right_read l b f e t g = go (line_bytes l) e ∙ sym (reading_is l)
  where
    go : (o : Option (List ℕ)) → b ≡ bytes_said o → record { frame = f; length = b.length; bytes = b.bytes } ≡ reading o
    go none q = absurd (let z : false ≡ true = sym (ap (λ x. x.right) q) ∙ t in let y : ◌≡◌ {A = ℕ} 0 1 = cc in omega arith)
    go (some s) q =
        let h : f ≡ code (whole (frame_read s)) = g ∙ (rw q (ap (λ u. code (whole (frame_read u))) (padded_take s))) in
        rw (h, q)

-- the bytes that are lent are there
lent : (o : Option (List ℕ)) (b : Bytes) → b ≡ bytes_said o → b.length ≡ length (take b.length b.bytes)
unfolding bytes_said
lent none b e = rw e
lent (some s) b e = rw (e, padded_take s)

lent_fits : (o : Option (List ℕ)) (b : Bytes) → b ≡ bytes_said o → b.length ≤ length b.bytes
unfolding bytes_said padded
lent_fits none b e = rw e (let n = length-replicate {A = ℕ} max_bytes 0 in omega arith)
lent_fits (some s) b e = rw e (simp length-append (omega arith))

-- ---- the same of what was taken
module _ (l out : List ℕ) (t : Maybe ℕ) (T : Takes l out t) (n : ℕ) (e : t ≡ Some n) where
  pub taken_read : (f : Frame) → f ≡ frame_in (take n out) → (record { frame = f; length = n; bytes = out } ≡ reading_of l) × (n ≤ max_bytes)
  taken_read f g = (right_read l (record { right = true; length = n; bytes = out }) f (T.right n e).0 refl g, (T.right n e).1)

  pub taken_lent : n ≡ length (take n out)
  taken_lent = lent (line_bytes l) (record { right = true; length = n; bytes = out }) (T.right n e).0

  pub taken_fits : n ≤ length out
  taken_fits = lent_fits (line_bytes l) (record { right = true; length = n; bytes = out }) (T.right n e).0

  pub taken_bytes : (record { right = true; length = n; bytes = out } ≡ bytes_said (line_bytes l)) × (n ≤ max_bytes)
  taken_bytes = ((T.right n e).0, (T.right n e).1)
