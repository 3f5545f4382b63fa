-- Slots: what stands in one, as a body and byte by byte.
use mathlib.Core.Path.{◌≡◌, refl, sym, ap, ◌∙◌}
use mathlib.Core.Bool.{Bool, true, false, ◌&&◌}
use mathlib.Core.Option.{Option, none, some}
use mathlib.Core.List.{List, []}
use Prim.Native.Nat.{ℕ, ◌+◌, ◌*◌, ◌≤◌, ◌<◌}
use native.Mathlib.Omega.{arith}
use lib.ListN.{length, get_or, take, drop, length-take, length-drop, get_or-eq_default}
use lib.Seq.{ext_get_or, get_or-take, get_or-drop}
use lib.Dec.{ltb, leb}
use borrow.Author.Tests.{lt-ltb, le-ltb, le-leb, lt-leb, ltb-true, ltb-false, leb-true, leb-false}
use Rattle.site_slots.specs.Seeking.{Held}
use Rattle.std.specs.Prelude.{if◌then◌else◌}
use Rattle.paper.specs.Words.{or_else}
use Rattle.paper.specs.Layout.{whole, site_read}
use Rattle.paper.specs.Sites.{Site, body}
use Rattle.site_body.specs.Body.{no_site, site_of}
use Rattle.site_body.proofs.Back.{Bytes, back}
use Rattle.sites.specs.Slots.{slot, slot_body, site_in}

-- ---- the body in a slot
pub slot_cut : (m : List ℕ) (i : ℕ) → length m < i * slot + slot → slot_body m i ≡ []
unfolding slot_body
slot_cut m i h = rw (lt-leb (i * slot + slot) (length m) h)

pub slot_over : (m : List ℕ) (i : ℕ) → i * slot + slot ≤ length m → slot ≤ get_or m (i * slot) 0 → slot_body m i ≡ []
unfolding slot_body
slot_over m i h l = rw (le-leb (i * slot + slot) (length m) h, le-ltb (get_or m (i * slot) 0) slot l)

pub slot_is : (m : List ℕ) (i n : ℕ) → i * slot + slot ≤ length m → n ≡ get_or m (i * slot) 0 → n < slot → slot_body m i ≡ take n (drop (i * slot + 1) m)
unfolding slot_body
slot_is m i n h e l = rw (e, le-leb (i * slot + slot) (length m) h, lt-ltb (get_or m (i * slot) 0) slot (omega arith))

-- a part of bytes is bytes
pub part_bytes : (m : List ℕ) (n at : ℕ) → Bytes m → Bytes (take n (drop at m))
part_bytes m n at f i = go (ltb i n) refl
  where
    go : (t : Bool) → ltb i n ≡ t → get_or (take n (drop at m)) i 0 < 256
    go true e = rw (get_or-take n (drop at m) i 0 (ltb-true i n e), get_or-drop at m i 0) (f (at + i))
    go false e =
        let h = ltb-false i n e in
        let l : length (take n (drop at m)) ≤ i = simp length-take (omega arith) in
        rw (get_or-eq_default (take n (drop at m)) 0 l) (omega arith)

pub slot_bytes : (m : List ℕ) (i : ℕ) → Bytes m → Bytes (slot_body m i)
unfolding slot_body
slot_bytes m i f = go (leb (i * slot + slot) (length m) && ltb (get_or m (i * slot) 0) slot)
  where
    go : (t : Bool) → Bytes (if t then take (get_or m (i * slot) 0) (drop (i * slot + 1) m) else [])
    go true = part_bytes m (get_or m (i * slot) 0) (i * slot + 1) f
    go false = λ j. omega arith

-- ---- the bytes of a slot that holds b
part_at : (m : List ℕ) (n at : ℕ) (b : List ℕ) → take n (drop at m) ≡ b → (j : ℕ) → j < n → get_or m (at + j) 0 ≡ get_or b j 0
part_at m n at b e j h = sym (get_or-take n (drop at m) j 0 h ∙ get_or-drop at m j 0) ∙ ap (λ r. get_or r j 0) e

pub held : (m : List ℕ) (i : ℕ) (b : List ℕ) → slot_body m i ≡ b → 0 < length b → Held m i b
held m i b e s = go (leb (i * slot + slot) (length m)) refl (ltb (get_or m (i * slot) 0) slot) refl
  where
    nothing : slot_body m i ≡ [] → Held m i b
    nothing q = let z = ap length (sym q ∙ e) in absurd (omega arith)

    go : (t : Bool) → leb (i * slot + slot) (length m) ≡ t → (u : Bool) → ltb (get_or m (i * slot) 0) slot ≡ u → Held m i b
    go false p u q = nothing (slot_cut m i (leb-false _ _ p))
    go true p false q = nothing (slot_over m i (leb-true _ _ p) (ltb-false _ _ q))
    go true p true q =
        let h = leb-true (i * slot + slot) (length m) p in
        let l = ltb-true (get_or m (i * slot) 0) slot q in
        let x : take (get_or m (i * slot) 0) (drop (i * slot + 1) m) ≡ b = sym (slot_is m i (get_or m (i * slot) 0) h refl l) ∙ e in
        let y = simp (length-take, length-drop) at (ap length x) in
        let n : get_or m (i * slot) 0 ≡ length b = omega arith in
        record { inside = h; short = omega arith; size = n; each = λ j k. part_at m (get_or m (i * slot) 0) (i * slot + 1) b x j (omega arith) }

pub held_body : (m : List ℕ) (i : ℕ) (b : List ℕ) → Held m i b → slot_body m i ≡ b
held_body m i b h =
    let s = h.short in
    let z = h.inside in
    let n : length (take (length b) (drop (i * slot + 1) m)) ≡ length b = simp (length-take, length-drop) (omega arith) in
    slot_is m i (length b) z (sym h.size) s
    ∙ ext_get_or 0 (take (length b) (drop (i * slot + 1) m)) b n
    (λ k q. get_or-take (length b) (drop (i * slot + 1) m) k 0 (omega arith) ∙ get_or-drop (i * slot + 1) m k 0 ∙ h.each k (omega arith))

-- what is read as a site is its body
pub site_held : (m : List ℕ) (i : ℕ) (x : Site) → Bytes m → site_in m i ≡ x → (x ≡ no_site → ⊥) → slot_body m i ≡ body x
unfolding site_in site_of
site_held m i x f e g = go (whole (site_read (slot_body m i))) refl e
  where
    go : (o : Option Site) → whole (site_read (slot_body m i)) ≡ o → or_else o no_site ≡ x → slot_body m i ≡ body x
    go none p q = absurd (g (sym q))
    go (some y) p q = sym (back (slot_body m i) (slot_bytes m i f) y p) ∙ ap body q
