-- A line cut out of a piece: with what was held of it, or, where nothing was, as it lies there.
use Rattle.std.specs.declared.option.Option.TheVariants.{None, Some}
use Rattle.std.specs.Prelude.{◌≡◌, Bool, true, false, List, [], ◌∷◌, ◌++◌, ℕ, zero, suc, ◌+◌, ◌-◌, ◌≤◌, ◌<◌, length, take, drop, eqb, leb}
use Rattle.std.proofs.Math.Path.{refl, sym, ap}
use Rattle.std.proofs.Common.{◌∙◌, arith, length-drop, drop-drop, take_all, le-leb, leb-true, leb-false, eq-eqb, ne_eqb, eqb-true}
use Rattle.std.proofs.lemmas.Bool.{lt-leb}
use Rattle.std.specs.Prelude.{if◌then◌else◌}
use Rattle.paper.specs.Sheets.{Reader, step}
use Rattle.paper.specs.Layout.{Lines, nothing, unended, line, lines, push}
use Rattle.paper.proofs.Lists.{no_way}
use Rattle.paper.specs.Answered.{Maybe}
use Rattle.sheet_lines.specs.declared.Held.{Held}
use Rattle.sheet_lines.specs.declared.Cut.{Cut}
use Rattle.sheet_lines.specs.Fed.{max_held, line_feed, held_of, step_held}
use Rattle.sheet_lines.specs.Ends.{line_end, Free, ends_at, open_free}
use Rattle.sheet_lines.specs.Held.{Holds, held_in, held_more, held_more_is}

-- s from a to b; nothing where that is not there
unfoldable pub part_of : List ℕ → ℕ → ℕ → List ℕ
part_of s a b = if leb b (length s) then take (b - a) (drop a s) else []

-- what was held of a line, with its rest l; where nothing was, nothing
unfoldable pub held_rest : Held → List ℕ → Held
held_rest h l = if eqb h.length 0 then h else held_more h l

-- all that is held is there
abbrev pub Fits : Held → Type 0
Fits h = h.length ≤ length h.bytes

-- a line as it is held; where nothing is, the part of the piece that it is
unfoldable pub line_from : List ℕ → List ℕ → List ℕ
line_from [] here = here
line_from (b ∷ h) here = b ∷ h

-- the line of which h was held, and then l came
abbrev pub line_with : Held → List ℕ → List ℕ
line_with h l = line_from (held_in (held_rest h l)) l

-- the line that begins at `from`, by where it ends
abbrev pub cut_by : Held → List ℕ → ℕ → Maybe ℕ → Cut
cut_by h s from (Some e) = record { unended = false; to = e; held = held_rest h (part_of s from e) }
cut_by h s from None = record { unended = true; to = length s; held = held_more h (part_of s from (length s)) }

unfoldable pub cut_at : Held → List ℕ → ℕ → Cut
cut_at h s from = cut_by h s from (line_end from (drop from s))

-- ---- laws: parts
pub drop_all : {A : Type 0} (l : List A) (n : ℕ) → length l ≤ n → drop n l ≡ []
drop_all [] zero h = refl
drop_all [] (suc n) h = refl
drop_all (x ∷ l) zero h = absurd (omega arith)
drop_all (x ∷ l) (suc n) h = drop_all l n (omega arith)

pub part_none : (s : List ℕ) (a b : ℕ) → b < a → [] ≡ part_of s a b
unfolding part_of
part_none s a b h = go (leb b (length s))
  where
    go : (t : Bool) → [] ≡ (if t then take (b - a) (drop a s) else [])
    go true = let z : b - a ≡ 0 = omega arith in rw z
    go false = refl

pub part_past : (s : List ℕ) (a b : ℕ) → length s < b → [] ≡ part_of s a b
unfolding part_of
part_past s a b h = rw (lt-leb b (length s) h)

pub part_there : (s : List ℕ) (a b : ℕ) → b ≤ length s → take (b - a) (drop a s) ≡ part_of s a b
unfolding part_of
part_there s a b h = rw (le-leb b (length s) h)

pub first_there : (s : List ℕ) (n : ℕ) → n ≤ length s → take n s ≡ part_of s 0 n
first_there s n h = let e : n ≡ n - 0 = omega arith in ap (λ (k : ℕ). take k s) e ∙ part_there s 0 n h

-- the rest of s
pub part_rest : (s : List ℕ) (from : ℕ) → part_of s from (length s) ≡ drop from s
part_rest s from = go (leb from (length s)) refl
  where
    go : (t : Bool) → leb from (length s) ≡ t → part_of s from (length s) ≡ drop from s
    go true q =
        let l = leb-true from (length s) q in
        let n = length-drop from s in
        sym (part_there s from (length s) (omega arith)) ∙ take_all (length s - from) (drop from s) (omega arith)
    go false q =
        let l = leb-false from (length s) q in
        sym (part_none s from (length s) (omega arith)) ∙ sym (drop_all s from (omega arith))

pub line_held : (held here : List ℕ) → 0 < length held → held ≡ line_from held here
unfolding line_from
line_held [] here h = absurd (omega arith)
line_held (b ∷ held) here h = refl

pub line_here : (held here : List ℕ) → length held ≤ 0 → here ≡ line_from held here
unfolding line_from
line_here [] here h = refl
line_here (b ∷ held) here h = absurd (omega arith)

-- ---- laws: lines
lines_of : (l s : List ℕ) → Free l → lines (l ++ (line_feed ∷ s)) ≡ line l (lines s)
unfolding lines
lines_of [] s f = refl
lines_of (b ∷ l) s f = rw (f.0, lines_of l s f.1)

-- no line is ended, and l is what there is
abbrev pub LeftOf : Lines → List ℕ → Type 0
LeftOf nothing l = l ≡ []
LeftOf (unended k) l = l ≡ k
LeftOf (line k r) l = ⊥

pushed : (b : ℕ) (x : Lines) (l : List ℕ) → LeftOf x l → LeftOf (push b x) (b ∷ l)
pushed b nothing l h = ap (λ z. b ∷ z) h
pushed b (unended k) l h = ap (λ z. b ∷ z) h
pushed b (line k r) l h = h

no_lines : (l : List ℕ) → Free l → LeftOf (lines l) l
unfolding lines
no_lines [] f = refl
no_lines (b ∷ l) f = rw f.0 (pushed b (lines l) l (no_lines l f.1))

-- a line that does not end in s, from `from` on
pub open_left : (s : List ℕ) (from : ℕ) → line_end from (drop from s) ≡ None → LeftOf (lines (drop from s)) (drop from s)
open_left s from e = no_lines (drop from s) (open_free from (drop from s) e)

-- one that ends at e
module _ (s : List ℕ) (from e : ℕ) (g : line_end from (drop from s) ≡ Some e) where
  pub line_inside : (from ≤ e) × (e < length s)
  line_inside =
      let w = ends_at from e (drop from s) g in
      let a = w.behind_start in
      let b = w.in_piece in
      let n = length-drop from s in
      (a, omega arith)

  pub line_split : lines (drop from s) ≡ line (part_of s from e) (lines (drop (e + 1) s))
  line_split =
      let w = ends_at from e (drop from s) g in
      let i = line_inside in
      let lo = i.0 in
      let hi = i.1 in
      let l = take (e - from) (drop from s) in
      let n : from + suc (e - from) ≡ e + 1 = omega arith in
      let t : drop (suc (e - from)) (drop from s) ≡ drop (e + 1) s = drop-drop (suc (e - from)) from s ∙ ap (λ n. drop n s) n in
      let u : lines (drop from s) ≡ line l (lines (drop (suc (e - from)) (drop from s))) = ap lines w.split
      ∙ lines_of l (drop (suc (e - from)) (drop from s)) w.free in
      u ∙ (ap (λ z. line l (lines z)) t ∙ ap (λ z. line z (lines (drop (e + 1) s))) (part_there s from e (omega arith)))

-- ---- laws: what a cut says
pub rest_none : (h : Held) (l : List ℕ) → h.length ≡ 0 → (h ≡ held_rest h l) × Fits h
unfolding held_rest
rest_none h l e = (rw (eq-eqb h.length 0 e), omega arith)

pub rest_some : (h r : Held) (l m : List ℕ) → (h.length ≡ 0 → ⊥) → r ≡ held_more h l → Holds r m → (r ≡ held_rest h l) × Fits r
unfolding held_rest
rest_some h r l m n e w = let a = w.short in let b = w.whole in (rw (ne_eqb h.length 0 n) e, omega arith)

pub cut_is : (h : Held) (s : List ℕ) (from : ℕ) (w : Maybe ℕ) (c : Cut) → w ≡ line_end from (drop from s) → c ≡ cut_by h s from w →
    c ≡ cut_at h s from
unfolding cut_at
cut_is h s from w c e f = f ∙ ap (cut_by h s from) e

pub cut_at_end : (h r : Held) (s l : List ℕ) (from e : ℕ) (w : Maybe ℕ) → w ≡ line_end from (drop from s) → w ≡ Some e →
    l ≡ part_of s from e → (r ≡ held_rest h l) × Fits r →
    (record { unended = false; to = e; held = r } ≡ cut_at h s from) × Fits r
cut_at_end h r s l from e w a b p q =
    let x : r ≡ held_rest h (part_of s from e) = q.0 ∙ ap (held_rest h) p in
    (cut_is h s from (Some e) _ (sym b ∙ a) (ap (λ (z : Held). record { unended = false; to = e; held = z }) x), q.1)

pub cut_at_none : (h r : Held) (s l m : List ℕ) (from : ℕ) (w : Maybe ℕ) → w ≡ line_end from (drop from s) → w ≡ None →
    l ≡ part_of s from (length s) → (r ≡ held_more h l) × Holds r m →
    (record { unended = true; to = length s; held = r } ≡ cut_at h s from) × Fits r
cut_at_none h r s l m from w a b p q =
    let n = q.1 in
    let i = n.short in
    let j = n.whole in
    let x : r ≡ held_more h (part_of s from (length s)) = q.0 ∙ ap (held_more h) p in
    (cut_is h s from None _ (sym b ∙ a) (ap (λ (z : Held). record { unended = true; to = length s; held = z }) x), omega arith)

module _ (h : Held) (s : List ℕ) (from : ℕ) (c : Cut) (is : c ≡ cut_at h s from) where
  pub cut_open : c.unended ≡ true → (line_end from (drop from s) ≡ None) × (c.held ≡ held_more h (drop from s))
  unfolding cut_at
  cut_open o = go (line_end from (drop from s)) refl is
    where
      go : (w : Maybe ℕ) → line_end from (drop from s) ≡ w → c ≡ cut_by h s from w → (line_end from (drop from s) ≡ None)
          × (c.held ≡ held_more h (drop from s))
      go (Some e) q f = no_way (sym o ∙ ap (λ (z : Cut). z.unended) f)
      go None q f = (q, ap (λ (z : Cut). z.held) f ∙ ap (held_more h) (part_rest s from))

  pub cut_ended : c.unended ≡ false → (line_end from (drop from s) ≡ Some c.to) × (c.held ≡ held_rest h (part_of s from c.to))
  unfolding cut_at
  cut_ended o = go (line_end from (drop from s)) refl is
    where
      go : (w : Maybe ℕ) → line_end from (drop from s) ≡ w → c ≡ cut_by h s from w → (line_end from (drop from s) ≡ Some c.to)
          × (c.held ≡ held_rest h (part_of s from c.to))
      go (Some e) q f =
          let n : e ≡ c.to = sym (ap (λ (z : Cut). z.to) f) in
          (q ∙ ap Some n, ap (λ (z : Cut). z.held) f ∙ ap (λ k. held_rest h (part_of s from k)) n)
      go None q f = no_way (sym (ap (λ (z : Cut). z.unended) f) ∙ o)

-- as code has it: the part that is held, then the part of the piece
pub line_cut : (h k : Held) (l x y : List ℕ) → k ≡ held_rest h l → Fits k → x ≡ part_of k.bytes 0 k.length → y ≡ line_from x l →
    y ≡ line_with h l
line_cut h k l x y e f g w =
    let t : x ≡ held_in (held_rest h l) = g ∙ (sym (first_there k.bytes k.length f) ∙ ap held_in e) in
    w ∙ ap (λ z. line_from z l) t

-- ---- a line that was cut says what its bytes say
step_from : (d : Reader) (at : ℕ) (z h l : List ℕ) → z ≡ held_of (h ++ l) → step d at (line_from z l) ≡ step d at (h ++ l)
unfolding line_from
step_from d at [] [] l e = refl
step_from d at [] (b ∷ h) l e = absurd (let z : ◌≡◌ {A = ℕ} 0 1 = cc in omega arith)
step_from d at (c ∷ z) h l e = ap (step d at) e ∙ step_held d at (h ++ l)

pub step_with : (d : Reader) (at : ℕ) (h : Held) (l : List ℕ) → length h.bytes ≡ max_held →
    step d at (line_with h l) ≡ step d at (held_in h ++ l)
unfolding held_rest line_from
step_with d at h l w = go (eqb h.length 0) refl
  where
    go : (t : Bool) → eqb h.length 0 ≡ t → step d at (line_from (held_in (if t then h else held_more h l)) l) ≡ step d at (held_in h ++ l)
    go true q =
        let n : h.length ≡ 0 = eqb-true h.length 0 q in
        ap (λ k. step d at (line_from (take k h.bytes) l)) n ∙ sym (ap (λ k. step d at (take k h.bytes ++ l)) n)
    go false q = step_from d at (held_in (held_more h l)) (held_in h) l (held_more_is h l w)
