-- Laws of the lines of a chunk, and of chunks, for the functions' proofs.
use mathlib.Core.Path.{◌≡◌, refl, sym, ap, subst, ◌∙◌}
use mathlib.Core.Bool.{Bool, true, false}
use mathlib.Core.List.{List, [], ◌∷◌, ◌++◌}
use Prim.Native.Nat.{ℕ, ◌+◌, ◌≤◌, ◌<◌}
use Rattle.std.proofs.Common.{◌⊎◌, inl, inr}
use native.Mathlib.Omega.{arith}
use lib.ListN.{length, drop, length-drop}
use Rattle.paper.specs.Layout.{Lines, nothing, unended, line, lines}
use Rattle.sheet_lines.specs.declared.Held.{Held}
use Rattle.sheet_lines.specs.declared.Cut.{Cut}
use Rattle.sheet_lines.specs.Held.{no_line, held_more}
use Rattle.sheet_lines.specs.Cut.{part_of, Fits, line_from, line_with, cut_at, drop_all, LeftOf, open_left, line_split, cut_open, cut_ended, line_cut}
use Rattle.term_table.specs.Table.{Square, no_edges}
use Rattle.sheet_reader.specs.State.{Lent, lent}
use Rattle.run_answers.specs.declared.How.{How}
use Rattle.run_lines.specs.declared.Flow.{Flow}
use Rattle.run_lines.specs.Taken.{fresh_flow}
use Rattle.run_sheets.specs.Chunks.{Standing, stand, Takes, TookLines, TookAll, Unwritten, StoppedIn, Read, Stopped, Ran}

-- ---- the lines of a chunk
-- the rest of it has no LF: it is held
left_lines : (how : How) (many : Bool) (x : Lines) (l : List ℕ) (g : Held) (s : Standing) (h : Held) → 0 < length l → LeftOf x l → h ≡ held_more g l →
    TookLines how many x g s s h
unfolding TookLines
left_lines how many nothing l g s h n e f = absurd (let z = ap length e in omega arith)
left_lines how many (unended k) l g s h n e f = (refl, f ∙ ap (held_more g) e)
left_lines how many (line k r) l g s h n e f = absurd e

none_left : (how : How) (many : Bool) (g : Held) (s : Standing) → TookLines how many (lines []) g s s g
unfolding TookLines lines
none_left how many g s = (refl, refl)

-- what the lines from `from` on, with k held, do to t, the lines of the chunk b, with g held, do to s
unfoldable pub StandsFor : How → Bool → List ℕ → Held → Standing → ℕ → Held → Standing → Type 0
StandsFor how many b g s from k t = (u : Standing) (h : Held) → TookLines how many (lines (drop from b)) k t u h → TookLines how many (lines b) g s u h

pub no_turn : (how : How) (many : Bool) (b : List ℕ) (g : Held) (s : Standing) → StandsFor how many b g s 0 g s
unfolding StandsFor
no_turn how many b g s u h x = x

-- a loop's turn, its end by a line that is not ended, and its end by the chunk's
module _ (how : How) (many : Bool) (b : List ℕ) (g : Held) (s : Standing) (from : ℕ) (k : Held) (t : Standing) (so : StandsFor how many b g s from k t) where
  pub chunk_turn : (c : Cut) (x y l : List ℕ) (u : Standing) (n : Held) → (c ≡ cut_at k b from) × Fits c.held → c.unended ≡ false → l ≡ part_of b from c.to →
      x ≡ part_of c.held.bytes 0 c.held.length → y ≡ line_from x l → Takes how many y t u → n ≡ no_line → StandsFor how many b g s (c.to + 1) n u
  unfolding StandsFor TookLines
  chunk_turn c x y l u n e o q p w z r v h m =
      let a = cut_ended k b from c e.0 o in
      let part = part_of b from c.to in
      let is : y ≡ line_with k part = line_cut k c.held part x y a.1 e.1 p (w ∙ ap (line_from x) q) in
      let rest : TookLines how many (lines (drop (c.to + 1) b)) no_line u v h = subst (λ (j : Held). TookLines how many (lines (drop (c.to + 1) b)) j u v h) r m in
      so v h (subst (λ (j : Lines). TookLines how many j k t v h) (sym (line_split b from c.to a.0)) (u, subst (λ (j : List ℕ). Takes how many j t u) is z, rest))

  pub chunk_open : (c : Cut) → (c ≡ cut_at k b from) × Fits c.held → c.unended ≡ true → from < length b → TookLines how many (lines b) g s t c.held
  unfolding StandsFor
  chunk_open c e o i =
      let a = cut_open k b from c e.0 o in
      let n = length-drop from b in
      so t c.held (left_lines how many (lines (drop from b)) (drop from b) k t c.held (omega arith) (open_left b from a.0) a.1)

  pub chunk_done : length b ≤ from → TookLines how many (lines b) g s t k
  unfolding StandsFor
  chunk_done i = so t k (subst (λ (x : List ℕ). TookLines how many (lines x) k t t k) (sym (drop_all b from i)) (none_left how many k t))

-- ---- up to an error
-- what the lines from `from` on, with k held, do to t up to an error, the lines of the chunk b, with g held, do to s
unfoldable pub StopsFor : How → Bool → List ℕ → Held → Standing → ℕ → Held → Standing → Type 0
StopsFor how many b g s from k t = (m : Lent) (room out : List ℕ) → StoppedIn how many (lines (drop from b)) k t m room out → StoppedIn how many (lines b) g s m room out

pub no_stop : (how : How) (many : Bool) (b : List ℕ) (g : Held) (s : Standing) → StopsFor how many b g s 0 g s
unfolding StopsFor
no_stop how many b g s m room out x = x

-- a loop's turn, and an error in it
module _ (how : How) (many : Bool) (b : List ℕ) (g : Held) (s : Standing) (from : ℕ) (k : Held) (t : Standing) (so : StopsFor how many b g s from k t) where
  pub stop_turn : (c : Cut) (x y l : List ℕ) (u : Standing) (n : Held) → (c ≡ cut_at k b from) × Fits c.held → c.unended ≡ false → l ≡ part_of b from c.to →
      x ≡ part_of c.held.bytes 0 c.held.length → y ≡ line_from x l → Takes how many y t u → n ≡ no_line → StopsFor how many b g s (c.to + 1) n u
  unfolding StopsFor StoppedIn
  stop_turn c x y l u n e o q p w z r m room out v =
      let a = cut_ended k b from c e.0 o in
      let part = part_of b from c.to in
      let is : y ≡ line_with k part = line_cut k c.held part x y a.1 e.1 p (w ∙ ap (line_from x) q) in
      let rest : StoppedIn how many (lines (drop (c.to + 1) b)) no_line u m room out = subst (λ (j : Held). StoppedIn how many (lines (drop (c.to + 1) b)) j u m room out) r v in
      so m room out (subst (λ (j : Lines). StoppedIn how many j k t m room out) (sym (line_split b from c.to a.0)) (inr (u, subst (λ (j : List ℕ). Takes how many j t u) is z, rest)))

  pub stop_here : (c : Cut) (x y l : List ℕ) (m : Lent) (room out : List ℕ) → (c ≡ cut_at k b from) × Fits c.held → c.unended ≡ false → l ≡ part_of b from c.to →
      x ≡ part_of c.held.bytes 0 c.held.length → y ≡ line_from x l → Unwritten many y t m room out → StoppedIn how many (lines b) g s m room out
  unfolding StopsFor StoppedIn
  stop_here c x y l m room out e o q p w v =
      let a = cut_ended k b from c e.0 o in
      let part = part_of b from c.to in
      let is : y ≡ line_with k part = line_cut k c.held part x y a.1 e.1 p (w ∙ ap (line_from x) q) in
      so m room out (subst (λ (j : Lines). StoppedIn how many j k t m room out) (sym (line_split b from c.to a.0)) (inl (subst (λ (j : List ℕ). Unwritten many j t m room out) is v)))

-- ---- chunks of a file
pub none_read : (how : How) (many : Bool) (s : Standing) (g : Held) → Read how many g s s g
unfolding TookAll
none_read how many s g = record { chunks = []; took = (refl, refl) }

one_more : (how : How) (many : Bool) (ps : List (List ℕ)) (p : List ℕ) (s t u : Standing) (g e h : Held) → TookAll how many ps g s t e → TookLines how many (lines p) e t u h → TookAll how many (ps ++ (p ∷ [])) g s u h
unfolding TookAll
one_more how many [] p s t u g e h w c = (u, h, subst (λ (z : Held). TookLines how many (lines p) z s u h) w.1 (subst (λ (z : Standing). TookLines how many (lines p) e z u h) w.0 c), (refl, refl))
one_more how many (q ∷ ps) p s t u g e h w c = (w.0, w.1, w.2, one_more how many ps p w.0 t u w.1 e h w.3 c)

pub more_read : (how : How) (many : Bool) (p : List ℕ) (s t u : Standing) (g e h : Held) → Read how many g s t e → TookLines how many (lines p) e t u h → Read how many g s u h
more_read how many p s t u g e h w c = record { chunks = w.chunks ++ (p ∷ []); took = one_more how many w.chunks p s t u g e h w.took c }

-- ---- a file, up to an error
pub first_read : (how : How) (many : Bool) (s : Standing) (h : Held) → h ≡ no_line → Read how many no_line s s h
first_read how many s h e = subst (λ (z : Held). Read how many no_line s s z) (sym e) (none_read how many s no_line)

pub stopped_between : (how : How) (many : Bool) (s : Standing) (g h : Held) (f : Flow) (k : Lent) (room out : List ℕ) → Read how many g s (stand f k room out) h → Stopped how many g s k room out
stopped_between how many s g h f k room out r = record { last = stand f k room out; held = h; read = r; stopped = inl (record { memory = refl; room_same = refl; out_same = refl }) }

-- of a run: before its end, at its end, and after it
module _ (how : How) (many : Bool) (m w i room out : List ℕ) (t : Square) (f : Flow) (e : f ≡ fresh_flow 0) (g : t ≡ no_edges) where
  from_fresh : (k : Lent) (room' out' : List ℕ) → Stopped how many no_line (stand f (lent m w i t) room out) k room' out' → Stopped how many no_line (stand (fresh_flow 0) (lent m w i no_edges) room out) k room' out'
  from_fresh k room' out' x =
      subst (λ (z : Flow). Stopped how many no_line (stand z (lent m w i no_edges) room out) k room' out') e
      (subst (λ (z : Square). Stopped how many no_line (stand f (lent m w i z) room out) k room' out') g x)

  pub stopped_at_end : (l : Flow) (h : Held) (k : Lent) (room₁ out₁ room' out' : List ℕ) → Read how many no_line (stand f (lent m w i t) room out) (stand l k room₁ out₁) h → (room' ≡ room₁) × (out' ≡ out₁) →
      Stopped how many no_line (stand (fresh_flow 0) (lent m w i no_edges) room out) k room' out' ⊎ Ran how many (lent m w i no_edges) k room out room' out'
  stopped_at_end l h k room₁ out₁ room' out' r x =
      let y = from_fresh k room₁ out₁ (stopped_between how many (stand f (lent m w i t) room out) no_line h l k room₁ out₁ r) in
      let first = stand (fresh_flow 0) (lent m w i no_edges) room out in
      inl (subst (λ (z : List ℕ). Stopped how many no_line first k z out') (sym x.0) (subst (λ (z : List ℕ). Stopped how many no_line first k room₁ z) (sym x.1) y))
