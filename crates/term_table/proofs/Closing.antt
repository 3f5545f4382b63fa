-- Passing through every term marks just who is reached by a walk.
use mathlib.Core.Path.{◌≡◌, refl, sym, ◌∙◌, ap}
use mathlib.Core.Bool.{Bool, true, false, ◌&&◌, ◌||◌}
use mathlib.Core.List.{map, Memᴰ}
use Prim.Native.Nat.{ℕ, zero, suc, ◌+◌, ◌*◌, ◌/◌, ◌≤◌, ◌<◌}
use native.Mathlib.Numerals.{add-one}
use native.Mathlib.Omega.{arith}
use native.Mathlib.Decide.{ℕ_discrete}
use Rattle.paper.specs.Words.{keep, below, Edges, Walk, one, more, returns}
use Rattle.paper.proofs.Walks.{returns_is}
use Rattle.paper.proofs.Lists.{no_way, or_true}
use Rattle.term_table.specs.Table.{terms, Square, row, marked, numbers, edges_in, Closure}
use Rattle.term_table.specs.Loops.{UnmarkedTo, Unmarked, reach_to}
use Rattle.term_table.proofs.Lists.{mem_keep, in_below, Below, at, of_below, mem_numbers, in_joined, Within, of_list, of_joined, in_map, Mapped, mapped, of_map}
use Rattle.term_table.proofs.Marks.{row_of, row_empty, via, via_two, pass_law}

-- ---- the edges of a table

pub record Edge (t : Square) (a b : ℕ) : Type 0 where
  pub from : a < terms
  pub to : b < terms
  pub mark : marked t a b ≡ true

row_edges : Square → ℕ → Edges
row_edges t a = map (λ b. (a, b)) (keep (marked t a) numbers)

pub in_edges : (t : Square) (a b : ℕ) → Edge t a b → Memᴰ (a, b) (edges_in t)
unfolding edges_in numbers row_edges
in_edges t a b E =
    in_joined (a, b) (row_edges t a) (below terms (row_edges t)) (in_below terms (row_edges t) a E.from)
    (in_map (λ b. (a, b)) b (keep (marked t a) numbers) ((mem_keep (marked t a) b numbers).1 ((mem_numbers terms b).1 E.to, E.mark)))

pub of_edges : (t : Square) (a b : ℕ) → Memᴰ (a, b) (edges_in t) → Edge t a b
unfolding edges_in numbers row_edges
of_edges t a b m = go (of_joined (a, b) (below terms (row_edges t)) m)
  where
    last : (x : ℕ) → x < terms → Mapped {B = ℕ × ℕ} (λ (y : ℕ). (x, y)) (keep (marked t x) numbers) (a, b) → Edge t a b
    last x h (mapped y n e) =
        let p : a ≡ x = ap (λ (z : ℕ × ℕ). z.0) e in
        let q : b ≡ y = ap (λ (z : ℕ × ℕ). z.1) e in
        let k = (mem_keep (marked t x) y numbers).0 n in
        let l = (mem_numbers terms y).0 k.0 in
        record { from = omega arith; to = omega arith; mark = rw (p, q) k.1 }

    here : (l : Edges) → Memᴰ (a, b) l → Below terms (row_edges t) l → Edge t a b
    here l n (at x h e) = last x h (of_map {B = ℕ × ℕ} (λ y. (x, y)) (keep (marked t x) numbers) (a, b) (rw e at n))

    go : Within (a, b) (below terms (row_edges t)) → Edge t a b
    go (of_list l k n) = here l n (of_below terms (row_edges t) l k)

-- ---- passing through the terms below n

closed : ℕ → (ℕ → ℕ → Bool) → ℕ → ℕ → Bool
closed zero e a b = e a b
closed (suc n) e a b = via (closed n e) n a b

reach_law : (n : ℕ) (t : Square) → n * 2 ≤ terms → (a b : ℕ) → a < terms → b < terms → marked (reach_to n t) a b ≡ closed (n * 2) (marked t) a b
unfolding reach_to closed
reach_law zero t l a b ha hb = refl
reach_law (suc n) t l a b ha hb =
    let m : suc n * 2 ≡ suc (suc (n * 2)) = omega arith in
    let I = reach_law n t (omega arith) in
    let k : n * 2 < terms = omega arith in
    let k' : n * 2 + 1 < terms = omega arith in
    pass_law (reach_to n t) (n * 2) (omega arith) a b ha hb
    ∙ simp (I a b ha hb, I a (n * 2) ha k, I (n * 2) b k hb, I a (n * 2 + 1) ha k', I (n * 2) (n * 2 + 1) k k', I (n * 2 + 1) b k' hb, I (n * 2 + 1) (n * 2) k' k)
    (twice (n * 2) a b ∙ ap (λ (v : ℕ). closed v (marked t) a b) (sym m))
  where
    twice : (i a b : ℕ) → via_two (closed i (marked t)) i a b ≡ closed (suc (suc i)) (marked t) a b
    twice i a b = rw add-one refl

-- the ways in which `via` holds, and back
data Via (e : ℕ → ℕ → Bool) (k a b : ℕ) : Type 0 where
  direct : e a b ≡ true → Via e k a b
  over : e a k ≡ true → e k b ≡ true → Via e k a b

ways : (e : ℕ → ℕ → Bool) (k a b : ℕ) → via e k a b ≡ true → Via e k a b
ways e k a b h = go (e a b) refl (e a k) refl (e k b) refl h
  where
    go : (x : Bool) → e a b ≡ x → (y : Bool) → e a k ≡ y → (z : Bool) → e k b ≡ z → (x || (y && z)) ≡ true → Via e k a b
    go true p y q z r h = direct p
    go false p true q true r h = over q r
    go false p true q false r h = no_way (sym h)
    go false p false q z r h = no_way (sym h)

back : (e : ℕ → ℕ → Bool) (k a b : ℕ) → Via e k a b → via e k a b ≡ true
back e k a b (direct h) = simp h
back e k a b (over h g) = simp (h, g) (or_true (e a b))

module _ (e : ℕ → ℕ → Bool) where
  kept : (n a b : ℕ) → e a b ≡ true → closed n e a b ≡ true
  unfolding closed
  kept zero a b h = h
  kept (suc n) a b h = back (closed n e) n a b (direct (kept n a b h))

  -- what goes through a number below n is there already
  through : (n a c b : ℕ) → c < n → closed n e a c ≡ true → closed n e c b ≡ true → closed n e a b ≡ true
  unfolding closed
  through zero a c b l p q = absurd (omega arith)
  through (suc n) a c b l p q =
      back (closed n e) n a b (go (ways (closed n e) n a c p) (ways (closed n e) n c b q) (λ x y. through n x c y) (ℕ_discrete c n))
    where
      go : Via (closed n e) n a c → Via (closed n e) n c b
          → ((x y : ℕ) → c < n → closed n e x c ≡ true → closed n e c y ≡ true → closed n e x y ≡ true)
          → Dec (c ≡ n) → Via (closed n e) n a b
      go (direct p) (direct q) ih (yes o) = over (rw o at p) (rw o at q)
      go (direct p) (over q r) ih (yes o) = over (rw o at p) r
      go (over p s) (direct q) ih (yes o) = over p (rw o at q)
      go (over p s) (over q r) ih (yes o) = over p r
      go (direct p) (direct q) ih (no d) = direct (ih a b (omega arith) p q)
      go (direct p) (over q r) ih (no d) = over (ih a n (omega arith) p q) r
      go (over p s) (direct q) ih (no d) = over p (ih n b (omega arith) s q)
      go (over p s) (over q r) ih (no d) = over p r

chain : {edges : Edges} {a b d : ℕ} → Walk edges a b → Walk edges b d → Walk edges a d
chain (one m) w = more m w
chain (more m v) w = more m (chain v w)

module _ (t : Square) where
  closed_walk : (n a b : ℕ) → n ≤ terms → a < terms → b < terms → closed n (marked t) a b ≡ true → Walk (edges_in t) a b
  unfolding closed
  closed_walk zero a b l ha hb h = one (in_edges t a b (record { from = ha; to = hb; mark = h }))
  closed_walk (suc n) a b l ha hb h =
      go (ways (closed n (marked t)) n a b h) (λ x y hx hy q. closed_walk n x y (omega arith) hx hy q)
    where
      go : Via (closed n (marked t)) n a b → ((x y : ℕ) → x < terms → y < terms → closed n (marked t) x y ≡ true → Walk (edges_in t) x y) → Walk (edges_in t) a b
      go (direct q) ih = ih a b ha hb q
      go (over q r) ih = chain (ih a n ha l q) (ih n b l hb r)

  walk_closed : {a b : ℕ} → Walk (edges_in t) a b → closed terms (marked t) a b ≡ true
  walk_closed {a} {b} (one m) = kept (marked t) terms a b (of_edges t a b m).mark
  walk_closed {a} {b} (more {b = c} m w) =
      let E = of_edges t a c m in through (marked t) terms a c b E.to (kept (marked t) terms a c E.mark) (walk_closed w)

-- ---- what `close` makes

pub reach_closes : (t : Square) → Closure t (reach_to (terms / 2) t)
unfolding Closure
reach_closes t a b ha hb =
    let e = reach_law (terms / 2) t (omega arith) a b ha hb in
    (λ h. closed_walk t terms a b (omega arith) ha hb (sym e ∙ h), λ w. e ∙ walk_closed t w)

-- a table without edges is closed
pub unmarked_closed : (t : Square) → Unmarked t → Closure t t
unfolding Closure UnmarkedTo
unmarked_closed t N a b ha hb = (λ m. no_way (sym m ∙ none a b ha hb), λ w. no_way (out w))
  where
    none : (x y : ℕ) → x < terms → y < terms → marked t x y ≡ false
    none x y hx hy = sym (row_of t x y) ∙ row_empty (row t x) y (N x hx) hy

    out : {x : ℕ} → Walk (edges_in t) x b → true ≡ false
    out {x} (one m) = let E = of_edges t x b m in sym E.mark ∙ none x b E.from E.to
    out {x} (more {b = c} m w) = let E = of_edges t x c m in sym E.mark ∙ none x c E.from E.to

-- two tests that hold together are equal
pub same_test : (x y : Bool) → (x ≡ true → y ≡ true) → (y ≡ true → x ≡ true) → x ≡ y
same_test true true f g = refl
same_test true false f g = sym (f refl)
same_test false true f g = g refl
same_test false false f g = refl

-- on the diagonal stand the cyclic terms
pub diagonal : (t u : Square) (a : ℕ) → Closure t u → a < terms → marked u a a ≡ returns (edges_in t) a
unfolding Closure
diagonal t u a C h =
    same_test (marked u a a) (returns (edges_in t) a) (λ m. (returns_is (edges_in t) a).1 ((C a a h h).0 m)) (λ r. (C a a h h).1 ((returns_is (edges_in t) a).0 r))
