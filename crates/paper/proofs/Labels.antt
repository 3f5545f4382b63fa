-- Laws of tables and of classes as labels: what `put`, `look` and `join` do, as functions of a site. (Joins: the same of a function to the lowest member.)
use mathlib.Core.Path.{◌≡◌, refl, sym, ap, ◌∙◌, fun_ext}
use mathlib.Core.Bool.{Bool, true, false}
use mathlib.Core.Option.{Option, none, some}
use mathlib.Core.List.{[], ◌∷◌, map}
use Prim.Native.Nat.{ℕ, min, max, compare, Ordering}
use native.Mathlib.Omega.{arith}
use native.Mathlib.Decide.{ℕ_discrete}
use lib.Dec.{eqb, compare_is_eq}
use borrow.Author.Tests.{eqb-true, eqb-false, eq-eqb, ne_eqb}
use Rattle.paper.proofs.Joins.{Lowest, join_at, Joined, high, same, joined, join_lowest}
use Rattle.std.specs.Prelude.{if◌then◌else◌}
use Rattle.paper.specs.Words.{Table, look, put}
use Rattle.paper.specs.Loading.{Labels, lowest, relabel, join}

pub never : {A : Type 0} {a : A} → none ≡ some a → ⊥
never e = let z : ◌≡◌ {A = ℕ} 0 1 = cc in omega arith

-- ---- look and put

pub look_here : {A : Type 0} (n : ℕ) (a : A) (t : Table A) → look ((n, a) ∷ t) n ≡ some a
unfolding look
look_here n a t = rw (eq-eqb n n refl, look)

pub look_past : {A : Type 0} (n m : ℕ) (a : A) (t : Table A) → (n ≡ m → ⊥) → look ((n, a) ∷ t) m ≡ look t m
unfolding look
look_past n m a t h = rw (ne_eqb n m h, look)

-- what `put` makes of a table whose first entry is (k, b), by the comparison
abbrev by : {A : Type 0} → Ordering → (l e g : Table A) → Table A
by Ordering.lt l e g = l
by Ordering.eq l e g = e
by Ordering.gt l e g = g

apart : (n k : ℕ) → compare n k ≡ Ordering.gt → n ≡ k → ⊥
apart n k e = eqb-false n k (ap compare_is_eq e)

level : (n k : ℕ) → compare n k ≡ Ordering.eq → n ≡ k
level n k e = eqb-true n k (ap compare_is_eq e)

pub put_here : {A : Type 0} (n : ℕ) (a : A) (t : Table A) → look (put n a t) n ≡ some a
unfolding put
put_here n a [] = look_here n a []
put_here {A} n a ((k, b) ∷ t) = go (compare n k) refl (put_here n a t)
  where
    go : (o : Ordering) → compare n k ≡ o → look (put n a t) n ≡ some a → look (put n a ((k, b) ∷ t)) n ≡ some a
    go Ordering.lt e h = rw (e, put) (look_here n a ((k, b) ∷ t))
    go Ordering.eq e h = rw (e, put) (look_here n a t)
    go Ordering.gt e h = rw (e, put) (look_past k n b (put n a t) (λ q. apart n k e (sym q)) ∙ h)

pub put_there : {A : Type 0} (n m : ℕ) (a : A) (t : Table A) → (n ≡ m → ⊥) → look (put n a t) m ≡ look t m
unfolding put
put_there n m a [] d = look_past n m a [] d
put_there n m a ((k, b) ∷ t) d = go (compare n k) refl (put_there n m a t d) (ℕ_discrete k m)
  where
    go : (o : Ordering) → compare n k ≡ o → look (put n a t) m ≡ look t m → Dec (k ≡ m) → look (put n a ((k, b) ∷ t)) m ≡ look ((k, b) ∷ t) m
    go Ordering.lt e h c = rw (e, put) (look_past n m a ((k, b) ∷ t) d)
    go Ordering.eq e h (yes c) = absurd (d (level n k e ∙ c))
    go Ordering.eq e h (no c) = rw (e, put) (look_past n m a t d ∙ sym (look_past k m b t c))
    go Ordering.gt e h (yes c) = rw (e, put, c) (look_here m b (put n a t) ∙ sym (look_here m b t))
    go Ordering.gt e h (no c) = rw (e, put) (look_past k m b (put n a t) c ∙ (h ∙ sym (look_past k m b t c)))

-- ---- labels

-- the lowest member of its class is its own label, and no higher; a site that is not there is the lowest member of no other
pub record Sound (k : Labels) : Type 0 where
  pub function : Lowest (lowest k)
  pub lone : (n m : ℕ) → look k n ≡ none → lowest k m ≡ n → m ≡ n

abbrev relabelled : ℕ → ℕ → Option ℕ → Option ℕ
relabelled h l none = none
relabelled h l (some v) = some (if eqb v h then l else v)

look_relabel : (h l : ℕ) (k : Labels) (n : ℕ) → look (map (relabel h l) k) n ≡ relabelled h l (look k n)
unfolding look relabel
look_relabel h l [] n = refl
look_relabel h l ((m, v) ∷ k) n = go (eqb m n) refl (look_relabel h l k n)
  where
    go : (t : Bool) → eqb m n ≡ t → look (map (relabel h l) k) n ≡ relabelled h l (look k n) → look (map (relabel h l) ((m, v) ∷ k)) n ≡ relabelled h l (look ((m, v) ∷ k) n)
    go true e i = rw (e, look)
    go false e i = rw (e, look) i

lowest_some : (k : Labels) (n v : ℕ) → look k n ≡ some v → lowest k n ≡ v
unfolding lowest
lowest_some k n v e = rw e

lowest_none : (k : Labels) (n : ℕ) → look k n ≡ none → lowest k n ≡ n
unfolding lowest
lowest_none k n e = rw e

-- both sites entered, each with its label
entered : Labels → ℕ → ℕ → Labels
entered k a b = put a (lowest k a) (put b (lowest k b) k)

data Entry (k : Labels) (a b n : ℕ) : Type 0 where
  there : look (entered k a b) n ≡ some (lowest k n) → Entry k a b n
  lacks : look (entered k a b) n ≡ none → look k n ≡ none → (a ≡ n → ⊥) → (b ≡ n → ⊥) → Entry k a b n

entry : (k : Labels) (a b n : ℕ) → Entry k a b n
unfolding entered
entry k a b n = go (ℕ_discrete a n) (ℕ_discrete b n) (look k n) refl
  where
    go : Dec (a ≡ n) → Dec (b ≡ n) → (o : Option ℕ) → look k n ≡ o → Entry k a b n
    go (yes p) q o e = there (rw (← p) (put_here a (lowest k a) (put b (lowest k b) k)))
    go (no p) (yes q) o e = there (put_there a n (lowest k a) (put b (lowest k b) k) p ∙ (rw (← q) (put_here b (lowest k b) k)))
    go (no p) (no q) (some v) e = there (put_there a n (lowest k a) (put b (lowest k b) k) p ∙ (put_there b n (lowest k b) k q ∙ (e ∙ ap some (sym (lowest_some k n v e)))))
    go (no p) (no q) none e = lacks (put_there a n (lowest k a) (put b (lowest k b) k) p ∙ (put_there b n (lowest k b) k q ∙ e)) e p q

pub join_same : (k : Labels) (a b : ℕ) → lowest k a ≡ lowest k b → join k a b ≡ k
unfolding join
join_same k a b e = rw (eq-eqb (lowest k a) (lowest k b) e)

join_two : (k : Labels) (a b : ℕ) → (lowest k a ≡ lowest k b → ⊥) → join k a b ≡ map (relabel (max (lowest k a) (lowest k b)) (min (lowest k a) (lowest k b))) (entered k a b)
unfolding join entered
join_two k a b d = rw (ne_eqb (lowest k a) (lowest k b) d)

join_there : (k : Labels) (a b n : ℕ) → (lowest k a ≡ lowest k b → ⊥) → look (entered k a b) n ≡ some (lowest k n) → look (join k a b) n ≡ some (join_at (lowest k) a b n)
unfolding join_at
join_there k a b n d e = ap (λ t. look t n) (join_two k a b d) ∙ (look_relabel (max (lowest k a) (lowest k b)) (min (lowest k a) (lowest k b)) (entered k a b) n ∙ rw e)

join_lacks : (k : Labels) (a b n : ℕ) → (lowest k a ≡ lowest k b → ⊥) → look (entered k a b) n ≡ none → look (join k a b) n ≡ none
join_lacks k a b n d e = ap (λ t. look t n) (join_two k a b d) ∙ (look_relabel (max (lowest k a) (lowest k b)) (min (lowest k a) (lowest k b)) (entered k a b) n ∙ rw e)

-- a site that was not entered is neither of the two labels
apart_from : (k : Labels) (a b n : ℕ) → Sound k → look k n ≡ none → (a ≡ n → ⊥) → (b ≡ n → ⊥) → (lowest k n ≡ max (lowest k a) (lowest k b) → ⊥) × (min (lowest k a) (lowest k b) ≡ n → ⊥)
apart_from k a b n S e p q =
    let own = lowest_none k n e in
    let na : lowest k a ≡ n → ⊥ = λ h. p (S.lone n a e h) in
    let nb : lowest k b ≡ n → ⊥ = λ h. q (S.lone n b e h) in
    (λ h. omega arith, λ h. omega arith)

-- a join of labels is the join of the function
pub lowest_join : (k : Labels) (a b : ℕ) → Sound k → (n : ℕ) → lowest (join k a b) n ≡ join_at (lowest k) a b n
lowest_join k a b S n = go (ℕ_discrete (lowest k a) (lowest k b)) (entry k a b n)
  where
    alike : {v : ℕ} → lowest k a ≡ lowest k b → Joined (lowest k) a b n v → lowest k n ≡ v
    alike p (high e f) = omega arith
    alike p (same e f) = sym f

    alone : {v : ℕ} → look k n ≡ none → (a ≡ n → ⊥) → (b ≡ n → ⊥) → Joined (lowest k) a b n v → n ≡ v
    alone l pa pb (high h f) = absurd ((apart_from k a b n S l pa pb).0 h)
    alone l pa pb (same h f) = sym (lowest_none k n l) ∙ sym f

    go : Dec (lowest k a ≡ lowest k b) → Entry k a b n → lowest (join k a b) n ≡ join_at (lowest k) a b n
    go (yes p) x = ap (λ t. lowest t n) (join_same k a b p) ∙ alike p (joined (lowest k) a b n)
    go (no p) (there e) = lowest_some (join k a b) n (join_at (lowest k) a b n) (join_there k a b n p e)
    go (no p) (lacks e l pa pb) = lowest_none (join k a b) n (join_lacks k a b n p e) ∙ alone l pa pb (joined (lowest k) a b n)

pub lowest_joined : (k : Labels) (a b : ℕ) → Sound k → lowest (join k a b) ≡ join_at (lowest k) a b
lowest_joined k a b S = fun_ext (lowest_join k a b S)

-- and it keeps labels sound
pub join_sound : (k : Labels) (a b : ℕ) → Sound k → Sound (join k a b)
join_sound k a b S = record { function = rw (lowest_joined k a b S) (join_lowest (lowest k) a b S.function); lone = λ n m e h. go n m e (sym (lowest_join k a b S m) ∙ h) (ℕ_discrete (lowest k a) (lowest k b)) (entry k a b n) }
  where
    out : (n m : ℕ) {v : ℕ} → look k n ≡ none → (a ≡ n → ⊥) → (b ≡ n → ⊥) → v ≡ n → Joined (lowest k) a b m v → m ≡ n
    out n m l pa pb q (high e f) = absurd ((apart_from k a b n S l pa pb).1 (sym f ∙ q))
    out n m l pa pb q (same e f) = S.lone n m l (sym f ∙ q)

    stays : (n m : ℕ) {v : ℕ} → lowest k a ≡ lowest k b → look k n ≡ none → v ≡ n → Joined (lowest k) a b m v → m ≡ n
    stays n m p l q (high e f) = S.lone n m l (omega arith)
    stays n m p l q (same e f) = S.lone n m l (sym f ∙ q)

    go : (n m : ℕ) → look (join k a b) n ≡ none → join_at (lowest k) a b m ≡ n → Dec (lowest k a ≡ lowest k b) → Entry k a b n → m ≡ n
    go n m e h (yes p) x = stays n m p (ap (λ t. look t n) (sym (join_same k a b p)) ∙ e) h (joined (lowest k) a b m)
    go n m e h (no p) (there t) = absurd (never (sym e ∙ join_there k a b n p t))
    go n m e h (no p) (lacks t l pa pb) = out n m l pa pb h (joined (lowest k) a b m)

pub none_sound : Sound []
unfolding lowest look
none_sound = record { function = record { idem = λ n. refl; low = λ n. omega arith }; lone = λ n m e h. h }
