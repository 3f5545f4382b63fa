-- Classes as labels: what joining a list of pairs and dissolving a class leave, as functions to the lowest member.
use Rattle.std.specs.Prelude.{◌≡◌, refl, Bool, true, false, not, ℕ, ◌≤◌, eqb}
use Rattle.std.proofs.Common.{sym, ap, ◌∙◌, arith, eq-eqb, ne_eqb}
use Rattle.std.proofs.Math.Path.{fun_ext}
use Rattle.std.proofs.Math.Option.{Option, none, some}
use mathlib.Core.List.{List, [], ◌∷◌, ◌++◌, Memᴰ}
use Rattle.std.proofs.Math.Decide.{ℕ_discrete}
use Rattle.std.specs.Prelude.{if◌then◌else◌}
use Rattle.paper.specs.Words.{look}
use Rattle.paper.specs.Loading.{Labels, lowest, join, join_all, members, dissolve, others}
use Rattle.paper.proofs.Joins.{Lowest, join_keeps, join_joins, joined_by}
use Rattle.paper.proofs.Labels.{Sound, never, join_same, lowest_join, lowest_joined, join_sound, none_sound}
use Rattle.paper.proofs.Tables.{of_keep, in_keep, Rising, Fine, lowest_is, lowest_own, join_fine, of_members, in_members, dissolved, undissolved, dissolve_fine}

-- labels as joining makes them: sound, ascending, and no site alone in its class
pub record Well (k : Labels) : Type 0 where
  pub sound : Sound k
  pub rising : Rising 0 k
  pub mate : (n v : ℕ) → look k n ≡ some v → (m : ℕ) × (m ≡ n → ⊥) × (lowest k m ≡ lowest k n)

-- a site that is not the only one of its class has its label
pub label_of : (k : Labels) → Well k → (a b : ℕ) → lowest k a ≡ lowest k b → (a ≡ b → ⊥) → look k a ≡ some (lowest k a)
label_of k W a b e d = go (look k a) refl
  where
    go : (o : Option ℕ) → look k a ≡ o → look k a ≡ some (lowest k a)
    go none q = absurd (d (sym (W.sound.lone a b q (sym e ∙ lowest_own k a q))))
    go (some v) q = q ∙ ap some (sym (lowest_is k a v q))

-- ---- join

-- who has a label after a join had one, or is one of the two
data Entered (k : Labels) (a b n : ℕ) : Type 0 where
  was_in : (v : ℕ) → look k n ≡ some v → Entered k a b n
  first_of : n ≡ a → Entered k a b n
  second_of : n ≡ b → Entered k a b n

pub join_well : (k : Labels) (a b : ℕ) → Well k → Well (join k a b)
join_well k a b W = record { sound = join_sound k a b W.sound; rising = F.rising; mate = λ n v e. mate n v e (ℕ_discrete (lowest k a) (lowest k b)) }
  where
    F : Fine (Entered k a b) (join k a b)
    F = join_fine k a b (first_of refl) (second_of refl) (record { sound = W.sound; rising = W.rising; within = λ n v e. was_in v e })

    keeps : (x y : ℕ) → lowest k x ≡ lowest k y → lowest (join k a b) x ≡ lowest (join k a b) y
    keeps x y e = lowest_join k a b W.sound x ∙ (join_keeps (lowest k) a b x y e ∙ sym (lowest_join k a b W.sound y))

    joins : lowest (join k a b) a ≡ lowest (join k a b) b
    joins = lowest_join k a b W.sound a ∙ (join_joins (lowest k) a b ∙ sym (lowest_join k a b W.sound b))

    by : (n : ℕ) → (lowest k a ≡ lowest k b → ⊥) → Entered k a b n → (m : ℕ) × (m ≡ n → ⊥) × (lowest (join k a b) m ≡ lowest (join k a b) n)
    by n d (was_in v e) = let r = W.mate n v e in (r.0, r.1, keeps r.0 n r.2)
    by n d (first_of e) = (b, λ q. d (ap (lowest k) (sym e ∙ sym q)), rw e (sym joins))
    by n d (second_of e) = (a, λ q. d (ap (lowest k) (q ∙ e)), rw e joins)

    mate : (n v : ℕ) → look (join k a b) n ≡ some v → Dec (lowest k a ≡ lowest k b) → (m : ℕ) × (m ≡ n → ⊥) × (lowest (join k a b) m ≡ lowest (join k a b) n)
    mate n v e (yes q) =
        let r = W.mate n v (ap (λ t. look t n) (sym (join_same k a b q)) ∙ e) in
        (r.0, r.1, keeps r.0 n r.2)
    mate n v e (no d) = by n d (F.within n v e)

pub none_well : Well []
unfolding look
none_well = record { sound = none_sound; rising = tt; mate = λ n v e. absurd (never e) }

pub all_well : (ps : List (ℕ × ℕ)) (k : Labels) → Well k → Well (join_all k ps)
unfolding join_all
all_well [] k W = W
all_well (p ∷ ps) k W = all_well ps (join k p.0 p.1) (join_well k p.0 p.1 W)

pub all_lowest : (ps : List (ℕ × ℕ)) (k : Labels) → Sound k → lowest (join_all k ps) ≡ joined_by ps (lowest k)
unfolding join_all joined_by
all_lowest [] k S = refl
all_lowest (p ∷ ps) k S = all_lowest ps (join k p.0 p.1) (join_sound k p.0 p.1 S) ∙ ap (joined_by ps) (lowest_joined k p.0 p.1 S)

pub all_append : (ps qs : List (ℕ × ℕ)) (k : Labels) → join_all k (ps ++ qs) ≡ join_all (join_all k ps) qs
unfolding join_all
all_append [] qs k = refl
all_append (p ∷ ps) qs k = all_append ps qs (join k p.0 p.1)

-- ---- the members of a class beside its lowest

pub of_others : (k : Labels) (low n : ℕ) → Rising 0 k → Memᴰ n (others k low) → look k n ≡ some low
unfolding others
of_others k low n R m = of_members k low n R (of_keep (λ n. not (eqb n low)) (members k low) n m).0

pub in_others : (k : Labels) (low n : ℕ) → look k n ≡ some low → (n ≡ low → ⊥) → Memᴰ n (others k low)
unfolding others
in_others k low n e d = in_keep (λ n. not (eqb n low)) (members k low) n (in_members k low n e) (rw (ne_eqb n low d))

-- ---- dissolve

abbrev pub apart : (ℕ → ℕ) → ℕ → ℕ → ℕ
apart rep low n = if eqb (rep n) low then n else rep n

pub apart_in : (rep : ℕ → ℕ) (low n : ℕ) → rep n ≡ low → apart rep low n ≡ n
apart_in rep low n e = rw (eq-eqb (rep n) low e)

pub apart_out : (rep : ℕ → ℕ) (low n : ℕ) → (rep n ≡ low → ⊥) → apart rep low n ≡ rep n
apart_out rep low n e = rw (ne_eqb (rep n) low e)

pub apart_lowest : (rep : ℕ → ℕ) (low : ℕ) → Lowest rep → Lowest (apart rep low)
apart_lowest rep low L = record { idem = λ n. idem n (ℕ_discrete (rep n) low); low = λ n. below n (ℕ_discrete (rep n) low) }
  where
    idem : (n : ℕ) → Dec (rep n ≡ low) → apart rep low (apart rep low n) ≡ apart rep low n
    idem n (yes e) = ap (apart rep low) (apart_in rep low n e)
    idem n (no e) =
        ap (apart rep low) (apart_out rep low n e) ∙ (apart_out rep low (rep n) (λ q. e (sym (L.idem n) ∙ q)) ∙ (L.idem n ∙ sym (apart_out rep low n e)))

    below : (n : ℕ) → Dec (rep n ≡ low) → apart rep low n ≤ n
    below n (yes e) = let q = apart_in rep low n e in omega arith
    below n (no e) = let q = apart_out rep low n e in let l = L.low n in omega arith

dissolve_at : (k : Labels) (low n : ℕ) → Well k → lowest (dissolve k low) n ≡ apart (lowest k) low n
dissolve_at k low n W = go (look (dissolve k low) n) refl (look k n) refl
  where
    go : (o : Option ℕ) → look (dissolve k low) n ≡ o → (p : Option ℕ) → look k n ≡ p → lowest (dissolve k low) n ≡ apart (lowest k) low n
    go (some v) e p f =
        let x = dissolved k low n v W.rising e in
        let q = lowest_is k n v x.0 in
        lowest_is (dissolve k low) n v e ∙ (sym q ∙ sym (apart_out (lowest k) low n (λ z. x.1 (sym q ∙ z))))
    go none e none f = lowest_own (dissolve k low) n e ∙ sym (alone (eqb (lowest k n) low))
      where
        alone : (b : Bool) → (if b then n else lowest k n) ≡ n
        alone true = refl
        alone false = lowest_own k n f
    go none e (some v) f = lowest_own (dissolve k low) n e ∙ sym (apart_in (lowest k) low n (lowest_is k n v f ∙ gone (ℕ_discrete v low)))
      where
        gone : Dec (v ≡ low) → v ≡ low
        gone (yes q) = q
        gone (no q) = absurd (never (sym e ∙ undissolved k low n v W.rising f q))

pub dissolve_is : (k : Labels) (low : ℕ) → Well k → lowest (dissolve k low) ≡ apart (lowest k) low
dissolve_is k low W = fun_ext (λ n. dissolve_at k low n W)

pub dissolve_well : (k : Labels) (low : ℕ) → Well k → Well (dissolve k low)
dissolve_well k low W = record { sound = F.sound; rising = F.rising; mate = mate }
  where
    F : Fine (λ n. Unit {0}) (dissolve k low)
    F = dissolve_fine {Q = λ n. Unit {0}} k low (record { sound = W.sound; rising = W.rising; within = λ n v e. tt }) (λ n v e d. tt)

    mate : (n v : ℕ) → look (dissolve k low) n ≡ some v → (m : ℕ) × (m ≡ n → ⊥) × (lowest (dissolve k low) m ≡ lowest (dissolve k low) n)
    mate n v e =
        let y = dissolved k low n v W.rising e in
        let x = W.mate n v y.0 in
        let d : lowest k n ≡ low → ⊥ = λ q. y.1 (sym (lowest_is k n v y.0) ∙ q) in (
          x.0,
          x.1,
          dissolve_at k low x.0 W
              ∙ (apart_out (lowest k) low x.0 (λ q. d (sym x.2 ∙ q)) ∙ (x.2 ∙ (sym (apart_out (lowest k) low n d) ∙ sym (dissolve_at k low n W)))),
        )
