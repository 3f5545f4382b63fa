-- What one line of a sheet does, case by case: the proofs.
use Rattle.std.specs.Prelude.{◌≡◌, Bool, true, false, not, List, [], ◌∷◌, length, ltb, leb}
use Rattle.std.proofs.Math.Path.{refl, ap}
use Rattle.std.proofs.Common.{◌∙◌, arith}
use Rattle.std.proofs.Math.Option.{Option, none, some}
use Prim.Native.Nat.{ℕ, zero, suc, ◌<◌}
use Rattle.std.proofs.Math.Dec.{eqb}
use Rattle.paper.specs.declared.Item.{Item}
use Rattle.paper.specs.declared.Refusal.{Refusal}
use Rattle.paper.specs.declared.Refusal.TheVariants.{Layout, Repeated, TooManySets, TermTooHigh}
use Rattle.paper.specs.Words.{any}
use Rattle.paper.specs.Numbers.{max_sets, max_term, last_line, Outcome, done, refused, ◌>>=◌, demand}
use Rattle.paper.specs.Sites.{Site, Added, same_site, add}
use Rattle.paper.specs.Loading.{Written, Set, Made, begun, site_added, rule_loaded, empty_set, with_sites, load}
use Rattle.paper.specs.Layout.{Frame, begin_set, a_site, a_rule, an_item, end_set, frame_of}
use Rattle.paper.specs.Sheets.{Open, outside, at_sites, at_rules, at_items, Reader, Stepped, stepped, refusal_found, rule_read, items_left, with_item, set_begun, site_read_in, rule_begun, set_ended, item_read, act, act_on, step}
use Rattle.meaning_shipped.specs.Words.{IsAtPlace, Completes, bare_first, bare, last}

-- the open set, where there is one, is made; of an open rule an item is still to come
abbrev pub MadeOpen : Open → Type 0
MadeOpen outside = Unit {0}
MadeOpen (at_sites g) = Made g
MadeOpen (at_rules g) = Made g
MadeOpen (at_items g r left) = Made g × (0 < left)

pub made_at : (o : Open) (g : Set) → MadeOpen o → IsAtPlace o g → Made g
made_at outside g M h = absurd h
made_at (at_sites x) g M h = rw h at M
made_at (at_rules x) g M h = rw h at M
made_at (at_items x r n) g M h = rw h at M.0

pub completes_at : (d : Reader) (l : List ℕ) (g : Set) (r : Written) → Completes d l g r → IsAtPlace d.stands g
completes_at d l g r (bare_first p q h f) = rw h refl
completes_at d l g r (bare p q h f) = rw h refl
completes_at d l g r (last s i h f) = rw h refl

-- what a line does
pub data Does (d : Reader) (at : ℕ) (l : List ℕ) : Outcome Stepped → Type 0 where
  stops : (x : Refusal) → Does d at l (refused x)
  begins : (t f : ℕ) → Does d at l (done (stepped d.ended (at_sites (empty_set t f)) []))
  adds : (g : Set) (s : Site) (a : Added) → IsAtPlace d.stands g → add g.sites at s ≡ done a →
      Does d at l (done (stepped d.ended (at_sites (with_sites g a.sites)) []))
  waits : (g : Set) (r : Written) (n : ℕ) → IsAtPlace d.stands g → Does d at l (done (stepped d.ended (at_items g r (suc n)) []))
  keeps : (g : Set) (r : Written) (h : Set) → Completes d l g r → step d at l ≡ rule_read d.ended g r → load g r ≡ done h →
      Does d at l (done (stepped d.ended (at_rules h) []))
  refuses : (g : Set) (r : Written) (x : Refusal) → Completes d l g r → step d at l ≡ rule_read d.ended g r → load g r ≡ refused x →
      Does d at l (done (stepped d.ended (at_rules g) (refusal_found r.place x ∷ [])))
  ends : (g : Set) → IsAtPlace d.stands g → frame_of l ≡ some end_set → step d at l ≡ set_ended d.ended g → Does d at l (set_ended d.ended g)

module _ (d : Reader) (at : ℕ) (l : List ℕ) where
  does_demand : (b : Bool) (x : Refusal) (f : Unit {0} → Outcome Stepped) → Does d at l (f tt) → Does d at l (demand b x >>= f)
  does_demand true x f G = G
  does_demand false x f G = stops x

  read_does : (g : Set) (r : Written) → Completes d l g r → step d at l ≡ rule_read d.ended g r → Does d at l (rule_read d.ended g r)
  read_does g r c w = unfold rule_read in go (load g r) refl
    where
      go : (o : Outcome Set) → load g r ≡ o → Does d at l (elim o as
          (λ _. Outcome Stepped) [
            | done h ↦ done (stepped d.ended (at_rules h) [])
            | refused x ↦ done
                (stepped d.ended (at_rules g) (refusal_found r.place x ∷ []))
          ])
      go (done h) q = keeps g r h c w q
      go (refused x) q = refuses g r x c w q

  left_does : (g : Set) (r : Written) (n : ℕ) → IsAtPlace d.stands g → (n ≡ 0 → Completes d l g r) → step d at l ≡ items_left d.ended g r n →
      Does d at l (items_left d.ended g r n)
  unfolding items_left
  left_does g r zero h c w = read_does g r (c refl) w
  left_does g r (suc n) h c w = waits g r n h

  item_does : (g : Set) (r : Written) (n : ℕ) (i : Item) → d.stands ≡ at_items g r n → frame_of l ≡ some (an_item i) → 0 < n →
      step d at l ≡ item_read d.ended g r n i → Does d at l (item_read d.ended g r n i)
  unfolding item_read
  item_does g r zero i h f p w = absurd (omega arith)
  item_does g r (suc n) i h f p w = left_does g (with_item r i) n (rw h refl) (λ z. last r i (h ∙ ap (λ k. at_items g r (suc k)) z) f) w

  begun_does : (t f : ℕ) → Does d at l (set_begun d.ended at t f)
  unfolding set_begun
  begun_does t f =
      does_demand (not (any (λ h. eqb h.term t) d.ended.heads)) (Repeated at) _
      (does_demand (ltb (length d.ended.heads) max_sets) (TooManySets (suc (length d.ended.heads))) _
      (does_demand (leb t max_term) (TermTooHigh t) _ (begins t f)))

  site_does : (g : Set) (s : Site) → IsAtPlace d.stands g → Does d at l (site_read_in d.ended at g s)
  unfolding site_read_in
  site_does g s h = does_demand (not (any (same_site s) g.sites)) (Repeated at) _ (go (add g.sites at s) refl)
    where
      go : (o : Outcome Added) → add g.sites at s ≡ o → Does d at l (o >>= λ a. done (stepped d.ended (at_sites (with_sites g a.sites)) []))
      go (done a) q = adds g s a h q
      go (refused x) q = stops x

  abbrev bare_rule : ℕ → ℕ → ℕ → Written
  bare_rule p q n = record { place = p; priority = q; count = n; items = [] }

  first_bare : (g : Set) (p q n : ℕ) → d.stands ≡ at_sites g → frame_of l ≡ some (a_rule p q n) → n ≡ 0 → Completes d l g (bare_rule p q n)
  first_bare g p q n h f z = rw z (bare_first p q h (rw z at f))

  later_bare : (g : Set) (p q n : ℕ) → d.stands ≡ at_rules g → frame_of l ≡ some (a_rule p q n) → n ≡ 0 → Completes d l g (bare_rule p q n)
  later_bare g p q n h f z = rw z (bare p q h (rw z at f))

  act_does : (o : Open) (f : Frame) → d.stands ≡ o → frame_of l ≡ some f → MadeOpen o → step d at l ≡ act d.ended at o f →
      Does d at l (act d.ended at o f)
  unfolding act rule_begun
  act_does outside (begin_set t f) h v M w = begun_does t f
  act_does outside (a_site s) h v M w = stops (Layout at)
  act_does outside (a_rule p q n) h v M w = stops (Layout at)
  act_does outside (an_item i) h v M w = stops (Layout at)
  act_does outside end_set h v M w = stops (Layout at)
  act_does (at_sites g) (begin_set t f) h v M w = stops (Layout at)
  act_does (at_sites g) (a_site s) h v M w = site_does g s (rw h refl)
  act_does (at_sites g) (a_rule p q n) h v M w = left_does g (bare_rule p q n) n (rw h refl) (first_bare g p q n h v) w
  act_does (at_sites g) (an_item i) h v M w = stops (Layout at)
  act_does (at_sites g) end_set h v M w = ends g (rw h refl) v w
  act_does (at_rules g) (begin_set t f) h v M w = stops (Layout at)
  act_does (at_rules g) (a_site s) h v M w = stops (Layout at)
  act_does (at_rules g) (a_rule p q n) h v M w = left_does g (bare_rule p q n) n (rw h refl) (later_bare g p q n h v) w
  act_does (at_rules g) (an_item i) h v M w = stops (Layout at)
  act_does (at_rules g) end_set h v M w = ends g (rw h refl) v w
  act_does (at_items g r n) (begin_set t f) h v M w = stops (Layout at)
  act_does (at_items g r n) (a_site s) h v M w = stops (Layout at)
  act_does (at_items g r n) (a_rule p q k) h v M w = stops (Layout at)
  act_does (at_items g r n) (an_item i) h v M w = item_does g r n i h v M.1 w
  act_does (at_items g r n) end_set h v M w = stops (Layout at)

  step_is : step d at l ≡ (demand (leb at last_line) (Layout at) >>= λ _. act_on d at (frame_of l))
  unfolding step
  step_is = refl

  pub step_does : MadeOpen d.stands → Does d at l (step d at l)
  step_does M = rw step_is (go (leb at last_line) (frame_of l) refl step_is)
    where
      go : (b : Bool) (f : Option Frame) → frame_of l ≡ f → step d at l ≡ (demand b (Layout at) >>= λ _. act_on d at f) →
          Does d at l (demand b (Layout at) >>= λ _. act_on d at f)
      go false f v w = stops (Layout at)
      go true none v w = stops (Layout at)
      go true (some f) v w = act_does d.stands f refl v M w

-- the open set stays made
abbrev pub Stays : Outcome Stepped → Type 0
Stays (done s) = MadeOpen s.after.stands
Stays (refused x) = Unit {0}

pub step_stays : (d : Reader) (at : ℕ) (l : List ℕ) → MadeOpen d.stands → Stays (step d at l)
step_stays d at l M = go (step_does d at l M)
  where
    go : {o : Outcome Stepped} → Does d at l o → Stays o
    go (stops x) = tt
    go (begins t f) = begun t f
    go (adds g s a h e) = site_added at s a (made_at d.stands g M h) e
    go (waits g r n h) = (made_at d.stands g M h, omega arith)
    go (keeps g r h c w e) = rule_loaded r (made_at d.stands g M (completes_at d l g r c)) e
    go (refuses g r x c w e) = made_at d.stands g M (completes_at d l g r c)
    go (ends g h v w) = unfold set_ended in tt
