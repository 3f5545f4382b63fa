-- A reader with other numbers finds, line by line, what paper's finds, each frame as its refusal's number says; it stands where paper's stands.
use Rattle.std.specs.Prelude.{◌≡◌, Bool, not, ltb, leb}
use Rattle.std.proofs.Math.Path.{refl, sym, ap}
use Rattle.std.proofs.Common.{◌∙◌}
use Rattle.std.proofs.Math.Bool.{true, false}
use Rattle.std.proofs.Math.Option.{Option, none, some}
use mathlib.Core.List.{List, [], ◌∷◌, ◌++◌, map}
use Prim.Native.Nat.{ℕ, zero, suc, ◌+◌}
use Rattle.std.proofs.Math.ListN.{length}
use Rattle.std.proofs.Math.Dec.{eqb}
use Rattle.paper.specs.declared.Item.{Item}
use Rattle.paper.specs.declared.Refusal.{Refusal}
use Rattle.paper.specs.declared.Refusal.TheVariants.{Layout, Repeated, TooManySets, TermTooHigh}
use Rattle.paper.specs.Words.{any}
use Rattle.paper.specs.Numbers.{last_line, max_sets, max_term, Outcome, done, refused, ◌>>=◌, demand}
use Rattle.paper.specs.Sites.{Site, same_site, add}
use Rattle.paper.specs.Loading.{Written, Set, load}
use Rattle.paper.specs.Rules.{Listed, report}
use Rattle.paper.specs.Terms.{head_of, edges_of, cyclic_findings}
use Rattle.paper.specs.Layout.{Lines, nothing, unended, line, Frame, begin_set, a_site, a_rule, an_item, end_set, frame_of}
use Rattle.paper.specs.Sheets.{Open, outside, at_sites, at_rules, at_items, Ended, Reader, Stepped, stepped, refusal_found, listed_found, term_found, end_found, stop_found, rule_read, items_left, with_item, set_begun, site_read_in, rule_begun, set_ended, item_read, act, act_on, step, sheet_ended, read_on}
use Rattle.old_numbers.specs.Before.{refusal_by, stop_by, rule_read_by, items_left_by, rule_begun_by, item_read_by, act_by, act_on_by, step_by, sheet_ended_by, read_by}

-- a change of frames that gives refusals the numbers `num` and leaves all other findings alone
pub record Renumbers (num : Refusal → ℕ) (φ : List ℕ → List ℕ) : Type 0 where
  pub refusal : (place : ℕ) (r : Refusal) → φ (refusal_found place r) ≡ refusal_by num place r
  pub stop : (at : ℕ) (r : Refusal) → φ (stop_found at r) ≡ stop_by num at r
  pub listed : (l : Listed) → φ (listed_found l) ≡ listed_found l
  pub term : (t : ℕ) → φ (term_found t) ≡ term_found t
  pub end : (e : Ended) → φ (end_found e) ≡ end_found e

abbrev pub renum : (List ℕ → List ℕ) → Outcome Stepped → Outcome Stepped
renum φ (done s) = done (record { after = s.after; found = map φ s.found })
renum φ (refused x) = refused x

module _ (num : Refusal → ℕ) (φ : List ℕ → List ℕ) (F : Renumbers num φ) where
  -- what finds nothing is left alone
  quiet_demand : (b : Bool) (r : Refusal) (f : Unit {0} → Outcome Stepped) → ((u : Unit {0}) → f u ≡ renum φ (f u)) →
      (demand b r >>= f) ≡ renum φ (demand b r >>= f)
  quiet_demand true r f h = h tt
  quiet_demand false r f h = refl

  quiet_bind : {A : Type 0} (o : Outcome A) (f : A → Outcome Stepped) → ((a : A) → f a ≡ renum φ (f a)) → (o >>= f) ≡ renum φ (o >>= f)
  quiet_bind (done a) f h = h a
  quiet_bind (refused x) f h = refl

  begun_same : (e : Ended) (at t f : ℕ) → set_begun e at t f ≡ renum φ (set_begun e at t f)
  unfolding set_begun
  begun_same e at t f =
      quiet_demand (not (any (λ h. eqb h.term t) e.heads)) (Repeated at) _ (λ _.
      quiet_demand (ltb (length e.heads) max_sets) (TooManySets (suc (length e.heads))) _ (λ _.
      quiet_demand (leb t max_term) (TermTooHigh t) _ (λ _. refl)))

  site_same : (e : Ended) (at : ℕ) (g : Set) (s : Site) → site_read_in e at g s ≡ renum φ (site_read_in e at g s)
  unfolding site_read_in
  site_same e at g s = quiet_demand (not (any (same_site s) g.sites)) (Repeated at) _ (λ _. quiet_bind (add g.sites at s) _ (λ a. refl))

  lists_same : (ls : List Listed) → map listed_found ls ≡ map φ (map listed_found ls)
  lists_same [] = refl
  lists_same (l ∷ ls) = ap (λ z. z ∷ map listed_found ls) (sym (F.listed l)) ∙ ap (λ z. φ (listed_found l) ∷ z) (lists_same ls)

  ended_same : (e : Ended) (g : Set) → set_ended e g ≡ renum φ (set_ended e g)
  unfolding set_ended
  ended_same e g =
      ap (λ z. done (stepped (record { heads = e.heads ++ (head_of g ∷ []); edges = e.edges ++ edges_of g; kept = e.kept + length g.kept }) outside z))
      (lists_same (report g))

  rule_same : (e : Ended) (g : Set) (r : Written) → rule_read_by num e g r ≡ renum φ (rule_read e g r)
  unfolding rule_read rule_read_by
  rule_same e g r = go (load g r)
    where
      go : (o : Outcome Set) → (elim o [
        | done g' ↦ done (stepped e (at_rules g') [])
        | refused x ↦ done (stepped e (at_rules g) (refusal_by num r.place x ∷ []))
      ]) ≡ renum φ (elim o [
        | done g' ↦ done (stepped e (at_rules g') [])
        | refused x ↦ done (stepped e (at_rules g) (refusal_found r.place x ∷ []))
      ])
      go (done g') = refl
      go (refused x) = ap (λ z. done (stepped e (at_rules g) (z ∷ []))) (sym (F.refusal r.place x))

  left_same : (e : Ended) (g : Set) (r : Written) (n : ℕ) → items_left_by num e g r n ≡ renum φ (items_left e g r n)
  unfolding items_left items_left_by
  left_same e g r zero = rule_same e g r
  left_same e g r (suc n) = refl

  item_same : (e : Ended) (g : Set) (r : Written) (n : ℕ) (i : Item) → item_read_by num e g r n i ≡ renum φ (item_read e g r n i)
  unfolding item_read item_read_by
  item_same e g r zero i = left_same e g r zero
  item_same e g r (suc n) i = left_same e g (with_item r i) n

  rule_begun_same : (e : Ended) (g : Set) (p q n : ℕ) → rule_begun_by num e g p q n ≡ renum φ (rule_begun e g p q n)
  unfolding rule_begun rule_begun_by
  rule_begun_same e g p q n = left_same e g (record { place = p; priority = q; count = n; items = [] }) n

  act_same : (e : Ended) (at : ℕ) (o : Open) (f : Frame) → act_by num e at o f ≡ renum φ (act e at o f)
  unfolding act act_by
  act_same e at outside (begin_set t f) = begun_same e at t f
  act_same e at outside (a_site s) = refl
  act_same e at outside (a_rule p q n) = refl
  act_same e at outside (an_item i) = refl
  act_same e at outside end_set = refl
  act_same e at (at_sites g) (begin_set t f) = refl
  act_same e at (at_sites g) (a_site s) = site_same e at g s
  act_same e at (at_sites g) (a_rule p q n) = rule_begun_same e g p q n
  act_same e at (at_sites g) (an_item i) = refl
  act_same e at (at_sites g) end_set = ended_same e g
  act_same e at (at_rules g) (begin_set t f) = refl
  act_same e at (at_rules g) (a_site s) = refl
  act_same e at (at_rules g) (a_rule p q n) = rule_begun_same e g p q n
  act_same e at (at_rules g) (an_item i) = refl
  act_same e at (at_rules g) end_set = ended_same e g
  act_same e at (at_items g r n) (begin_set t f) = refl
  act_same e at (at_items g r n) (a_site s) = refl
  act_same e at (at_items g r n) (a_rule p q m) = refl
  act_same e at (at_items g r n) (an_item i) = item_same e g r n i
  act_same e at (at_items g r n) end_set = refl

  on_same : (d : Reader) (at : ℕ) (f : Option Frame) → act_on_by num d at f ≡ renum φ (act_on d at f)
  on_same d at none = refl
  on_same d at (some f) = act_same d.ended at d.stands f

  pub step_same : (d : Reader) (at : ℕ) (l : List ℕ) → step_by num d at l ≡ renum φ (step d at l)
  unfolding step step_by
  step_same d at l = go (leb at last_line)
    where
      go : (b : Bool) → (demand b (Layout at) >>= λ _. act_on_by num d at (frame_of l)) ≡ renum φ (demand b (Layout at) >>= λ _. act_on d at (frame_of l))
      go true = on_same d at (frame_of l)
      go false = refl

  terms_same : (ts : List ℕ) (rest rest' : List (List ℕ)) → rest ≡ map φ rest' → map term_found ts ++ rest ≡ map φ (map term_found ts ++ rest')
  terms_same [] rest rest' h = h
  terms_same (t ∷ ts) rest rest' h = ap (λ z. z ∷ (map term_found ts ++ rest)) (sym (F.term t)) ∙ ap (λ z. φ (term_found t) ∷ z) (terms_same ts rest rest' h)

  last_same : (e : Ended) (at : ℕ) (o : Open) → sheet_ended_by num e at o ≡ map φ (sheet_ended e at o)
  last_same e at outside = terms_same (cyclic_findings e.heads e.edges) (end_found e ∷ []) (end_found e ∷ []) (ap (λ z. z ∷ []) (sym (F.end e)))
  last_same e at (at_sites g) = ap (λ z. z ∷ []) (sym (F.stop at (Layout at)))
  last_same e at (at_rules g) = ap (λ z. z ∷ []) (sym (F.stop at (Layout at)))
  last_same e at (at_items g r n) = ap (λ z. z ∷ []) (sym (F.stop at (Layout at)))

  map_both : (xs ys : List (List ℕ)) → map φ (xs ++ ys) ≡ map φ xs ++ map φ ys
  map_both [] ys = refl
  map_both (x ∷ xs) ys = ap (λ z. φ x ∷ z) (map_both xs ys)

  pub read_same : (d : Reader) (at : ℕ) (ls : Lines) → read_by num d at ls ≡ map φ (read_on d at ls)
  unfolding read_on read_by
  read_same d at nothing = last_same d.ended at d.stands
  read_same d at (unended l) = ap (λ z. z ∷ []) (sym (F.stop at (Layout at)))
  read_same d at (line l rest) = go (step d at l) (step_by num d at l) (step_same d at l) (λ e. read_same e (suc at) rest)
    where
      go : (o u : Outcome Stepped) → u ≡ renum φ o → ((e : Reader) → read_by num e (suc at) rest ≡ map φ (read_on e (suc at) rest))
          → (elim u [ done s ↦ s.found ++ read_by num s.after (suc at) rest | refused x ↦ stop_by num at x ∷ [] ])
          ≡ map φ (elim o [ done s ↦ s.found ++ read_on s.after (suc at) rest | refused x ↦ stop_found at x ∷ [] ])
      go (done s) u h k = ap (λ v. elim v [ done s ↦ s.found ++ read_by num s.after (suc at) rest | refused x ↦ stop_by num at x ∷ [] ]) h
          ∙ (ap (λ z. map φ s.found ++ z) (k s.after) ∙ sym (map_both s.found (read_on s.after (suc at) rest)))
      go (refused x) u h k = ap (λ v. elim v [ done s ↦ s.found ++ read_by num s.after (suc at) rest | refused x ↦ stop_by num at x ∷ [] ]) h
          ∙ ap (λ z. z ∷ []) (sym (F.stop at x))
