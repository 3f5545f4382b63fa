-- What the code holds of the sets that were ended is what the paper holds. It is so before the first, and each set keeps it so.
use mathlib.Core.Path.{◌≡◌, refl, sym, ap, ◌∙◌}
use mathlib.Core.Bool.{Bool, true, false, ◌&&◌, not}
use mathlib.Core.Option.{some}
use mathlib.Core.List.Memᴰ
use mathlib.Core.List.{List, [], ◌∷◌, ◌++◌, map, append_assoc, append-nil, Memᴰ}
use mathlib.Core.Logic.{inr, ⊎_elim}
use Prim.Native.Nat.{ℕ, suc, ◌*◌, ◌<◌}
use native.Mathlib.Omega.{arith}
use native.Mathlib.Decide.{dec_lt}
use lib.ListN.{length, get_elem?, length-append, length-replicate}
use lib.Dec.{eqb, ltb, leb}
use borrow.Author.Tests.{lt-ltb, le-ltb, le-leb, eqb-true, eq-eqb}
use Rattle.paper.specs.declared.Refusal.TheVariants.{Repeated, TooManySets, TermTooHigh}
use Rattle.paper.specs.Words.{any, keep, joined}
use Rattle.paper.specs.Numbers.{max_sets, max_rules, max_term, Outcome, done, refused, ◌>>=◌, demand}
use Rattle.paper.specs.Sites.{Site, Sites}
use Rattle.paper.specs.Loading.{Set, empty_set}
use Rattle.paper.specs.Terms.{Head, head_of, is_rec, edges_of, cyclic_findings}
use Rattle.paper.specs.Layout.{hex}
use Rattle.paper.specs.Sheets as paper
use Rattle.paper.specs.Sheets.{Stepped, stepped, start, at_sites, term_found, end_found, set_begun}
use Rattle.paper.proofs.Lists.{no_way, map_last, or_cases, or_left, or_right}
use Rattle.term_table.specs.Table.{Square, terms, words, in_row, has_term, no_marks, no_edges, with_term, with_terms, with_edges, left, unflagged}
use Rattle.term_table.specs.Heads.{Between, Sheeted, rec_marks}
use Rattle.term_table.proofs.Lists.{keep_in, keep_out, keep_nil, keep_append, in_map, Mapped, mapped, of_map}
use Rattle.term_table.proofs.Closing.{same_test}
use Rattle.term_table.proofs.Marks.{none_row}
use Rattle.term_table.proofs.Adding.{edges_append, terms_marked}
use Rattle.term_table.proofs.Sets.{From, site, edges_of_is}
use Rattle.term_table.proofs.Sheet.{sheet_findings}
use Rattle.sheet_findings.specs.Written.{ended_found, end_found_is}
use Rattle.sheet_ended.specs.declared.EndedSets.{EndedSets}
use Rattle.sheet_ended.specs.Holds.{term_in, Holds, Endable, with_ended}
use Rattle.sheet_ended.specs.Sets.{no_sets, may_begin, edges_from, marked_by, recs_with, fits_set, one_more, with_set, terms_text, found_text}

-- ---- none
pub holds_none : Holds no_sets no_edges start.ended
unfolding no_sets with_terms with_edges keep Between
holds_none = record {
  sets = refl;
  few = omega arith;
  kept = refl;
  few_kept = omega arith;
  used = refl;
  recs = refl;
  table = refl;
  sheeted = record {
    fits = λ h m. absurd (Memᴰ.not-nil m);
    once = λ h k m n e. absurd (Memᴰ.not-nil m);
    between = λ a b m. absurd (Memᴰ.not-nil m);
    starts = λ a b m. absurd (Memᴰ.not-nil m);
  };
}

-- ---- a term that was used

any_in : (t : ℕ) (hs : List Head) → any (λ h. eqb h.term t) hs ≡ true → Memᴰ t (map term_in hs)
unfolding any
any_in t [] e = no_way (sym e)
any_in t (h ∷ hs) e = ⊎_elim (λ x. Memᴰ.head (sym (eqb-true h.term t x))) (λ x. Memᴰ.tail (any_in t hs x)) (or_cases (eqb h.term t) (any (λ h. eqb h.term t) hs) e)

in_any : (t : ℕ) (hs : List Head) → Memᴰ t (map term_in hs) → any (λ h. eqb h.term t) hs ≡ true
unfolding any
in_any t [] m = absurd (Memᴰ.not-nil m)
in_any t (h ∷ hs) m = ⊎_elim (λ x. or_left (eqb h.term t) _ (eq-eqb h.term t (sym x))) (λ x. or_right (eqb h.term t) _ (in_any t hs x)) (Memᴰ.cases_cons m)

no_words : length no_marks ≡ words
unfolding no_marks
no_words = length-replicate {A = ℕ} words 0

pub used_is : (e : EndedSets) (t : Square) (p : paper.Ended) → Holds e t p → (x : ℕ) → has_term e.used x ≡ any (λ h. eqb h.term x) p.heads
unfolding has_term
used_is e t p H x = go (dec_lt x terms)
  where
    hs : List Head
    hs = p.heads

    row : List ℕ
    row = with_terms no_marks (map term_in hs)

    inside : x < terms → in_row row x ≡ any (λ h. eqb h.term x) hs
    inside l =
        same_test (in_row row x) (any (λ h. eqb h.term x) hs)
        (λ r. ⊎_elim (λ z. no_way (sym z ∙ none_row x l)) (λ z. in_any x hs z) ((terms_marked (map term_in hs) no_marks x no_words l).0 r))
        (λ r. (terms_marked (map term_in hs) no_marks x no_words l).1 (inr (any_in x hs r)))

    past : Mapped term_in hs x → x < terms
    past (mapped h m q) = let f = H.sheeted.fits h m in omega arith

    outside : (x < terms → ⊥) → false ≡ any (λ h. eqb h.term x) hs
    outside n = same_test false (any (λ h. eqb h.term x) hs) (λ z. no_way (sym z)) (λ r. absurd (n (past (of_map term_in hs x (any_in x hs r)))))

    go : Dec (x < terms) → (ltb x terms && in_row e.used x) ≡ any (λ h. eqb h.term x) hs
    go (yes l) = rw (lt-ltb x terms l, H.used) (inside l)
    go (no n) = rw (le-ltb x terms (omega arith)) (outside n)

-- "01 term, flags": as the paper has it
pub begun_is : (e : EndedSets) (t : Square) (p : paper.Ended) → Holds e t p → (at x f : ℕ) → set_begun p at x f ≡ (may_begin e x at >>= λ _. done (stepped p (at_sites (empty_set x f)) []))
unfolding set_begun may_begin
begun_is e t p H at x f = rw (used_is e t p H x, H.sets) (go (demand (not (any (λ h. eqb h.term x) p.heads)) (Repeated at)) (demand (ltb (length p.heads) max_sets) (TooManySets (suc (length p.heads)))))
  where
    go : (a b : Outcome (Unit {0})) → (a >>= λ _. b >>= λ _. demand (leb x max_term) (TermTooHigh x) >>= λ _. done (stepped p (at_sites (empty_set x f)) [])) ≡ ((a >>= λ _. b >>= λ _. demand (leb x max_term) (TermTooHigh x)) >>= λ _. done (stepped p (at_sites (empty_set x f)) []))
    go (done u) (done v) = refl
    go (done u) (refused r) = refl
    go (refused r) b = refl

-- ---- one set more
mem_left : {A : Type 0} {a : A} (s t : List A) → Memᴰ a s → Memᴰ a (s ++ t)
mem_left [] t m = absurd (Memᴰ.not-nil m)
mem_left (x ∷ s) t m = ⊎_elim (λ e. Memᴰ.head e) (λ n. Memᴰ.tail (mem_left s t n)) (Memᴰ.cases_cons m)

mem_right : {A : Type 0} {a : A} (s t : List A) → Memᴰ a t → Memᴰ a (s ++ t)
mem_right [] t m = m
mem_right (x ∷ s) t m = Memᴰ.tail (mem_right s t m)

terms_snoc : (r ts : List ℕ) (x : ℕ) → with_terms r (ts ++ (x ∷ [])) ≡ marked_by (with_terms r ts) x
unfolding with_terms
terms_snoc r [] x = refl
terms_snoc r (y ∷ ts) x = terms_snoc (left r (with_term r y)) ts x

recs_yes : (r : List ℕ) (g : Set) → is_rec (head_of g) ≡ true → recs_with r g.term g.flags ≡ marked_by r g.term
unfolding recs_with is_rec head_of
recs_yes r g q = rw q

recs_no : (r : List ℕ) (g : Set) → is_rec (head_of g) ≡ false → recs_with r g.term g.flags ≡ r
unfolding recs_with is_rec head_of
recs_no r g q = rw q

head_term : (g : Set) → (head_of g).term ≡ g.term
unfolding head_of
head_term g = refl

edges_are : (g : Set) → edges_of g ≡ edges_from g.term g.sites
unfolding edges_of edges_from
edges_are g = refl

at_of : (t : Sites) (s : Site) → Memᴰ s t → (n : ℕ) × (get_elem? t n ≡ some s)
at_of [] s m = absurd (Memᴰ.not-nil m)
at_of (x ∷ t) s m = ⊎_elim (λ e. (0, ap some (sym e))) (λ n. let r = at_of t s n in (suc r.0, r.1)) (Memᴰ.cases_cons m)

module _ (e : EndedSets) (t : Square) (p : paper.Ended) (g : Set) (H : Holds e t p) (G : Endable p g) where
  abbrev hs : List Head
  hs = p.heads

  abbrev h : Head
  h = head_of g

  not_here : (k : Head) → Memᴰ k hs → h.term ≡ k.term → ⊥
  not_here k m q = no_way (sym (in_any g.term hs (rw (sym (head_term g) ∙ q) (in_map term_in k hs m))) ∙ G.fresh)

  fits_one : fits_set e (length g.kept) ≡ true
  unfolding fits_set
  fits_one =
      let a = H.sets in
      let b = H.kept in
      let c = H.few_kept in
      let d = G.room in
      let r = G.rules in
      rw (lt-ltb e.sets max_sets (omega arith), le-leb (length g.kept) max_rules (omega arith), le-leb e.kept (max_sets * max_rules) (omega arith))

  with_is : with_set e g.term g.flags (length g.kept) ≡ one_more e g.term g.flags (length g.kept)
  unfolding with_set
  with_is = rw fits_one

  front : (x : List Head) → keep is_rec (h ∷ []) ≡ x → rec_marks term_in is_rec (hs ++ (h ∷ [])) ≡ with_terms no_marks (map term_in (keep is_rec hs ++ x))
  front x q = ap (λ k. with_terms no_marks (map term_in k)) (keep_append is_rec hs (h ∷ []) ∙ ap (λ k. keep is_rec hs ++ k) q)

  recs_is : recs_with e.recs g.term g.flags ≡ rec_marks term_in is_rec (hs ++ (h ∷ []))
  recs_is = go (is_rec h) refl
    where
      go : (b : Bool) → is_rec h ≡ b → recs_with e.recs g.term g.flags ≡ rec_marks term_in is_rec (hs ++ (h ∷ []))
      go true q =
          let k : keep is_rec (h ∷ []) ≡ h ∷ [] = keep_in is_rec h [] q ∙ ap (λ r. h ∷ r) (keep_nil is_rec) in
          let x : with_terms no_marks (map term_in (keep is_rec hs ++ (h ∷ []))) ≡ marked_by (rec_marks term_in is_rec hs) g.term = ap (with_terms no_marks) (map_last term_in (keep is_rec hs) h) ∙ (terms_snoc no_marks (map term_in (keep is_rec hs)) h.term ∙ ap (marked_by (rec_marks term_in is_rec hs)) (head_term g)) in
          recs_yes e.recs g q ∙ (ap (λ r. marked_by r g.term) H.recs ∙ sym (front (h ∷ []) k ∙ x))
      go false q =
          let k : keep is_rec (h ∷ []) ≡ [] = keep_out is_rec h [] q ∙ keep_nil is_rec in
          recs_no e.recs g q ∙ (H.recs ∙ sym (front [] k ∙ ap (λ l. with_terms no_marks (map term_in l)) (append-nil (keep is_rec hs))))

  used_more : marked_by e.used g.term ≡ with_terms no_marks (map term_in (hs ++ (h ∷ [])))
  used_more = ap (λ r. marked_by r g.term) H.used ∙ sym (ap (with_terms no_marks) (map_last term_in hs h) ∙ (terms_snoc no_marks (map term_in hs) h.term ∙ ap (marked_by (with_terms no_marks (map term_in hs))) (head_term g)))

  table_more : with_edges t (edges_from g.term g.sites) ≡ with_edges no_edges (p.edges ++ edges_of g)
  table_more = rw (H.table, ← edges_are g) (sym (edges_append p.edges (edges_of g) no_edges))

  fits_more : (k : Head) → Memᴰ k (hs ++ (h ∷ [])) → k.term < terms
  fits_more k m = ⊎_elim (λ x. H.sheeted.fits k x) (λ x. let q = Memᴰ.eq_of_singleton x in let z : k.term ≡ g.term = ap term_in q ∙ head_term g in let l = G.term in omega arith) (Memᴰ.append_cases hs m)

  once_more : (a b : Head) → Memᴰ a (hs ++ (h ∷ [])) → Memᴰ b (hs ++ (h ∷ [])) → a.term ≡ b.term → is_rec a ≡ is_rec b
  once_more a b m n q =
      ⊎_elim
      (λ x. ⊎_elim (λ y. H.sheeted.once a b x y q) (λ y. let z = Memᴰ.eq_of_singleton y in absurd (not_here a x (sym (q ∙ ap term_in z)))) (Memᴰ.append_cases hs n))
      (λ x. let w = Memᴰ.eq_of_singleton x in ⊎_elim (λ y. absurd (not_here b y (sym (ap term_in w) ∙ q))) (λ y. let z = Memᴰ.eq_of_singleton y in ap is_rec (w ∙ sym z)) (Memᴰ.append_cases hs n))
      (Memᴰ.append_cases hs m)

  from_fits : (a b : ℕ) → From g a b → (a < terms) × (b < terms)
  from_fits a b (site s m q r) =
      let i = at_of g.sites s m in
      let k = G.sites.term i.0 s i.1 b r in
      let l = G.term in
      (omega arith, omega arith)

  from_starts : (a b : ℕ) → From g a b → Memᴰ a (map term_in (hs ++ (h ∷ [])))
  from_starts a b (site s m q r) = rw (q ∙ sym (head_term g)) (in_map term_in h (hs ++ (h ∷ [])) (mem_right hs (h ∷ []) (Memᴰ.head refl)))

  old_starts : (a : ℕ) → Memᴰ a (map term_in hs) → Memᴰ a (map term_in (hs ++ (h ∷ [])))
  old_starts a m = rw (map_last term_in hs h) (mem_left (map term_in hs) (h.term ∷ []) m)

  sheeted_more : Sheeted term_in is_rec (hs ++ (h ∷ [])) (p.edges ++ edges_of g)
  unfolding Between
  sheeted_more = record {
    fits = fits_more;
    once = once_more;
    between = λ a b m. ⊎_elim (λ x. H.sheeted.between a b x) (λ x. from_fits a b ((edges_of_is g a b).0 x)) (Memᴰ.append_cases p.edges m);
    starts = λ a b m. ⊎_elim (λ x. old_starts a (H.sheeted.starts a b x)) (λ x. from_starts a b ((edges_of_is g a b).0 x)) (Memᴰ.append_cases p.edges m);
  }

  one_holds : Holds (one_more e g.term g.flags (length g.kept)) (with_edges t (edges_from g.term g.sites)) (with_ended p g)
  one_holds =
      let l = length-append hs (h ∷ []) in
      let a = H.sets in
      let b = H.kept in
      let c = H.few_kept in
      let d = G.room in
      let f = G.rules in
      record {
        sets = omega arith;
        few = omega arith;
        kept = omega arith;
        few_kept = omega arith;
        used = used_more;
        recs = recs_is;
        table = table_more;
        sheeted = sheeted_more;
      }

  pub holds_more : Holds (with_set e g.term g.flags (length g.kept)) (with_edges t (edges_from g.term g.sites)) (with_ended p g)
  holds_more = rw with_is one_holds

-- ---- "at the end the 14s ascending, then 15"
terms_lines : (ts : List ℕ) (x : List ℕ) → joined (map hex (map term_found ts ++ (x ∷ []))) ≡ terms_text ts ++ hex x
unfolding terms_text joined
terms_lines [] x = append-nil (hex x)
terms_lines (t ∷ ts) x = ap (λ r. hex (term_found t) ++ r) (terms_lines ts x) ∙ sym (append_assoc (hex (term_found t)) _ (hex x))

pub found_is : (e : EndedSets) (t : Square) (p : paper.Ended) → Holds e t p → found_text t e ≡ joined (map hex (map term_found (cyclic_findings p.heads p.edges) ++ (end_found p ∷ [])))
unfolding found_text
found_is e t p H =
    let c : unflagged t e.recs ≡ cyclic_findings p.heads p.edges = rw (H.table, H.recs) (sheet_findings p.heads p.edges H.sheeted) in
    let f : ended_found e.sets e.kept ≡ end_found p = rw (H.sets, H.kept) (sym (end_found_is p)) in
    rw (c, f) (sym (terms_lines (cyclic_findings p.heads p.edges) (end_found p)))
