-- The sheet part of Shipped.antt: the proofs.
use Rattle.std.specs.Prelude.{◌≡◌, refl, true, false, ◌&&◌, not, ◌⊎◌, ℕ, suc, ◌<◌}
use Rattle.std.proofs.Common.{sym, ap, ◌∙◌, inl, inr, arith}
use Rattle.std.proofs.Math.Option.{Option, none, some}
use mathlib.Core.List.Memᴰ
use mathlib.Core.List.{List, [], ◌∷◌, ◌++◌, map, Memᴰ}
use Rattle.paper.specs.declared.Refusal.{Refusal}
use Rattle.paper.specs.Numbers.{done, refused}
use Rattle.paper.specs.Inputs.{Given, Input, Matches}
use Rattle.paper.specs.Loading.{Written, Set, Kept, load}
use Rattle.paper.proofs.Lists.{and_both, not_true}
use Rattle.paper.proofs.Making.{made_sound}
use Rattle.paper.specs.Words.{keep, joined, Edges, Walk, one, more, returns}
use Rattle.paper.proofs.Walks.{returns_is}
use Rattle.paper.proofs.Tables.{of_keep}
use Rattle.paper.specs.Sites.{Site, term_of}
use Rattle.paper.specs.Terms.{Head, head_of, is_rec, cyclic, edge_to, edges_of, cyclic_findings}
use Rattle.term_table.proofs.Ascending.{mem_ascending}
use Rattle.paper.specs.Layout.{Lines, nothing, line, lines, hex}
use Rattle.paper.specs.Rules as R
use Rattle.paper.specs.Rules.{Listed, overlap, no_equals, rank, masked_by, masks, is_multi, report}
use Rattle.paper.specs.Sheets.{outside, Ended, Reader, start, Stepped, stepped, at_rules, refusal_found, listed_found, term_found, end_found, stop_found, rule_read, set_ended, step, read_on, findings}
use Rattle.meaning.specs.RuleSites.{FourOrSix, OnlyFourOrSix}
use Rattle.meaning.specs.Demand3.{Unmatched, demand_1}
use Rattle.meaning.specs.Pairs.{masks_covers}
use Rattle.meaning.specs.Overlaps.{else_common}
use Rattle.meaning.specs.Checks.{of_joined}
use Rattle.meaning.specs.Answers as A
use Rattle.meaning_shipped.specs.Words.{Reads, Asked, Closed, ReadWhole, Stops, found_in, RuleOf, Common, Overlaps, Pair, Calls, Chain, first, next, one_call, then_call}
use Rattle.meaning_shipped.specs.Reports.{Edge, Reported, overlapping, masking, reported, masked_so, edge_so, overlap_there, mask_there, map_from, map_to, to_left, to_right}
use Rattle.meaning_shipped.specs.Origin.{made_places}
use Rattle.meaning_shipped.specs.Reader.{reads_ended, asked_made, closed_made, closed_came, came_same, Finding, refusal, listed, term, counts, stop, each_finding}

rule_of : (sheet : List ℕ) (g : Set) → Closed sheet g → (k : Kept) → Memᴰ k g.kept → (p : ℕ) → k.place ≡ p → RuleOf sheet g p
rule_of sheet g c k m p e = let x = closed_came c k m in record { kept = k; there = m; place = e; rule = x.0; came = x.1; same = came_same x.1 }

-- ---- by their first byte
abbrev pub head_byte : List ℕ → ℕ
head_byte [] = 0
head_byte (b ∷ s) = b

abbrev ARefusal : List ℕ → List ℕ → Type 0
ARefusal sheet f = (g : Set) × (r : Written) × (x : Refusal) × Asked sheet g r × (load g r ≡ refused x) × (f ≡ refusal_found r.place x)

abbrev AList : List ℕ → List ℕ → Type 0
AList sheet f = (g : Set) × (l : Listed) × Closed sheet g × Memᴰ l (report g) × (f ≡ listed_found l)

abbrev ATerm : List ℕ → List ℕ → Type 0
ATerm sheet f = (d : Reader) × (at : ℕ) × (t : ℕ) × Reads sheet d at nothing × Memᴰ t (cyclic_findings d.ended.heads d.ended.edges) ×
    (f ≡ term_found t) × (d.stands ≡ outside)

-- a 15 is of a sheet that is read to its end, outside of a set
abbrev ACount : List ℕ → List ℕ → Type 0
ACount sheet f = (d : Reader) × (at : ℕ) × Reads sheet d at nothing × (d.stands ≡ outside) × (f ≡ end_found d.ended)

abbrev AStop : List ℕ → List ℕ → Type 0
AStop sheet f = (d : Reader) × (at : ℕ) × (ls : Lines) × (x : Refusal) × Reads sheet d at ls × Stops d at ls x × (f ≡ stop_found at x)

abbrev Kind : List ℕ → List ℕ → Type 0
Kind sheet f = ARefusal sheet f ⊎ (AList sheet f ⊎ (ATerm sheet f ⊎ ((ACount sheet f × (head_byte f ≡ 21)) ⊎ (AStop sheet f × (head_byte f ≡ 31)))))

kind_of : (sheet f : List ℕ) → Finding sheet f → Kind sheet f
unfolding end_found stop_found
kind_of sheet f (refusal g r x a e) = inl (g, r, x, a, e, refl)
kind_of sheet f (listed g l c m) = inr (inl (g, l, c, m, refl))
kind_of sheet f (term d at t R o m) = inr (inr (inl (d, at, t, R, m, refl, o)))
kind_of sheet f (counts d at R o) = inr (inr (inr (inl ((d, at, R, o, refl), refl))))
kind_of sheet f (stop d at ls x R q) = inr (inr (inr (inr ((d, at, ls, x, R, q, refl), refl))))

pub list_head : (l : Listed) → (head_byte (listed_found l) ≡ 18) ⊎ (head_byte (listed_found l) ≡ 19)
unfolding listed_found
list_head (overlap p ns) = inl refl
list_head (R.mask p ns) = inr refl

pub refusal_head : (p : ℕ) (x : Refusal) → head_byte (refusal_found p x) ≡ 17
unfolding refusal_found
refusal_head p x = refl

pub term_head : (t : ℕ) → head_byte (term_found t) ≡ 20
unfolding term_found
term_head t = refl

module _ (sheet f : List ℕ) (m : Memᴰ f (found_in sheet)) where
  kind : Kind sheet f
  kind = kind_of sheet f (each_finding sheet start 1 (lines sheet) first f m)

  pub is_refusal : (t : List ℕ) → f ≡ 17 ∷ t → ARefusal sheet f
  is_refusal t e = go kind
    where
      h : head_byte f ≡ 17
      h = ap head_byte e

      go : Kind sheet f → ARefusal sheet f
      go (inl k) = k
      go (inr (inl k)) = absurd (no (list_head k.1))
        where
          no : (head_byte (listed_found k.1) ≡ 18) ⊎ (head_byte (listed_found k.1) ≡ 19) → ⊥
          no (inl q) = let w = ap head_byte k.4 in omega (arith, h)
          no (inr q) = let w = ap head_byte k.4 in omega (arith, h)
      go (inr (inr (inl k))) = let w = ap head_byte k.5 ∙ term_head k.2 in absurd (omega (arith, h))
      go (inr (inr (inr (inl q)))) = let w = q.1 in absurd (omega (arith, h))
      go (inr (inr (inr (inr q)))) = let w = q.1 in absurd (omega (arith, h))

  pub is_list : (b : ℕ) (t : List ℕ) → f ≡ b ∷ t → (b ≡ 18) ⊎ (b ≡ 19) → AList sheet f
  is_list b t e u = go kind
    where
      h : head_byte f ≡ b
      h = ap head_byte e

      two : (n : ℕ) → (n ≡ 18 → ⊥) → (n ≡ 19 → ⊥) → n ≡ b → (b ≡ 18) ⊎ (b ≡ 19) → ⊥
      two n x y q (inl z) = x (q ∙ z)
      two n x y q (inr z) = y (q ∙ z)

      go : Kind sheet f → AList sheet f
      go (inl k) = absurd (two 17 (λ q. omega arith) (λ q. omega arith) (sym (refusal_head k.1.place k.2) ∙ (ap head_byte (sym k.5) ∙ h)) u)
      go (inr (inl k)) = k
      go (inr (inr (inl k))) = absurd (two 20 (λ q. omega arith) (λ q. omega arith) (sym (term_head k.2) ∙ (ap head_byte (sym k.5) ∙ h)) u)
      go (inr (inr (inr (inl q)))) = absurd (two 21 (λ q. omega arith) (λ q. omega arith) (sym q.1 ∙ h) u)
      go (inr (inr (inr (inr q)))) = absurd (two 31 (λ q. omega arith) (λ q. omega arith) (sym q.1 ∙ h) u)

  is_term : (t : List ℕ) → f ≡ 20 ∷ t → ATerm sheet f
  is_term t e = go kind
    where
      h : head_byte f ≡ 20
      h = ap head_byte e

      go : Kind sheet f → ATerm sheet f
      go (inl k) = let w = ap head_byte k.5 ∙ refusal_head k.1.place k.2 in absurd (omega (arith, h))
      go (inr (inl k)) = absurd (no (list_head k.1))
        where
          no : (head_byte (listed_found k.1) ≡ 18) ⊎ (head_byte (listed_found k.1) ≡ 19) → ⊥
          no (inl q) = let w = ap head_byte k.4 in omega (arith, h)
          no (inr q) = let w = ap head_byte k.4 in omega (arith, h)
      go (inr (inr (inl k))) = k
      go (inr (inr (inr (inl q)))) = let w = q.1 in absurd (omega (arith, h))
      go (inr (inr (inr (inr q)))) = let w = q.1 in absurd (omega (arith, h))

  pub is_count : (t : List ℕ) → f ≡ 21 ∷ t → ACount sheet f
  is_count t e = go kind
    where
      h : head_byte f ≡ 21
      h = ap head_byte e

      go : Kind sheet f → ACount sheet f
      go (inl k) = let w = ap head_byte k.5 ∙ refusal_head k.1.place k.2 in absurd (omega (arith, h))
      go (inr (inl k)) = absurd (no (list_head k.1))
        where
          no : (head_byte (listed_found k.1) ≡ 18) ⊎ (head_byte (listed_found k.1) ≡ 19) → ⊥
          no (inl q) = let w = ap head_byte k.4 in omega (arith, h)
          no (inr q) = let w = ap head_byte k.4 in omega (arith, h)
      go (inr (inr (inl k))) = let w = ap head_byte k.5 ∙ term_head k.2 in absurd (omega (arith, h))
      go (inr (inr (inr (inl q)))) = q.0
      go (inr (inr (inr (inr q)))) = let w = q.1 in absurd (omega (arith, h))

  pub is_stop : (t : List ℕ) → f ≡ 31 ∷ t → AStop sheet f
  is_stop t e = go kind
    where
      h : head_byte f ≡ 31
      h = ap head_byte e

      go : Kind sheet f → AStop sheet f
      go (inl k) = let w = ap head_byte k.5 ∙ refusal_head k.1.place k.2 in absurd (omega (arith, h))
      go (inr (inl k)) = absurd (no (list_head k.1))
        where
          no : (head_byte (listed_found k.1) ≡ 18) ⊎ (head_byte (listed_found k.1) ≡ 19) → ⊥
          no (inl q) = let w = ap head_byte k.4 in omega (arith, h)
          no (inr q) = let w = ap head_byte k.4 in omega (arith, h)
      go (inr (inr (inl k))) = let w = ap head_byte k.5 ∙ term_head k.2 in absurd (omega (arith, h))
      go (inr (inr (inr (inl q)))) = let w = q.1 in absurd (omega (arith, h))
      go (inr (inr (inr (inr q)))) = q.0

-- ---- 14
edge_calls : (sheet : List ℕ) (g : Set) → Closed sheet g → (a b : ℕ) → Memᴰ (a, b) (edges_of g) → Calls sheet a b
unfolding edges_of
edge_calls sheet g c a b m =
    let r = of_joined _ (a, b) m in
    let s = map_from (λ (s : Site). edge_to g.term (term_of s)) g.sites r.0 r.1 in
    let z = s.2 in
    go s.0 s.1 (term_of s.0) refl (rw z at r.2)
  where
    go : (s : Site) → Memᴰ s g.sites → (o : Option ℕ) → term_of s ≡ o → Memᴰ (a, b) (edge_to g.term o) → Calls sheet a b
    go s n none e q = absurd (Memᴰ.not-nil q)
    go s n (some t) e q = let z = Memᴰ.eq_of_singleton q in (g, c, sym (ap (λ (p : ℕ × ℕ). p.0) z), s, n, e ∙ ap some (sym (ap (λ (p : ℕ × ℕ). p.1) z)))

walk_chain : (sheet : List ℕ) (edges : Edges) → ((a b : ℕ) → Memᴰ (a, b) edges → Calls sheet a b) → {a b : ℕ} → Walk edges a b → Chain sheet a b
walk_chain sheet edges f (one m) = one_call (f _ _ m)
walk_chain sheet edges f (more m w) = then_call (f _ _ m) (walk_chain sheet edges f w)

pub each_term : (sheet f t : List ℕ) → Memᴰ f (found_in sheet) → f ≡ 20 ∷ t →
    ReadWhole sheet × (g : Set) × Closed sheet g × (f ≡ term_found g.term) × (is_rec (head_of g) ≡ false) × Chain sheet g.term g.term
unfolding cyclic_findings cyclic head_of
each_term sheet f t m e =
    let k = is_term sheet f m t e in
    let E = reads_ended k.3 in
    let x = map_from (λ (h : Head). h.term) (keep (λ h. not (is_rec h) && cyclic k.0.ended.edges h.term) k.0.ended.heads) k.2
    ((mem_ascending k.2 _).0 k.4) in
    let y = of_keep (λ (h : Head). not (is_rec h) && cyclic k.0.ended.edges h.term) k.0.ended.heads x.0 x.1 in
    let b = and_both (not (is_rec x.0)) (returns k.0.ended.edges x.0.term) y.1 in
    let g = E.head x.0 y.0 in
    let hq : x.0 ≡ head_of g.0 = g.2 in
    let tq : x.0.term ≡ g.0.term = ap (λ (h : Head). h.term) hq in
    let w = (returns_is k.0.ended.edges x.0.term).0 b.1 in
    let c = walk_chain sheet k.0.ended.edges (λ a b n. let q = E.edge (a, b) n in edge_calls sheet q.0 q.1 a b q.2) w in (
      (k.0, k.1, k.3, k.6),
      g.0,
      g.1,
      k.5 ∙ ap term_found (x.2 ∙ tq),
      not_true (is_rec (head_of g.0)) (ap (λ h. not (is_rec h)) (sym hq) ∙ b.0),
      rw tq at c,
    )

-- ---- 12 and 13
pub record Overlapped (sheet f : List ℕ) : Type 0 where
  pub set : Set
  pub closed : Closed sheet set
  pub first : ℕ
  pub others : List ℕ
  pub is : f ≡ listed_found (overlap first others)
  pub one : RuleOf sheet set first
  pub each : (q : ℕ) → Memᴰ q others → (b : RuleOf sheet set q) × Overlaps one.kept b.kept ×
      (no_equals one.kept.equals ≡ true → no_equals b.kept.equals ≡ true → Common one b)

pub record Masked (sheet f : List ℕ) : Type 0 where
  pub set : Set
  pub closed : Closed sheet set
  pub mask : ℕ
  pub masked : List ℕ
  pub is : f ≡ listed_found (R.mask mask masked)
  pub one : RuleOf sheet set mask
  pub each : (q : ℕ) → Memᴰ q masked → (b : RuleOf sheet set q) × (rank b.kept.priority < rank one.kept.priority) ×
      ((at : Given) → Input set.sites at → Matches at b.rule.items → Matches at one.rule.items)

overlapped : (sheet f : List ℕ) (g : Set) (c : Closed sheet g) (a : Kept) (ns : List ℕ) (m : Memᴰ a g.kept) →
    ((q : ℕ) → Memᴰ q ns → (b : Kept) × Memᴰ b g.kept × (b.place ≡ q) × Edge a b) → f ≡ listed_found (overlap a.place ns) → Overlapped sheet f
unfolding rule_of
overlapped sheet f g c a ns m each e = record {
  set = g;
  closed = c;
  first = a.place;
  others = ns;
  is = e;
  one = one;
  each = λ q j. let b = each q j in pair q b.0 b.1 b.2 b.3;
}
  where
    one : RuleOf sheet g a.place
    one = rule_of sheet g c a m a.place refl

    pair : (q : ℕ) (b : Kept) → Memᴰ b g.kept → b.place ≡ q → Edge a b → (b : RuleOf sheet g q) × Overlaps a b.kept ×
        (no_equals a.equals ≡ true → no_equals b.kept.equals ≡ true → Common one b)
    pair q b n p E =
        let two = rule_of sheet g c b n q p in
        let w = edge_so g (closed_made c) a b m n E in (
          two,
          w,
          λ x y. let z = else_common g (closed_made c) a b m n x y w.1 in
              (z.0, z.1, (one.same z.0 z.1).1 z.2, (two.same z.0 z.1).1 z.3),
        )

masked_all : (sheet f : List ℕ) (g : Set) (c : Closed sheet g) (a : Kept) (m : Memᴰ a g.kept) →
    f ≡ listed_found (R.mask a.place (masked_by g.kept a)) → Masked sheet f
unfolding rule_of
masked_all sheet f g c a m e = record {
  set = g;
  closed = c;
  mask = a.place;
  masked = masked_by g.kept a;
  is = e;
  one = one;
  each = λ q j. let b = masked_so g.kept a q j in pair q b.0 b.1 b.2 b.3;
}
  where
    one : RuleOf sheet g a.place
    one = rule_of sheet g c a m a.place refl

    pair : (q : ℕ) (b : Kept) → Memᴰ b g.kept → b.place ≡ q → masks a b ≡ true → (b : RuleOf sheet g q) ×
        (rank b.kept.priority < rank a.priority) × ((at : Given) → Input g.sites at → Matches at b.rule.items → Matches at one.rule.items)
    pair q b n p E =
        let two = rule_of sheet g c b n q p in
        let w = masks_covers a b E in
        (two, w.0, λ at I M. (one.same at I).1 (w.1 at ((two.same at I).0 M)))

list_kind : (sheet f : List ℕ) (g : Set) (c : Closed sheet g) (l : Listed) → Reported g.kept l → f ≡ listed_found l →
    (Overlapped sheet f × (head_byte f ≡ 18)) ⊎ (Masked sheet f × (head_byte f ≡ 19))
unfolding listed_found
list_kind sheet f g c l (overlapping a ns m each) e = inl (overlapped sheet f g c a ns m each e, ap head_byte e)
list_kind sheet f g c l (masking a m) e = inr (masked_all sheet f g c a m e, ap head_byte e)

pub is_overlap : (sheet f t : List ℕ) → Memᴰ f (found_in sheet) → f ≡ 18 ∷ t → Overlapped sheet f
is_overlap sheet f t m e = let k = is_list sheet f m 18 t e (inl refl) in
    go (list_kind sheet f k.0 k.2 k.1 (reported k.0 k.1 k.3) k.4) (ap head_byte e)
  where
    go : (Overlapped sheet f × (head_byte f ≡ 18)) ⊎ (Masked sheet f × (head_byte f ≡ 19)) → head_byte f ≡ 18 → Overlapped sheet f
    go (inl q) h = q.0
    go (inr q) h = let w = q.1 in absurd (omega arith)

pub is_mask : (sheet f t : List ℕ) → Memᴰ f (found_in sheet) → f ≡ 19 ∷ t → Masked sheet f
is_mask sheet f t m e = let k = is_list sheet f m 19 t e (inr refl) in
    go (list_kind sheet f k.0 k.2 k.1 (reported k.0 k.1 k.3) k.4) (ap head_byte e)
  where
    go : (Overlapped sheet f × (head_byte f ≡ 18)) ⊎ (Masked sheet f × (head_byte f ≡ 19)) → head_byte f ≡ 19 → Masked sheet f
    go (inl q) h = let w = q.1 in absurd (omega arith)
    go (inr q) h = q.0

-- ---- what a line finds stands in the findings
line_found : (d : Reader) (at : ℕ) (l : List ℕ) (rest : Lines) (s : Stepped) → step d at l ≡ done s →
    read_on d at (line l rest) ≡ s.found ++ read_on s.after (suc at) rest
unfolding read_on
line_found d at l rest s e = rw (e, read_on)

pub stays_found : {sheet : List ℕ} {d : Reader} {at : ℕ} {ls : Lines} → Reads sheet d at ls → (f : List ℕ) → Memᴰ f (read_on d at ls) →
    Memᴰ f (found_in sheet)
stays_found first f m = m
stays_found (next {d = d} {at = at} {l = l} {rest = rest} s R e) f m =
    stays_found R f (rw (line_found d at l rest s e) (to_right s.found (read_on s.after (suc at) rest) f m))

found_there : {sheet : List ℕ} {d : Reader} {at : ℕ} {l : List ℕ} {rest : Lines} (s : Stepped) → Reads sheet d at (line l rest) → step d at l ≡ done s →
    (f : List ℕ) → Memᴰ f s.found → Memᴰ f (found_in sheet)
found_there {d = d} {at = at} {l = l} {rest = rest} s R e f m =
    stays_found R f (rw (line_found d at l rest s e) (to_left s.found (read_on s.after (suc at) rest) f m))

pub refusal_there : (sheet : List ℕ) (g : Set) (r : Written) (x : Refusal) → Asked sheet g r → load g r ≡ refused x →
    Memᴰ (refusal_found r.place x) (found_in sheet)
refusal_there sheet g r x a e = found_there (stepped a.reader.ended (at_rules g) (refusal_found r.place x ∷ [])) a.reads (a.asks ∙ read)
    (refusal_found r.place x) (Memᴰ.head refl)
  where
    read : rule_read a.reader.ended g r ≡ done (stepped a.reader.ended (at_rules g) (refusal_found r.place x ∷ []))
    read = unfold rule_read in rw (e, rule_read)

ended_is : (e : Ended) (g : Set) → (s : Stepped) × (set_ended e g ≡ done s) × (s.found ≡ map listed_found (report g))
unfolding set_ended
ended_is e g = (_, refl, refl)

pub list_there : (sheet : List ℕ) (g : Set) (l : Listed) → Closed sheet g → Memᴰ l (report g) → Memᴰ (listed_found l) (found_in sheet)
list_there sheet g l c m =
    let s = ended_is c.reader.ended g in
    let z = s.2 in
    found_there s.0 c.reads (c.ends ∙ s.1) (listed_found l) (rw z (map_to listed_found (report g) l m))

-- ---- 11
pub each_refusal : (sheet f t : List ℕ) → Memᴰ f (found_in sheet) → f ≡ 17 ∷ t → (g : Set) × (r : Written) × (x : Refusal) × Asked sheet g r ×
    (load g r ≡ refused x) × (f ≡ refusal_found r.place x) × (FourOrSix x → Unmatched g r)
each_refusal sheet f t m e = let k = is_refusal sheet f m t e in
    (k.0, k.1, k.2, k.3, k.4, k.5, λ u. A.refused_unmatched k.0 k.1 (made_sound (asked_made k.3)) k.2 k.4 u)

pub unmatched_11 : (sheet : List ℕ) (g : Set) (r : Written) → Asked sheet g r → OnlyFourOrSix (load g r) → Unmatched g r → (x : Refusal) × FourOrSix x ×
    Memᴰ (refusal_found r.place x) (found_in sheet)
unmatched_11 sheet g r a others u = let y = (demand_1 g r (made_sound (asked_made a)) others).1 u in (y.0, y.2, refusal_there sheet g r y.0 a y.1)

-- ---- nothing is left out
pub named_12 : (sheet : List ℕ) (g : Set) → Closed sheet g → is_multi g.flags ≡ false → (a b : Kept) → Memᴰ a g.kept → Memᴰ b g.kept →
    (a ≡ b → ⊥) → Overlaps a b →
    (p : ℕ) × (ns : List ℕ) × Memᴰ (listed_found (overlap p ns)) (found_in sheet) × Pair a.place b.place p ns
named_12 sheet g c single a b m n d x =
    let y = overlap_there g (closed_made c) single a b m n (λ q. d (made_places (closed_made c) a b m n q)) x in
    (y.0, y.1, list_there sheet g (overlap y.0 y.1) c y.2, y.3)

pub named_13 : (sheet : List ℕ) (g : Set) → Closed sheet g → is_multi g.flags ≡ false → (a b : Kept) → Memᴰ a g.kept → Memᴰ b g.kept →
    masks a b ≡ true →
    (ns : List ℕ) × Memᴰ (listed_found (R.mask a.place ns)) (found_in sheet) × Memᴰ b.place ns
named_13 sheet g c single a b m n e =
    let y = mask_there g (closed_made c) single a b m n e in
    (masked_by g.kept a, list_there sheet g (R.mask a.place (masked_by g.kept a)) c y.0, y.1)

pub findings_are : (sheet : List ℕ) → findings sheet ≡ joined (map hex (found_in sheet))
unfolding findings
findings_are sheet = refl
