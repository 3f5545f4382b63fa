-- Every set that the reader holds is made, of rules of the sheet, and every finding comes from one: the proofs.
use Rattle.std.specs.Prelude.{◌≡◌, refl, Bool, true, false, ◌↔◌, ◌⊎◌, ℕ, suc, eqb}
use Rattle.std.proofs.Common.{sym, ◌∙◌, inl, inr}
use mathlib.Core.List.Memᴰ
use mathlib.Core.List.{List, [], ◌∷◌, ◌++◌, map, Memᴰ}
use Rattle.paper.specs.declared.Refusal.{Refusal}
use Rattle.paper.specs.declared.Refusal.TheVariants.{Layout}
use Rattle.paper.specs.Numbers.{Outcome, done, refused}
use Rattle.paper.specs.Inputs.{Given, Input, Matches, MatchesKept}
use Rattle.paper.specs.Loading.{Written, Set, Kept, Made, empty_set, with_sites, load}
use Rattle.paper.proofs.Making.{made_sound}
use Rattle.paper.specs.Sites.{Extends}
use Rattle.paper.proofs.Adding.{add_extends}
use Rattle.paper.specs.Rules.{Listed, report}
use Rattle.paper.specs.Terms.{Head, head_of, edges_of, cyclic_findings}
use Rattle.paper.specs.Layout.{Lines, nothing, unended, line}
use Rattle.paper.specs.Sheets.{Open, outside, at_sites, at_rules, at_items, Ended, Reader, Stepped, refusal_found, listed_found, term_found, end_found, stop_found, rule_read, set_ended, step, sheet_ended, read_on}
use Rattle.meaning.specs.Grow.{input_part}
use Rattle.meaning.specs.Demand3.{demand_2, demand_2_old}
use Rattle.meaning.specs.Answers.{last_kept}
use Rattle.sheet_lines.specs.Fed as pieces
use Rattle.sheet_lines.specs.Fed.{Reading, going, stopped, after_line, fed, fed_all}
use Rattle.meaning_shipped.specs.Words.{Reads, IsAtPlace, Completes, Asked, Closed, Came, Stops, first, next}
use Rattle.meaning_shipped.specs.Reports.{map_from}
use Rattle.meaning_shipped.specs.Line.{MadeOpen, made_at, completes_at, Does, stops, begins, adds, waits, keeps, refuses, ends, step_does, Stays, step_stays}

pub reads_made : {sheet : List ℕ} {d : Reader} {at : ℕ} {ls : Lines} → Reads sheet d at ls → MadeOpen d.stands
reads_made first = tt
reads_made (next {d = d} {at = at} {l = l} s R e) = let G : Stays (done s) = rw e at (step_stays d at l (reads_made R)) in G

pub asked_made : {sheet : List ℕ} {g : Set} {r : Written} → Asked sheet g r → Made g
asked_made {g = g} {r = r} a = made_at a.reader.stands g (reads_made a.reads) (completes_at a.reader a.text g r a.completes)

pub closed_made : {sheet : List ℕ} {g : Set} → Closed sheet g → Made g
closed_made {g = g} c = made_at c.reader.stands g (reads_made c.reads) c.stands

-- ---- each kept rule came from a rule of the sheet
abbrev AllCame : List ℕ → Set → Type 0
AllCame sheet g = (k : Kept) → Memᴰ k g.kept → (r : Written) × Came sheet g k r

abbrev CameOpen : List ℕ → Open → Type 0
CameOpen sheet outside = Unit {0}
CameOpen sheet (at_sites g) = AllCame sheet g
CameOpen sheet (at_rules g) = AllCame sheet g
CameOpen sheet (at_items g r left) = AllCame sheet g

came_at : (sheet : List ℕ) (o : Open) (g : Set) → CameOpen sheet o → IsAtPlace o g → AllCame sheet g
came_at sheet outside g C h = absurd h
came_at sheet (at_sites x) g C h = rw h at C
came_at sheet (at_rules x) g C h = rw h at C
came_at sheet (at_items x r n) g C h = rw h at C

further : (sheet : List ℕ) (g h : Set) (k : Kept) (r : Written) → Extends g.sites h.sites → Came sheet g k r → Came sheet h k r
further sheet g h k r x f = record {
  before = f.before;
  after = f.after;
  asked = f.asked;
  keeps = f.keeps;
  place = f.place;
  priority = f.priority;
  grew = λ n s e. x n s (f.grew n s e);
}

rule_came : (sheet : List ℕ) (g h : Set) (r : Written) → Asked sheet g r → AllCame sheet g → load g r ≡ done h → AllCame sheet h
rule_came sheet g h r Q C e k m = go (last_kept g r h e)
  where
    go : (j : Kept) × (h.kept ≡ g.kept ++ (j ∷ [])) × (j.place ≡ r.place) × (j.priority ≡ r.priority) → (r : Written) × Came sheet h k r
    go (j, last, p, q) = pick (Memᴰ.append_cases g.kept (rw last at m))
      where
        pick : Memᴰ k g.kept ⊎ Memᴰ k (j ∷ []) → (r : Written) × Came sheet h k r
        pick (inl z) = let x = C k z in let w = demand_2_old g r h j (made_sound (asked_made Q)) (record { loaded = e; last = last }) in
            (x.0, further sheet g h k x.0 (λ n s f. w.1 n s (w.0 n s f)) x.1)
        pick (inr z) = let y = Memᴰ.eq_of_singleton z in
            (r, rw y (record { before = g; after = h; asked = Q; keeps = record { loaded = e; last = last }; place = p; priority = q; grew = λ n s f. f }))

module _ (sheet : List ℕ) (d : Reader) (at : ℕ) (l : List ℕ) (rest : Lines) (R : Reads sheet d at (line l rest)) where
  asked : (g : Set) (r : Written) → Completes d l g r → step d at l ≡ rule_read d.ended g r → Asked sheet g r
  asked g r c w = record { reader = d; at = at; text = l; rest = rest; reads = R; completes = c; asks = w }

  abbrev Goes : Outcome Stepped → Type 0
  Goes (done s) = CameOpen sheet s.after.stands
  Goes (refused x) = Unit {0}

  step_goes : CameOpen sheet d.stands → Goes (step d at l)
  unfolding empty_set with_sites
  step_goes C = go (step_does d at l (reads_made R))
    where
      go : {o : Outcome Stepped} → Does d at l o → Goes o
      go (stops x) = tt
      go (begins t f) = λ k m. elim m [ ]
      go (adds g s a h e) = λ k m. let x = came_at sheet d.stands g C h k m in
          (x.0, further sheet g (with_sites g a.sites) k x.0 (add_extends g.sites at s a e) x.1)
      go (waits g r n h) = came_at sheet d.stands g C h
      go (keeps g r h c w e) = rule_came sheet g h r (asked g r c w) (came_at sheet d.stands g C (completes_at d l g r c)) e
      go (refuses g r x c w e) = came_at sheet d.stands g C (completes_at d l g r c)
      go (ends g h v w) = unfold set_ended in tt

reads_came : {sheet : List ℕ} {d : Reader} {at : ℕ} {ls : Lines} → Reads sheet d at ls → CameOpen sheet d.stands
reads_came first = tt
reads_came {sheet = sheet} (next {d = d} {at = at} {l = l} {rest = rest} s R e) = let G : Goes sheet d at l rest R (done s) =
    rw e at (step_goes sheet d at l rest R (reads_came R)) in G

pub closed_came : {sheet : List ℕ} {g : Set} → Closed sheet g → (k : Kept) → Memᴰ k g.kept → (r : Written) × Came sheet g k r
closed_came {sheet = sheet} {g = g} c = came_at sheet c.reader.stands g (reads_came c.reads) c.stands

pub came_same : {sheet : List ℕ} {g : Set} {k : Kept} {r : Written} → Came sheet g k r → (at : Given) → Input g.sites at → Matches at r.items ↔
    MatchesKept at k
came_same {g = g} {k = k} {r = r} f at I = demand_2 f.before r f.after k (made_sound (asked_made f.asked)) f.keeps at
    (input_part f.after.sites g.sites at f.grew I)

-- ---- what is kept of the ended sets comes from them
pub record EndedFrom (sheet : List ℕ) (e : Ended) : Type 0 where
  pub head : (h : Head) → Memᴰ h e.heads → (g : Set) × Closed sheet g × (h ≡ head_of g)
  pub edge : (p : ℕ × ℕ) → Memᴰ p e.edges → (g : Set) × Closed sheet g × Memᴰ p (edges_of g)

abbrev EndsFrom : List ℕ → Outcome Stepped → Type 0
EndsFrom sheet (done s) = EndedFrom sheet s.after.ended
EndsFrom sheet (refused x) = Unit {0}

set_from : (sheet : List ℕ) (e : Ended) (g : Set) → Closed sheet g → EndedFrom sheet e → EndsFrom sheet (set_ended e g)
unfolding set_ended
set_from sheet e g c E = record { head = λ h m. heads h (Memᴰ.append_cases e.heads m); edge = λ p m. edges p (Memᴰ.append_cases e.edges m) }
  where
    heads : (h : Head) → Memᴰ h e.heads ⊎ Memᴰ h (head_of g ∷ []) → (x : Set) × Closed sheet x × (h ≡ head_of x)
    heads h (inl m) = E.head h m
    heads h (inr m) = (g, c, Memᴰ.eq_of_singleton m)

    edges : (p : ℕ × ℕ) → Memᴰ p e.edges ⊎ Memᴰ p (edges_of g) → (x : Set) × Closed sheet x × Memᴰ p (edges_of x)
    edges p (inl m) = E.edge p m
    edges p (inr m) = (g, c, m)

step_ends : (sheet : List ℕ) (d : Reader) (at : ℕ) (l : List ℕ) (rest : Lines) → Reads sheet d at (line l rest) → EndedFrom sheet d.ended →
    EndsFrom sheet (step d at l)
step_ends sheet d at l rest R E = go (step_does d at l (reads_made R))
  where
    go : {o : Outcome Stepped} → Does d at l o → EndsFrom sheet o
    go (stops x) = tt
    go (begins t f) = E
    go (adds g s a h e) = E
    go (waits g r n h) = E
    go (keeps g r h c w e) = E
    go (refuses g r x c w e) = E
    go (ends g h v w) = set_from sheet d.ended g (record { reader = d; at = at; text = l; rest = rest; reads = R; stands = h; frame = v; ends = w }) E

pub reads_ended : {sheet : List ℕ} {d : Reader} {at : ℕ} {ls : Lines} → Reads sheet d at ls → EndedFrom sheet d.ended
reads_ended first = record { head = λ h m. elim m [ ]; edge = λ p m. elim m [ ] }
reads_ended {sheet = sheet} (next {d = d} {at = at} {l = l} {rest = rest} s R e) = let G : EndsFrom sheet (done s) =
    rw e at (step_ends sheet d at l rest R (reads_ended R)) in G

-- ---- findings
-- An 11 is of a rule that its set refused; a 12 or 13 stands in the report of a set that was ended; a 14, the 15, the 1F.
pub data Finding (sheet : List ℕ) : List ℕ → Type 0 where
  refusal : (g : Set) (r : Written) (x : Refusal) → Asked sheet g r → load g r ≡ refused x → Finding sheet (refusal_found r.place x)
  listed : (g : Set) (l : Listed) → Closed sheet g → Memᴰ l (report g) → Finding sheet (listed_found l)
  term : (d : Reader) (at t : ℕ) → Reads sheet d at nothing → d.stands ≡ outside → Memᴰ t (cyclic_findings d.ended.heads d.ended.edges) →
      Finding sheet (term_found t)
  counts : (d : Reader) (at : ℕ) → Reads sheet d at nothing → d.stands ≡ outside → Finding sheet (end_found d.ended)
  stop : (d : Reader) (at : ℕ) (ls : Lines) (x : Refusal) → Reads sheet d at ls → Stops d at ls x → Finding sheet (stop_found at x)

abbrev Finds : List ℕ → Outcome Stepped → Type 0
Finds sheet (done s) = (f : List ℕ) → Memᴰ f s.found → Finding sheet f
Finds sheet (refused x) = Unit {0}

step_finds : (sheet : List ℕ) (d : Reader) (at : ℕ) (l : List ℕ) (rest : Lines) → Reads sheet d at (line l rest) → Finds sheet (step d at l)
step_finds sheet d at l rest R = go (step_does d at l (reads_made R))
  where
    go : {o : Outcome Stepped} → Does d at l o → Finds sheet o
    go (stops x) = tt
    go (begins t f) = λ f m. elim m [ ]
    go (adds g s a h e) = λ f m. elim m [ ]
    go (waits g r n h) = λ f m. elim m [ ]
    go (keeps g r h c w e) = λ f m. elim m [ ]
    go (refuses g r x c w e) = λ f m. let z = Memᴰ.eq_of_singleton m in rw z (refusal g r x (asked sheet d at l rest R g r c w) e)
    go (ends g h v w) = unfold set_ended in (λ f m. let r = map_from listed_found (report g) f m in let z = r.2 in rw z
        (listed g r.0 (record { reader = d; at = at; text = l; rest = rest; reads = R; stands = h; frame = v; ends = w }) r.1))

-- a set is open
abbrev pub Inside : Open → Type 0
Inside outside = ⊥
Inside (at_sites g) = Unit {0}
Inside (at_rules g) = Unit {0}
Inside (at_items g r left) = Unit {0}

pub inside : (d : Reader) (o : Open) → d.stands ≡ o → Inside o → d.stands ≡ outside → ⊥
inside d o e i q = let I : Inside outside = rw (sym e ∙ q) at i in I

end_finding : (sheet : List ℕ) (d : Reader) (at : ℕ) → Reads sheet d at nothing → (o : Open) → d.stands ≡ o → (f : List ℕ) →
    Memᴰ f (sheet_ended d.ended at o) → Finding sheet f
end_finding sheet d at R outside e f m = go (Memᴰ.append_cases (map term_found (cyclic_findings d.ended.heads d.ended.edges)) m)
  where
    go : Memᴰ f (map term_found (cyclic_findings d.ended.heads d.ended.edges)) ⊎ Memᴰ f (end_found d.ended ∷ []) → Finding sheet f
    go (inl q) = let r = map_from term_found (cyclic_findings d.ended.heads d.ended.edges) f q in let z = r.2 in rw z (term d at r.0 R e r.1)
    go (inr q) = let z = Memᴰ.eq_of_singleton q in rw z (counts d at R e)
end_finding sheet d at R (at_sites g) e f m = let z = Memᴰ.eq_of_singleton m in rw z (stop d at nothing (Layout at) R (inside d (at_sites g) e tt, refl))
end_finding sheet d at R (at_rules g) e f m = let z = Memᴰ.eq_of_singleton m in rw z (stop d at nothing (Layout at) R (inside d (at_rules g) e tt, refl))
end_finding sheet d at R (at_items g r n) e f m = let z = Memᴰ.eq_of_singleton m in
    rw z (stop d at nothing (Layout at) R (inside d (at_items g r n) e tt, refl))

pub each_finding : (sheet : List ℕ) (d : Reader) (at : ℕ) (ls : Lines) → Reads sheet d at ls → (f : List ℕ) → Memᴰ f (read_on d at ls) → Finding sheet f
unfolding read_on
each_finding sheet d at nothing R f m = end_finding sheet d at R d.stands refl f m
each_finding sheet d at (unended l) R f m = let z = Memᴰ.eq_of_singleton m in rw z (stop d at (unended l) (Layout at) R refl)
each_finding sheet d at (line l rest) R f m = go (step d at l) refl (step_finds sheet d at l rest R) m
    (λ s e q. each_finding sheet s.after (suc at) rest (next s R e) f q)
  where
    go : (o : Outcome Stepped) → step d at l ≡ o → Finds sheet o →
        Memᴰ f (elim o as (λ _. List (List ℕ)) [ done s ↦ s.found ++ read_on s.after (suc at) rest | refused x ↦ stop_found at x ∷ [] ]) →
        ((s : Stepped) → step d at l ≡ done s → Memᴰ f (read_on s.after (suc at) rest) → Finding sheet f) → Finding sheet f
    go (refused x) e G q more = let z = Memᴰ.eq_of_singleton q in rw z (stop d at (line l rest) x R e)
    go (done s) e G q more = pick (Memᴰ.append_cases s.found q)
      where
        pick : Memᴰ f s.found ⊎ Memᴰ f (read_on s.after (suc at) rest) → Finding sheet f
        pick (inl w) = G f w
        pick (inr w) = more s e w

-- ---- fed in pieces, as the shipped reader is
abbrev pub MadeReading : Reading → Type 0
MadeReading (going d at h) = MadeOpen d.stands
MadeReading stopped = Unit {0}

fed_made : (m : Reading) (b : ℕ) → MadeReading m → MadeReading (fed m b).reading
unfolding fed
fed_made stopped b M = tt
fed_made (going d at h) b M = go (eqb b pieces.line_feed)
  where
    after : (o : Outcome Stepped) → Stays o → MadeReading (after_line at o).reading
    after (done s) G = unfold after_line in G
    after (refused x) G = unfold after_line in tt

    go : (t : Bool) → MadeReading (elim t as (λ _. pieces.Fed)
        [ true ↦ after_line at (step d at h) | false ↦ record { reading = going d at (pieces.held_of (h ++ (b ∷ []))); found = [] } ]).reading
    go true = after (step d at h) (step_stays d at h M)
    go false = M

pub fed_all_made : (m : Reading) (s : List ℕ) → MadeReading m → MadeReading (fed_all m s).reading
unfolding fed_all
fed_all_made m [] M = M
fed_all_made m (b ∷ s) M = fed_all_made (fed m b).reading s (fed_made m b M)
