-- A sheet that is read to its end has its 14s: the proofs. (Reading is a function, so the sets that lines end are those that the end knows.)
use Rattle.std.specs.Prelude.{◌≡◌, refl, false, ◌&&◌, ℕ, suc}
use Rattle.std.proofs.Common.{sym, ◌∙◌}
use Rattle.std.proofs.Math.Bool.{not}
use Rattle.std.proofs.Math.Option.{Option, none, some}
use mathlib.Core.List.{List, [], ◌∷◌, map, Memᴰ}
use Rattle.paper.specs.Words.{keep, Walk, one, more, returns}
use Rattle.paper.proofs.Walks.{returns_is}
use Rattle.paper.proofs.Tables.{in_keep}
use Rattle.paper.proofs.Labels.{never}
use Rattle.paper.specs.Numbers.{Outcome, done, refused}
use Rattle.paper.specs.Sites.{Site, term_of}
use Rattle.paper.specs.Loading.{Set}
use Rattle.paper.specs.Terms.{Head, head_of, is_rec, cyclic, edge_to, edges_of, cyclic_findings}
use Rattle.paper.specs.Layout.{Lines, nothing, unended, line, lines}
use Rattle.paper.specs.Sheets.{outside, Ended, Reader, start, Stepped, term_found, end_found, set_ended, step, read_on}
use Rattle.term_table.proofs.Ascending.{mem_ascending}
use Rattle.meaning.specs.Checks.{in_joined}
use Rattle.meaning_shipped.specs.Words.{Reads, Closed, ReadWhole, found_in, Calls, Chain, first, next, one_call, then_call}
use Rattle.meaning_shipped.specs.Reports.{map_to, to_left, to_right}
use Rattle.meaning_shipped.specs.Line.{MadeOpen, Does, stops, begins, adds, waits, keeps, refuses, ends, step_does, Stays, step_stays}
use Rattle.meaning_shipped.specs.Reader.{reads_made}
use Rattle.meaning_shipped.specs.Says.{stays_found}

-- the reader behind the last line, where no line stops the sheet
unfoldable pub final : Reader → ℕ → Lines → Option Reader
final d at nothing = some d
final d at (unended l) = none
final d at (line l rest) = elim (step d at l) [ done s ↦ final s.after (suc at) rest | refused x ↦ none ]

pub final_next : (d : Reader) (at : ℕ) (l : List ℕ) (rest : Lines) (s : Stepped) → step d at l ≡ done s →
    final d at (line l rest) ≡ final s.after (suc at) rest
unfolding final
final_next d at l rest s e = rw (e, final)

pub reads_final : {sheet : List ℕ} {d : Reader} {at : ℕ} {ls : Lines} → Reads sheet d at ls → final start 1 (lines sheet) ≡ final d at ls
reads_final first = refl
reads_final (next {d = d} {at = at} {l = l} {rest = rest} s R e) = reads_final R ∙ final_next d at l rest s e

-- what the ended sets gave stays
record Within (e f : Ended) : Type 0 where
  head : (h : Head) → Memᴰ h e.heads → Memᴰ h f.heads
  edge : (p : ℕ × ℕ) → Memᴰ p e.edges → Memᴰ p f.edges

within_same : (e : Ended) → Within e e
within_same e = record { head = λ h m. m; edge = λ p m. m }

abbrev Grows : Ended → Outcome Stepped → Type 0
Grows e (done s) = Within e s.after.ended
Grows e (refused x) = Unit {0}

ended_grows : (e : Ended) (g : Set) → Grows e (set_ended e g)
unfolding set_ended
ended_grows e g = record { head = λ h m. to_left e.heads (head_of g ∷ []) h m; edge = λ p m. to_left e.edges (edges_of g) p m }

step_grows : (d : Reader) (at : ℕ) (l : List ℕ) → MadeOpen d.stands → Grows d.ended (step d at l)
step_grows d at l M = go (step_does d at l M)
  where
    go : {o : Outcome Stepped} → Does d at l o → Grows d.ended o
    go (stops x) = tt
    go (begins t f) = within_same d.ended
    go (adds g s a h e) = within_same d.ended
    go (waits g r n h) = within_same d.ended
    go (keeps g r h c w e) = within_same d.ended
    go (refuses g r x c w e) = within_same d.ended
    go (ends g h v w) = ended_grows d.ended g

final_grows : (d : Reader) (at : ℕ) (ls : Lines) (z : Reader) → MadeOpen d.stands → final d at ls ≡ some z → Within d.ended z.ended
unfolding final
final_grows d at nothing z M e = let q : d ≡ z = cc in rw q (within_same z.ended)
final_grows d at (unended l) z M e = absurd (never e)
final_grows d at (line l rest) z M e = go (step d at l) (step_grows d at l M) (step_stays d at l M) e (λ s N q. final_grows s.after (suc at) rest z N q)
  where
    go : (o : Outcome Stepped) → Grows d.ended o → Stays o →
        elim o as (λ _. Option Reader) [ done s ↦ final s.after (suc at) rest | refused x ↦ none ] ≡ some z →
        ((s : Stepped) → MadeOpen s.after.stands → final s.after (suc at) rest ≡ some z → Within s.after.ended z.ended) →
        Within d.ended z.ended
    go (refused x) G N q f = absurd (never q)
    go (done s) G N q f = let W = f s N q in record { head = λ h m. W.head h (G.head h m); edge = λ p m. W.edge p (G.edge p m) }

-- ---- a set that a line ended, at the end
ended_has : (e : Ended) (g : Set) → (s : Stepped) × (set_ended e g ≡ done s) × Memᴰ (head_of g) s.after.ended.heads ×
    ((p : ℕ × ℕ) → Memᴰ p (edges_of g) → Memᴰ p s.after.ended.edges)
unfolding set_ended
ended_has e g = (_, refl, to_right e.heads (head_of g ∷ []) (head_of g) (Memᴰ.head refl), λ p m. to_right e.edges (edges_of g) p m)

pub at_end : (d : Reader) (at : ℕ) → final d at nothing ≡ some d
unfolding final
at_end d at = refl

closed_end : {sheet : List ℕ} {g : Set} {z : Reader} {at : ℕ} → Closed sheet g → Reads sheet z at nothing → Memᴰ (head_of g) z.ended.heads ×
    ((p : ℕ × ℕ) → Memᴰ p (edges_of g) → Memᴰ p z.ended.edges)
closed_end {g = g} {z = z} {at = at} c R =
    let s = ended_has c.reader.ended g in
    let N = next s.0 c.reads (c.ends ∙ s.1) in
    let F = sym (reads_final N) ∙ (reads_final R ∙ at_end z at) in
    let W = final_grows s.0.after (suc c.at) c.rest z (reads_made N) F in
    (W.head (head_of g) s.2, λ p m. W.edge p (s.3 p m))

calls_edge : {sheet : List ℕ} {z : Reader} {at : ℕ} → Reads sheet z at nothing → (a b : ℕ) → Calls sheet a b → Memᴰ (a, b) z.ended.edges
calls_edge R a b k = (closed_end k.1 R).1 (a, b) (there k.0 k.2 k.3 k.4 k.5)
  where
    there : (g : Set) → g.term ≡ a → (s : Site) → Memᴰ s g.sites → term_of s ≡ some b → Memᴰ (a, b) (edges_of g)
    there g t s m e = unfold edges_of in
        in_joined (map (λ (s : Site). edge_to g.term (term_of s)) g.sites) (edge_to g.term (term_of s)) (a, b)
        (map_to (λ (s : Site). edge_to g.term (term_of s)) g.sites s m)
        (rw (e, t) (Memᴰ.head refl))

chain_walk : {sheet : List ℕ} {z : Reader} {at : ℕ} → Reads sheet z at nothing → {a b : ℕ} → Chain sheet a b → Walk z.ended.edges a b
chain_walk R (one_call k) = one (calls_edge R _ _ k)
chain_walk R (then_call k c) = more (calls_edge R _ _ k) (chain_walk R c)

has_term : (sheet : List ℕ) (z : Reader) (at : ℕ) → Reads sheet z at nothing → z.stands ≡ outside → (g : Set) → Closed sheet g → is_rec (head_of g) ≡ false →
    Chain sheet g.term g.term → Memᴰ (term_found g.term) (found_in sheet)
has_term sheet z at R o g c e w = stays_found R (term_found g.term) last
  where
    there : Memᴰ g.term (cyclic_findings z.ended.heads z.ended.edges)
    there = unfold cyclic_findings cyclic head_of in
        (mem_ascending g.term _).1 (map_to (λ (h : Head). h.term) (keep (λ h. not (is_rec h) && returns z.ended.edges h.term) z.ended.heads)
        (head_of g)
        (in_keep (λ (h : Head). not (is_rec h) && returns z.ended.edges h.term) z.ended.heads (head_of g) (closed_end c R).0
        (rw (e, (returns_is z.ended.edges g.term).1 (chain_walk R w)) refl)))

    last : Memᴰ (term_found g.term) (read_on z at nothing)
    last = unfold read_on in rw o (to_left (map term_found (cyclic_findings z.ended.heads z.ended.edges)) (end_found z.ended ∷ [])
        (term_found g.term) (map_to term_found (cyclic_findings z.ended.heads z.ended.edges) g.term there))

pub cyclic_there : (sheet : List ℕ) → ReadWhole sheet → (g : Set) → Closed sheet g → is_rec (head_of g) ≡ false → Chain sheet g.term g.term →
    Memᴰ (term_found g.term) (found_in sheet)
cyclic_there sheet R = has_term sheet R.0 R.1 R.2 R.3
