-- What the code of each function asks, over plain variables.
use mathlib.Core.Path.{◌≡◌, refl, sym, ap, ◌∙◌}
use mathlib.Core.Bool.{Bool, true, false, ◌&&◌, not}
use mathlib.Core.List.{List, [], ◌∷◌, ◌++◌, map, append_assoc, append-nil}
use Prim.Native.Nat.{ℕ, zero, suc, ◌+◌, ◌-◌, ◌*◌, ◌/◌, ◌≤◌, ◌<◌}
use native.Mathlib.Omega.{arith}
use native.Mathlib.Numerals.{add-one}
use lib.ListN.{length, get_or, take, replicate, length-append}
use lib.Seq.{take-suc, take_at, length-take-le}
use borrow.Author.Tests.{lt-ltb, le-ltb, le-leb, lt-leb, eq-eqb, ne_eqb}
use Rattle.std.specs.declared.result.Result.TheVariants.{Err, Ok}
use Rattle.std.specs.declared.option.Option.TheVariants.{None, Some}
use Rattle.paper.specs.Answered.{Maybe}
use Rattle.paper.specs.declared.Refusal.TheVariants.{Repeated, TooManySets, TermTooHigh}
use Rattle.paper.specs.Words.{joined, below, keep, two, returns}
use Rattle.paper.specs.Numbers.{max_sets, max_rules, max_term}
use Rattle.paper.specs.Sites.{Site, Sites, term_of}
use Rattle.paper.specs.Layout.{hex}
use Rattle.paper.specs.Sheets.{term_found}
use Rattle.term_table.specs.Table.{Square, terms, in_row, has_term, no_marks, with_term, with_edge, with_edges, left, numbers, edges_in, unflagged, listed}
use Rattle.term_table.specs.declared.Listed.{Listed}
use Rattle.term_table.proofs.Adding.{edges_append}
use Rattle.term_table.proofs.Lists.{keep_in, keep_out, keep_nil}
use Rattle.sheet_findings.specs.Written.{written_at, room_said, room_after, ended_found}
use Rattle.sites.specs.Slots.{put, site_of, slot_body, site_in, sites_in, found_as}
use Rattle.sites.proofs.Put.{put_put, put_nil, length_put}
use Rattle.site_body.proofs.Bodies.{found_some, found_none}
use Rattle.sheet_ended.specs.declared.EndedSets.{EndedSets}
use Rattle.sheet_ended.specs.Sets.{no_sets, verdict_as, may_begin, edge_from, edges_from, recs_with, fits_set, with_set, terms_text, to_or, end_room, found_text, said_at, written_after}

-- ---- no set
pub none_ended : ◌≡◌ {A = EndedSets} (record { sets = 0; kept = 0; used = 0 ∷ 0 ∷ 0 ∷ 0 ∷ []; recs = 0 ∷ 0 ∷ 0 ∷ 0 ∷ [] }) no_sets
unfolding no_sets no_marks
none_ended = refl

-- ---- may a set begin?
module _ (e : EndedSets) (t at : ℕ) (b : Bool) (q : b ≡ has_term e.used t) where
  pub begins_used : b ≡ true → Err (Repeated at) ≡ verdict_as (may_begin e t at)
  unfolding may_begin
  begins_used x = rw (← q, x)

  module _ (x : b ≡ false) where
    pub begins_many : (n : ℕ) → n ≡ suc e.sets → max_sets ≤ e.sets → Err (TooManySets n) ≡ verdict_as (may_begin e t at)
    unfolding may_begin
    begins_many n z l = rw (← q, x, le-ltb e.sets max_sets l, z)

    pub begins_high : (n : ℕ) → n ≡ t → e.sets < max_sets → max_term + 1 ≤ t → Err (TermTooHigh n) ≡ verdict_as (may_begin e t at)
    unfolding may_begin
    begins_high n z l h = rw (← q, x, lt-ltb e.sets max_sets l, lt-leb t max_term (omega arith), z)

    pub begins_fine : e.sets < max_sets → t < max_term + 1 → (Ok tt) ≡ verdict_as (may_begin e t at)
    unfolding may_begin
    begins_fine l h = rw (← q, x, lt-ltb e.sets max_sets l, le-leb t max_term (omega arith))

-- ---- edges
no_edge : (t : Square) → t ≡ with_edges t []
unfolding with_edges
no_edge t = refl

one_edge : (t : Square) (a b : ℕ) → left t (with_edge t a b) ≡ with_edges t ((a, b) ∷ [])
unfolding with_edges
one_edge t a b = refl

pub edge_none : (t : Square) (a : ℕ) (s : Site) (f : Maybe ℕ) → f ≡ found_as (term_of s) → f ≡ None → t ≡ with_edges t (edge_from a s)
edge_none t a s f e q = let n = found_none (term_of s) (sym e ∙ q) in rw n (no_edge t)

pub edge_some : (t u : Square) (a b : ℕ) (s : Site) (f : Maybe ℕ) → f ≡ found_as (term_of s) → f ≡ Some b → u ≡ left t (with_edge t a b) → u ≡ with_edges t (edge_from a s)
edge_some t u a b s f e q w = let n = found_some (term_of s) b (sym e ∙ q) in rw n (w ∙ one_edge t a b)

edges_snoc : (a : ℕ) (ss : Sites) (s : Site) → edges_from a (ss ++ (s ∷ [])) ≡ edges_from a ss ++ edge_from a s
unfolding edges_from joined
edges_snoc a [] s = append-nil (edge_from a s)
edges_snoc a (x ∷ ss) s = ap (λ r. edge_from a x ++ r) (edges_snoc a ss s) ∙ sym (append_assoc (edge_from a x) (joined (map (edge_from a) ss)) (edge_from a s))

pub edges_none : (t : Square) (a : ℕ) (m : List ℕ) → t ≡ with_edges t (edges_from a (sites_in m 0))
unfolding edges_from sites_in below joined with_edges
edges_none t a m = refl

pub edges_turn : (t₀ t u : Square) (a : ℕ) (m : List ℕ) (i : ℕ) (b : List ℕ) → t ≡ with_edges t₀ (edges_from a (sites_in m i)) → b ≡ slot_body m i → u ≡ with_edges t (edge_from a (site_of b)) → u ≡ with_edges t₀ (edges_from a (sites_in m (i + 1)))
unfolding sites_in site_in below
edges_turn t₀ t u a m i b e q w =
    let es = edges_from a (below i (site_in m)) in
    let x : u ≡ with_edges (with_edges t₀ es) (edge_from a (site_in m i)) = w ∙ (ap (λ k. with_edges k (edge_from a (site_of b))) e ∙ ap (λ k. with_edges (with_edges t₀ es) (edge_from a (site_of k))) q) in
    rw (add-one i) (x ∙ (sym (edges_append es (edge_from a (site_in m i)) t₀) ∙ ap (with_edges t₀) (sym (edges_snoc a (below i (site_in m)) (site_in m i)))))

pub edges_done : (t₀ t : Square) (a : ℕ) (m : List ℕ) (i n : ℕ) → i ≤ n → n ≤ i → t ≡ with_edges t₀ (edges_from a (sites_in m i)) → t ≡ with_edges t₀ (edges_from a (sites_in m n))
edges_done t₀ t a m i n l h e = let z : i ≡ n = omega arith in e ∙ rw z

-- ---- one set more
pub recs_not : (r : List ℕ) (t f : ℕ) → (f / 2 ≡ 1 → ⊥) → r ≡ recs_with r t f
unfolding recs_with
recs_not r t f h = rw (ne_eqb (f / 2) 1 h)

pub recs_so : (r out : List ℕ) (t f : ℕ) → f / 2 ≡ 1 → out ≡ left r (with_term r t) → out ≡ recs_with r t f
unfolding recs_with
recs_so r out t f h e = rw (eq-eqb (f / 2) 1 h) e

module _ (e : EndedSets) (t f rules : ℕ) where
  pub set_many : max_sets ≤ e.sets → e ≡ with_set e t f rules
  unfolding with_set fits_set
  set_many h = rw (le-ltb e.sets max_sets h)

  pub set_rules : e.sets < max_sets → max_rules < rules → e ≡ with_set e t f rules
  unfolding with_set fits_set
  set_rules l h = rw (lt-ltb e.sets max_sets l, lt-leb rules max_rules h)

  pub set_kept : e.sets < max_sets → rules ≤ max_rules → max_sets * max_rules < e.kept → e ≡ with_set e t f rules
  unfolding with_set fits_set
  set_kept l m h = rw (lt-ltb e.sets max_sets l, le-leb rules max_rules m, lt-leb e.kept (max_sets * max_rules) h)

  pub set_more : (used recs : List ℕ) → e.sets < max_sets → rules ≤ max_rules → e.kept ≤ max_sets * max_rules → used ≡ left e.used (with_term e.used t) → recs ≡ recs_with e.recs t f → ◌≡◌ {A = EndedSets} (record { sets = e.sets + 1; kept = e.kept + rules; used = used; recs = recs }) (with_set e t f rules)
  unfolding with_set fits_set
  set_more used recs l m h u r = rw (lt-ltb e.sets max_sets l, le-leb rules max_rules m, le-leb e.kept (max_sets * max_rules) h, u, r)

-- ---- lines one after the other
pub length_hex : (s : List ℕ) → length (hex s) ≡ 2 * length s + 1
unfolding hex
length_hex [] = refl
length_hex (b ∷ s) = let h = length_hex s in omega arith

length_term : (t : ℕ) → length (hex (term_found t)) ≡ 7
unfolding term_found two
length_term t = length_hex _

pub written_then : (m : List ℕ) (at : ℕ) (x y : List ℕ) → at ≤ length m → written_at (written_at m at x) (at + length x) y ≡ written_at m at (x ++ y)
unfolding written_at put
written_then m at x y h = put_put m at x y h

pub written_none : (m : List ℕ) (at : ℕ) → written_at m at [] ≡ m
unfolding written_at put
written_none m at = put_nil m at

pub written_length : (m : List ℕ) (at : ℕ) (s : List ℕ) → at + length s ≤ length m → length (written_at m at s) ≡ length m
unfolding written_at put
written_length m at s h = length_put m at s h

pub said_to : (m : List ℕ) (at : ℕ) (s : List ℕ) (w : Maybe ℕ) → w ≡ room_said m at s → at + length s ≤ length m → w ≡ Some (at + length s)
unfolding room_said
said_to m at s w e h = e ∙ rw (le-leb (at + length s) (length m) h)

pub after_is : (m out : List ℕ) (at : ℕ) (s : List ℕ) → out ≡ room_after m at s → at + length s ≤ length m → out ≡ written_at m at s
unfolding room_after
after_is m out at s e h = e ∙ rw (le-leb (at + length s) (length m) h)

terms_snoc : (ts : List ℕ) (t : ℕ) → terms_text (ts ++ (t ∷ [])) ≡ terms_text ts ++ hex (term_found t)
unfolding terms_text joined
terms_snoc [] t = append-nil (hex (term_found t))
terms_snoc (x ∷ ts) t = ap (λ r. hex (term_found x) ++ r) (terms_snoc ts t) ∙ sym (append_assoc (hex (term_found x)) _ (hex (term_found t)))

length_terms : (ts : List ℕ) → length (terms_text ts) ≡ 7 * length ts
unfolding terms_text joined
length_terms [] = refl
length_terms (x ∷ ts) = length-append (hex (term_found x)) _ ∙ (let h = length_terms ts in let l = length_term x in omega arith)

-- the first k terms of ts stand in the room from `at` on
pub record Listing (ts m : List ℕ) (at k e : ℕ) (out : List ℕ) : Type 0 where
  pub ends : e ≡ at + 7 * k
  pub into : out ≡ written_at m at (terms_text (take k ts))
  pub long : length out ≡ length m

pub listing_none : (ts m : List ℕ) (at : ℕ) → Listing ts m at 0 at m
unfolding terms_text joined
listing_none ts m at = record { ends = omega arith; into = sym (written_none m at); long = refl }

pub listing_turn : (ts m : List ℕ) (at k e : ℕ) (out out' : List ℕ) (w : Maybe ℕ) (e' : ℕ) → Listing ts m at k e out → k < length ts → at + 7 * (k + 1) ≤ length m → w ≡ room_said out e (hex (term_found (get_or ts k 0))) → out' ≡ room_after out e (hex (term_found (get_or ts k 0))) → e' ≡ to_or w e → Listing ts m at (k + 1) e' out'
listing_turn ts m at k e out out' w e' L l h r o t =
    let x = hex (term_found (get_or ts k 0)) in
    let n = length_term (get_or ts k 0) in
    let a = L.ends in
    let b = L.long in
    let u = terms_text (take k ts) in
    let lt = length-take-le k ts (omega arith) in
    let lu : length u ≡ 7 * k = length_terms (take k ts) ∙ ap (λ i. 7 * i) lt in
    let s : w ≡ Some (e + length x) = said_to out e x w r (omega arith) in
    let v : out' ≡ written_at out e x = after_is out out' e x o (omega arith) in
    let z : e' ≡ e + length x = t ∙ ap (λ q. to_or q e) s in
    let y : e ≡ at + length u = omega arith in
    let p : out' ≡ written_at m at (u ++ x) = v ∙ (rw (L.into, y) (written_then m at u x (omega arith))) in
    let q : u ++ x ≡ terms_text (take (k + 1) ts) = sym (terms_snoc (take k ts) (get_or ts k 0)) ∙ ap terms_text (sym (rw (add-one k) (take-suc ts k 0 l))) in
    record { ends = omega arith; into = p ∙ ap (written_at m at) q; long = ap length v ∙ (written_length out e x (omega arith) ∙ b) }

-- ---- the end
keep_few : {A : Type 0} (p : A → Bool) (xs : List A) → length (keep p xs) ≤ length xs
keep_few p [] = rw (keep_nil p) (omega arith)
keep_few p (x ∷ xs) = go (p x) refl (keep_few p xs)
  where
    go : (t : Bool) → p x ≡ t → length (keep p xs) ≤ length xs → length (keep p (x ∷ xs)) ≤ suc (length xs)
    go true e h = rw (keep_in p x xs e) (omega arith)
    go false e h = rw (keep_out p x xs e) (omega arith)

length_below : {A : Type 0} (n : ℕ) (f : ℕ → A) → length (below n f) ≡ n
unfolding below
length_below zero f = refl
length_below (suc n) f = length-append (below n f) (f n ∷ []) ∙ (let h = length_below n f in omega arith)

pub few_found : (t : Square) (r : List ℕ) → length (unflagged t r) ≤ terms
unfolding unflagged numbers
few_found t r = let h = keep_few (λ a. returns (edges_in t) a && not (in_row r a)) (below terms (λ a. a)) in let k = length_below terms (λ a. a) in omega arith

pub listed_count : (l : Listed) (xs : List ℕ) → l ≡ listed xs → l.count ≡ length xs
unfolding listed
listed_count l xs e = ap (λ x. x.count) e

pub listed_terms : (l : Listed) (xs : List ℕ) → l ≡ listed xs → take l.count l.terms ≡ xs
unfolding listed
listed_terms l xs e = rw e (take_at xs _ (length xs) refl)

pub listed_long : (l : Listed) (xs : List ℕ) → l ≡ listed xs → length xs ≤ length l.terms
unfolding listed
listed_long l xs e = rw e (let h = length-append xs (replicate (terms - length xs) 0) in omega arith)

end_long : (sets kept : ℕ) → length (hex (ended_found sets kept)) ≡ 11
unfolding ended_found two
end_long sets kept = length_hex _

module _ (t : Square) (e : EndedSets) (room : List ℕ) (at : ℕ) where
  pub no_room : length room < at + end_room → (None ≡ said_at room at (found_text t e)) × (room ≡ written_after room at (found_text t e))
  unfolding said_at written_after
  no_room h = (rw (lt-leb (at + end_room) (length room) h), rw (lt-leb (at + end_room) (length room) h))

  pub all_found : (l : Listed) (n : ℕ) (mid out : List ℕ) (end : ℕ) (w : Maybe ℕ) → at + end_room ≤ length room → l ≡ listed (unflagged t e.recs) → n ≡ l.count → end ≡ at + 7 * length (take n l.terms) → mid ≡ written_at room at (terms_text (take n l.terms)) → w ≡ room_said mid end (hex (ended_found e.sets e.kept)) → out ≡ room_after mid end (hex (ended_found e.sets e.kept)) → (w ≡ said_at room at (found_text t e)) × (out ≡ written_after room at (found_text t e))
  unfolding said_at written_after found_text
  all_found l n mid out end w h q k z i r o =
      let xs = unflagged t e.recs in
      let u = terms_text xs in
      let x = hex (ended_found e.sets e.kept) in
      let lx : length x ≡ 11 = end_long e.sets e.kept in
      let f = few_found t e.recs in
      let d : take n l.terms ≡ xs = rw k (listed_terms l xs q) in
      let lu : length u ≡ 7 * length xs = length_terms xs in
      let m : mid ≡ written_at room at u = i ∙ ap (λ ts. written_at room at (terms_text ts)) d in
      let lm : length mid ≡ length room = ap length m ∙ written_length room at u (omega arith) in
      let y : end ≡ at + length u = omega (arith, ap length d) in
      let s : w ≡ Some (end + length x) = said_to mid end x w r (omega arith) in
      let v : out ≡ written_at mid end x = after_is mid out end x o (omega arith) in
      let b : end + length x ≡ at + length (u ++ x) = rw (length-append u x) (omega arith) in
      (rw (le-leb (at + end_room) (length room) h) (s ∙ ap Some b), rw (le-leb (at + end_room) (length room) h) (v ∙ (rw (m, y) (written_then room at u x (omega arith)))))

pub terms_fit : (l : Listed) (t : Square) (r : List ℕ) → l ≡ listed (unflagged t r) → l.count ≤ terms
terms_fit l t r e = let c = listed_count l _ e in let f = few_found t r in omega arith
