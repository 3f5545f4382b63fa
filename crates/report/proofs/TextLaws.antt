-- The lines are those of paper's report.
use mathlib.Core.Path.{◌≡◌, refl, sym, ap, ◌∙◌}
use mathlib.Core.Bool.{Bool, true, false}
use mathlib.Core.List.{List, [], ◌∷◌, ◌++◌, map, append_assoc}
use Prim.Native.Nat.{ℕ, zero, suc, ◌+◌, ◌≤◌, ◌<◌}
use native.Mathlib.Omega.{arith}
use native.Mathlib.Numerals.{add-one}
use native.Mathlib.Decide.{ℕ_discrete, dec_lt}
use lib.ListN.{length, get_or, take, length-map, get_or-map, length-replicate, get_or-replicate, replicate}
use lib.Seq.{get_or-take, length-take-le}
use lib.Count.{ones}
use lib.Dec.{ltb}
use borrow.Author.Tests.{eq-eqb, ne_eqb, lt-ltb, le-ltb}
use Rattle.paper.specs.Numbers.{max_rules}
use Rattle.std.specs.Prelude.{if◌then◌else◌}
use Rattle.paper.specs.Words.{keep, below, joined, sort_by, two, four}
use Rattle.paper.specs.Layout.{hex}
use Rattle.paper.specs.Sheets.{listed_found}
use Rattle.paper.specs.Loading.{Kept}
use Rattle.paper.specs.Rules.{Listed, overlap, mask, edge, masks, linked, by_place, take_places, overlap_lists, masked_by, mask_lists, listed_from, report_of, no_rule}
use Rattle.paper.proofs.Lists.{map_append, none_in, and_true}
use Rattle.rule_words.specs.Stored.{run, kept_at, kept_in, kept_first}
use Rattle.sheet_digits.specs.Digits.{digits_of}
use Rattle.sheet_digits.proofs.DigitLaws.{digits_append, hex_digits}
use Rattle.report.specs.Rows.{bits, bit_at, filled, place_in, named, earlier, lower_word, either, row_word, take_from}
use Rattle.report.specs.Lines.{place_text, places_text, rest_text, overlap_text, mask_text, masks_in, rule_text, lists_text}
use Rattle.report.proofs.RowLaws.{bits_at, ones_bits, filled_at, filled_length, tally}
use Rattle.report.proofs.ListLaws.{numbers, keep_yes, keep_no, keep_map, kept_next, map_map, joined_append, joined_one, joined_cons, joined_none, below_next, below_none, below_map, run_below, count_kept, none_counted, sort_map, map_run, get_d_any}
use Rattle.report.proofs.TakeLaws.{Held, Taken, never, once, live, firsts, Lists}

abbrev pub line : Listed → List ℕ
line l = hex (listed_found l)

keep_nothing : {A : Type 0} (t : A → Bool) → keep t [] ≡ []
unfolding keep
keep_nothing t = refl

digits_none : digits_of [] ≡ []
unfolding digits_of
digits_none = refl

places_start : (ps : List ℕ) (w : ℕ) → places_text ps w 0 ≡ []
unfolding places_text
places_start ps w = refl

places_more : (ps : List ℕ) (w k : ℕ) → places_text ps w (suc k) ≡ places_text ps w k ++ place_text ps w k
unfolding places_text
places_more ps w k = refl

digits_cons : (b : ℕ) (s : List ℕ) → digits_of (b ∷ s) ≡ digits_of (b ∷ []) ++ digits_of s
digits_cons b s = digits_append (b ∷ []) s

-- a frame's digits, piece by piece
overlap_line : (p : ℕ) (ns : List ℕ) → digits_of (listed_found (overlap p ns)) ++ (10 ∷ []) ≡ digits_of (18 ∷ []) ++ (digits_of (two (length ns + 1)) ++ (digits_of (four p) ++ (digits_of (joined (map four ns)) ++ (10 ∷ []))))
unfolding listed_found
overlap_line p ns =
    rw (digits_cons 18 (two (suc (length ns)) ++ joined (four p ∷ map four ns)), digits_append (two (suc (length ns))) (joined (four p ∷ map four ns)), joined_cons (four p) (map four ns), digits_append (four p) (joined (map four ns)), add-one (length ns))
    (simp append_assoc)

mask_line : (p : ℕ) (ns : List ℕ) → digits_of (listed_found (mask p ns)) ++ (10 ∷ []) ≡ digits_of (19 ∷ []) ++ (digits_of (four p) ++ (digits_of (two (length ns)) ++ (digits_of (joined (map four ns)) ++ (10 ∷ []))))
unfolding listed_found
mask_line p ns =
    rw (digits_cons 19 (four p ++ (two (length ns) ++ joined (map four ns))), digits_append (four p) (two (length ns) ++ joined (map four ns)), digits_append (two (length ns)) (joined (map four ns)))
    (simp append_assoc)

-- ---- the places of a word's bits
module _ (names : List ℕ) (P : ℕ → ℕ) (f : ℕ → Bool) (n : ℕ) (few : n ≤ max_rules) (same : (q : ℕ) → q < n → get_or names q 0 ≡ P q) where
  abbrev Named : ℕ → List ℕ
  Named k = digits_of (joined (map four (map P (keep f (numbers k)))))

  place_is : (k : ℕ) → k < n → place_text names (bits f n) k ≡ digits_of (joined (map four (map P (keep f (k ∷ [])))))
  unfolding place_text
  place_is k h = rw (bits_at f n k h few, same k h) (go (f k) refl)
    where
      go : (t : Bool) → f k ≡ t → (if t then digits_of (four (P k)) else []) ≡ digits_of (joined (map four (map P (keep f (k ∷ [])))))
      go true e = rw (keep_yes f k [] e, keep_nothing f, joined_one (four (P k)))
      go false e = rw (keep_no f k [] e, keep_nothing f, joined_none {A = ℕ}) (sym digits_none)

  places_are : (k : ℕ) → k ≤ n → places_text names (bits f n) k ≡ Named k
  places_are zero h = places_start names (bits f n) ∙ rw (below_none {A = ℕ} (λ j. j), keep_nothing f, joined_none {A = ℕ}) (sym digits_none)
  places_are (suc k) h =
      let l : k < n = omega arith in
      places_more names (bits f n) k
      ∙ (rw (places_are k (omega arith), place_is k l, kept_next f k, map_append P (keep f (numbers k)) (keep f (k ∷ [])), map_append four (map P (keep f (numbers k))) (map P (keep f (k ∷ []))), joined_append (map four (map P (keep f (numbers k)))) (map four (map P (keep f (k ∷ [])))))
      (sym (digits_append (joined (map four (map P (keep f (numbers k))))) (joined (map four (map P (keep f (k ∷ []))))))))

  abbrev pub Members : List ℕ
  Members = map P (keep f (numbers n))

  rest_is : rest_text names (bits f n) n ≡ digits_of (joined (map four (map P (keep f (numbers n))))) ++ (10 ∷ [])
  unfolding rest_text
  rest_is = rw (places_are n (omega arith))

  count_is : ones (bits f n) ≡ length (map P (keep f (numbers n)))
  count_is = ones_bits f n ∙ (sym (count_kept f n) ∙ sym (length-map (keep f (numbers n)) P))

  -- "12 count (2), places"
  pub overlap_is : (p : ℕ) → p < n → (bits f n ≡ 0 → ⊥) → overlap_text names p (bits f n) n ≡ line (overlap (P p) (map P (keep f (numbers n))))
  unfolding overlap_text
  overlap_is p h z =
      rw (ne_eqb (bits f n) 0 z, rest_is, count_is, same p h)
      (sym (hex_digits (listed_found (overlap (P p) (map P (keep f (numbers n))))) ∙ overlap_line (P p) (map P (keep f (numbers n)))))

  -- "13 mask, count (2), places"
  pub mask_is : (p : ℕ) → (bits f n ≡ 0 → ⊥) → mask_text names p (bits f n) n ≡ line (mask p (map P (keep f (numbers n))))
  unfolding mask_text
  mask_is p z =
      rw (ne_eqb (bits f n) 0 z, rest_is, count_is)
      (sym (hex_digits (listed_found (mask p (map P (keep f (numbers n))))) ∙ mask_line p (map P (keep f (numbers n)))))

all_ones : 18446744073709551615 ≡ bits (λ q. true) 64
unfolding bits
all_ones = refl

row_is : (low : List ℕ) (n p : ℕ) → row_word low n p ≡ bits (either low p) n
unfolding row_word
row_is low n p = refl

-- ---- the rules in the order of their places
place_kept : (ws : List ℕ) (j : ℕ) → (kept_in ws j).place ≡ place_in ws j
unfolding kept_in kept_at place_in
place_kept ws j = refl

module _ (ws : List ℕ) (n : ℕ) (os : List ℕ) (long : n ≤ length os) (sorted : take n os ≡ sort_by (place_in ws) (run (λ j. j) 0 n)) where
  abbrev Sorted : List Kept
  Sorted = by_place (kept_first ws n)

  sorted_is : by_place (kept_first ws n) ≡ map (kept_in ws) (take n os)
  unfolding by_place kept_first kept_in kept_at place_in
  sorted_is = sym (ap (map (kept_in ws)) sorted ∙ (sort_map (λ k. k.place) (kept_in ws) (run (λ j. j) 0 n) ∙ ap (sort_by (λ k. k.place)) (map_run (kept_in ws) 0 n)))

  sorted_length : length (by_place (kept_first ws n)) ≡ n
  sorted_length = ap length sorted_is ∙ (length-map (take n os) (kept_in ws) ∙ length-take-le n os long)

  sorted_at : (p : ℕ) → p < n → get_or (by_place (kept_first ws n)) p no_rule ≡ kept_in ws (get_or os p 0)
  sorted_at p h =
      let l : p < length (map (kept_in ws) (take n os)) = omega (arith, length-map (take n os) (kept_in ws), length-take-le n os long) in
      ap (λ z. get_or z p no_rule) sorted_is
      ∙ (get_d_any (map (kept_in ws) (take n os)) p no_rule (kept_in ws 0) l
      ∙ (get_or-map (kept_in ws) (take n os) p 0 ∙ ap (kept_in ws) (get_or-take n os p 0 h)))

  abbrev Places : List ℕ
  Places = map (λ k. k.place) (by_place (kept_first ws n))

  places_at : (p : ℕ) → p < n → get_or (map (λ k. k.place) (by_place (kept_first ws n))) p 0 ≡ place_in ws (get_or os p 0)
  places_at p h =
      get_or-map (λ (k : Kept). k.place) (by_place (kept_first ws n)) p no_rule ∙ (ap (λ (k : Kept). k.place) (sorted_at p h) ∙ place_kept ws (get_or os p 0))

  named_at : n ≤ max_rules → (p : ℕ) → p < n → get_or (filled (named ws os) n) p 0 ≡ get_or (map (λ k. k.place) (by_place (kept_first ws n))) p 0
  unfolding named
  named_at few p h = filled_at (named ws os) n p h few ∙ sym (places_at p h)

  -- ---- their edges
  module _ (few : n ≤ max_rules) where
    abbrev low : List ℕ
    low = filled (lower_word ws os) n

    low_at : (p q : ℕ) → q < p → p < n → bit_at (get_or (filled (lower_word ws os) n) p 0) q ≡ edge (get_or (by_place (kept_first ws n)) q no_rule) (get_or (by_place (kept_first ws n)) p no_rule)
    unfolding lower_word earlier
    low_at p q h l =
        ap (λ z. bit_at z q) (filled_at (lower_word ws os) n p l few)
        ∙ (bits_at (earlier ws os p) p q h (omega arith) ∙ rw (sorted_at q (omega arith), sorted_at p l))

    linked_is : (p q : ℕ) → p < n → q < n → linked (by_place (kept_first ws n)) p q ≡ either (filled (lower_word ws os) n) p q
    unfolding linked either
    linked_is p q h k = go (dec_lt p q) (dec_lt q p)
      where
        go : Dec (p < q) → Dec (q < p) → (if ltb p q then edge (get_or (by_place (kept_first ws n)) p no_rule) (get_or (by_place (kept_first ws n)) q no_rule) else (if ltb q p then edge (get_or (by_place (kept_first ws n)) q no_rule) (get_or (by_place (kept_first ws n)) p no_rule) else false))
            ≡ (if ltb q p then bit_at (get_or (filled (lower_word ws os) n) p 0) q else (if ltb p q then bit_at (get_or (filled (lower_word ws os) n) q 0) p else false))
        go (yes a) b = let c : p ≤ q = omega arith in rw (lt-ltb p q a, le-ltb q p c) (sym (low_at q p a k))
        go (no a) (yes b) = let c : q ≤ p = omega arith in rw (le-ltb p q c, lt-ltb q p b) (sym (low_at p q b h))
        go (no a) (no b) = let c : q ≤ p = omega arith in let d : p ≤ q = omega arith in rw (le-ltb p q c, le-ltb q p d)

    rows_held : Held n (linked (by_place (kept_first ws n))) (filled (row_word (filled (lower_word ws os) n) n) n) 18446744073709551615
    rows_held = record {
      links = either (filled (lower_word ws os) n);
      stays = λ q. true;
      long = filled_length (row_word (filled (lower_word ws os) n) n) n;
      row = λ p h. row_at p h;
      all = all_ones;
      is = λ p q h k. linked_is p q h k ∙ sym (and_true (either (filled (lower_word ws os) n) p q));
    }
      where
        row_at : (p : ℕ) → p < n → get_or (filled (row_word (filled (lower_word ws os) n) n) n) p 0 ≡ bits (either (filled (lower_word ws os) n) p) n
        row_at p h = filled_at (row_word (filled (lower_word ws os) n) n) n p h few ∙ row_is (filled (lower_word ws os) n) n p

-- ---- masks
masked_is : (ws : List ℕ) (n i : ℕ) → masked_by (kept_first ws n) (kept_in ws i) ≡ map (place_in ws) (keep (masks_in ws i) (numbers n))
unfolding masked_by kept_first masks_in kept_in kept_at place_in
masked_is ws n i =
    ap (λ z. map (λ (b : Kept). b.place) (keep (masks (kept_in ws i)) z)) (run_below (kept_in ws) n ∙ below_map n (kept_in ws))
    ∙ (ap (map (λ (b : Kept). b.place)) (keep_map (masks (kept_in ws i)) (kept_in ws) (numbers n)) ∙ map_map (λ (b : Kept). b.place) (kept_in ws) (keep (λ j. masks (kept_in ws i) (kept_in ws j)) (numbers n)))

no_masks : (p : ℕ) → mask_lists p [] ≡ []
unfolding mask_lists
no_masks p = refl

some_masks : (p : ℕ) (ms : List ℕ) → (length ms ≡ 0 → ⊥) → mask_lists p ms ≡ mask p ms ∷ []
unfolding mask_lists
some_masks p [] h = absurd (h refl)
some_masks p (m ∷ ms) h = refl

ones_zero : ones 0 ≡ 0
unfolding ones
ones_zero = refl

mask_empty : (ps : List ℕ) (p w n : ℕ) → w ≡ 0 → mask_text ps p w n ≡ []
unfolding mask_text
mask_empty ps p w n e = rw (eq-eqb w 0 e)

overlap_empty : (ps : List ℕ) (p w n : ℕ) → w ≡ 0 → overlap_text ps p w n ≡ []
unfolding overlap_text
overlap_empty ps p w n e = rw (eq-eqb w 0 e)

abbrev pub text : List Listed → List ℕ
text ls = joined (map line ls)

mask_all : (all : List ℕ) (P : ℕ → ℕ) (f : ℕ → Bool) (n p : ℕ) → n ≤ max_rules → ((q : ℕ) → q < n → get_or all q 0 ≡ P q) → mask_text all p (bits f n) n ≡ text (mask_lists p (map P (keep f (numbers n))))
mask_all all P f n p few same = go (ℕ_discrete (bits f n) 0)
  where
    counted : length (map P (keep f (numbers n))) ≡ tally f n
    counted = length-map (keep f (numbers n)) P ∙ count_kept f n

    go : Dec (bits f n ≡ 0) → mask_text all p (bits f n) n ≡ text (mask_lists p (map P (keep f (numbers n))))
    go (yes z) =
        let e : map P (keep f (numbers n)) ≡ [] = none_in (map P (keep f (numbers n))) (counted ∙ (sym (ones_bits f n) ∙ (ap ones z ∙ ones_zero))) in
        mask_empty all p (bits f n) n z ∙ sym (ap (λ y. text (mask_lists p y)) e ∙ (ap text (no_masks p) ∙ joined_none))
    go (no z) =
        mask_is all P f n few same p z
        ∙ sym (ap text (some_masks p (map P (keep f (numbers n))) (λ e. z (none_counted f n (sym counted ∙ e)))) ∙ joined_one (line (mask p (map P (keep f (numbers n))))))

-- ---- overlaps
lists_are : (ps : List ℕ) (taken : Lists) (i : ℕ) → overlap_lists ps taken i ≡ map (λ l. overlap (get_or ps l.0 0) (map (λ j. get_or ps j 0) l.1)) (firsts i taken)
unfolding overlap_lists
lists_are ps taken i = refl

overlap_all : (names ps : List ℕ) (taken : Lists) (n p w : ℕ) → n ≤ max_rules → p < n → ((q : ℕ) → q < n → get_or names q 0 ≡ get_or ps q 0) → Taken n p w (firsts p taken) → overlap_text names p w n ≡ text (overlap_lists ps taken p)
overlap_all names ps taken n p w few h same (never z e) =
    overlap_empty names p w n z ∙ sym (ap text (lists_are ps taken p ∙ ap (map (λ (l : ℕ × List ℕ). overlap (get_or ps l.0 0) (map (λ j. get_or ps j 0) l.1))) e) ∙ joined_none)
overlap_all names ps taken n p w few h same (once f v z e) =
    ap (λ y. overlap_text names p y n) v
    ∙ (overlap_is names (λ j. get_or ps j 0) f n few same p h (λ y. z (v ∙ y))
    ∙ sym (ap text (lists_are ps taken p ∙ ap (map (λ (l : ℕ × List ℕ). overlap (get_or ps l.0 0) (map (λ j. get_or ps j 0) l.1))) e) ∙ joined_one (line (overlap (get_or ps p 0) (map (λ j. get_or ps j 0) (keep f (numbers n)))))))

-- ---- the whole
lists_start : (ws all os ps ts : List ℕ) (n : ℕ) → lists_text ws all os ps ts n 0 ≡ []
unfolding lists_text
lists_start ws all os ps ts n = refl

lists_more : (ws all os ps ts : List ℕ) (n k : ℕ) → lists_text ws all os ps ts n (suc k) ≡ lists_text ws all os ps ts n k ++ rule_text ws all os ps ts n k
unfolding lists_text
lists_more ws all os ps ts n k = refl

text_append : (xs ys : List Listed) → text (xs ++ ys) ≡ text xs ++ text ys
text_append xs ys = ap joined (map_append line xs ys) ∙ joined_append (map line xs) (map line ys)

text_joined : (k : ℕ) (F : ℕ → List Listed) → text (joined (below (suc k) F)) ≡ text (joined (below k F)) ++ text (F k)
text_joined k F = ap (λ z. text (joined z)) (below_next k F) ∙ (ap text (joined_append (below k F) (F k ∷ []) ∙ ap (λ z. joined (below k F) ++ z) (joined_one (F k))) ∙ text_append (joined (below k F)) (F k))

lists_are_text : (ws all os ps ts : List ℕ) (n : ℕ) (F : ℕ → List Listed) → ((p : ℕ) → p < n → rule_text ws all os ps ts n p ≡ text (F p)) → (k : ℕ) → k ≤ n → lists_text ws all os ps ts n k ≡ text (joined (below k F))
lists_are_text ws all os ps ts n F h zero l = lists_start ws all os ps ts n ∙ sym (ap (λ z. text (joined z)) (below_none F) ∙ (ap text joined_none ∙ joined_none))
lists_are_text ws all os ps ts n F h (suc k) l =
    lists_more ws all os ps ts n k ∙ (rw (lists_are_text ws all os ps ts n F h k (omega arith), h k (omega arith)) (sym (text_joined k F)))

-- the rules of s, with n for their count
unfoldable listed_with : ℕ → List Kept → List Kept → List Listed
listed_with n s ks =
    joined (below n (λ i. overlap_lists (map (λ k. k.place) s) (take_places n n (linked s)) i ++ mask_lists (get_or (map (λ k. k.place) s) i 0) (masked_by ks (get_or s i no_rule))))

listed_is : (s ks : List Kept) → listed_from s ks ≡ listed_with (length s) s ks
unfolding listed_from listed_with
listed_is s ks = refl

rule_is : (ws all os ps ts : List ℕ) (n p : ℕ) → rule_text ws all os ps ts n p ≡ overlap_text ps p (get_or ts p 0) n ++ mask_text all (get_or ps p 0) (bits (masks_in ws (get_or os p 0)) n) n
unfolding rule_text
rule_is ws all os ps ts n p = refl

with_is : (n : ℕ) (s ks : List Kept) → joined (below n (λ i. overlap_lists (map (λ k. k.place) s) (take_places n n (linked s)) i ++ mask_lists (get_or (map (λ k. k.place) s) i 0) (masked_by ks (get_or s i no_rule)))) ≡ listed_with n s ks
unfolding listed_with
with_is n s ks = refl

report_is : (ks : List Kept) → report_of ks ≡ listed_from (by_place ks) ks
unfolding report_of
report_is ks = refl

module _ (ws : List ℕ) (n : ℕ) (os : List ℕ) (long : n ≤ length os) (sorted : take n os ≡ sort_by (place_in ws) (run (λ j. j) 0 n)) (few : n ≤ max_rules) where
  abbrev Rules : List Kept
  Rules = by_place (kept_first ws n)

  abbrev Names : List ℕ
  Names = filled (named ws os) n

  abbrev Rows : List ℕ
  Rows = filled (row_word (filled (lower_word ws os) n) n) n

  abbrev Words : List ℕ
  Words = take_from n n (filled (row_word (filled (lower_word ws os) n) n) n) 18446744073709551615 (replicate max_rules 0)

  abbrev All : List ℕ
  All = filled (place_in ws) n

  abbrev At : ℕ → List Listed
  At i = overlap_lists (map (λ k. k.place) (by_place (kept_first ws n))) (take_places n n (linked (by_place (kept_first ws n)))) i ++ mask_lists (get_or (map (λ k. k.place) (by_place (kept_first ws n))) i 0) (masked_by (kept_first ws n) (get_or (by_place (kept_first ws n)) i no_rule))

  mask_at : (p : ℕ) → p < n → mask_text (filled (place_in ws) n) (get_or (filled (named ws os) n) p 0) (bits (masks_in ws (get_or os p 0)) n) n ≡ text (mask_lists (get_or (map (λ k. k.place) (by_place (kept_first ws n))) p 0) (masked_by (kept_first ws n) (get_or (by_place (kept_first ws n)) p no_rule)))
  mask_at p h =
      ap (λ z. mask_text (filled (place_in ws) n) z (bits (masks_in ws (get_or os p 0)) n) n) (named_at ws n os long sorted few p h)
      ∙ (mask_all (filled (place_in ws) n) (place_in ws) (masks_in ws (get_or os p 0)) n (get_or (map (λ k. k.place) (by_place (kept_first ws n))) p 0) few (λ q l. filled_at (place_in ws) n q l few)
      ∙ ap (λ z. text (mask_lists (get_or (map (λ (k : Kept). k.place) (by_place (kept_first ws n))) p 0) z)) (sym (ap (masked_by (kept_first ws n)) (sorted_at ws n os long sorted p h) ∙ masked_is ws n (get_or os p 0))))

  rule_at : (p : ℕ) → p < n → rule_text ws (filled (place_in ws) n) os (filled (named ws os) n) Words n p ≡ text (At p)
  rule_at p h =
      let l : p < 64 = omega arith in
      let t = live n n (linked (by_place (kept_first ws n))) Rows 18446744073709551615 (replicate max_rules 0) p (rows_held ws n os long sorted few) few h (length-replicate {A = ℕ} max_rules 0) (get_or-replicate {A = ℕ} 64 p 0 0 l) in
      rule_is ws All os Names Words n p
      ∙ (rw (overlap_all Names (map (λ k. k.place) (by_place (kept_first ws n))) (take_places n n (linked (by_place (kept_first ws n)))) n p (get_or Words p 0) few h (named_at ws n os long sorted few) t, mask_at p h)
      (sym (text_append (overlap_lists (map (λ k. k.place) (by_place (kept_first ws n))) (take_places n n (linked (by_place (kept_first ws n)))) p) (mask_lists (get_or (map (λ k. k.place) (by_place (kept_first ws n))) p 0) (masked_by (kept_first ws n) (get_or (by_place (kept_first ws n)) p no_rule))))))

  pub lists_report : lists_text ws (filled (place_in ws) n) os (filled (named ws os) n) (take_from n n (filled (row_word (filled (lower_word ws os) n) n) n) 18446744073709551615 (replicate max_rules 0)) n n ≡ text (report_of (kept_first ws n))
  lists_report =
      lists_are_text ws All os Names Words n At rule_at n (omega arith)
      ∙ ap text (with_is n (by_place (kept_first ws n)) (kept_first ws n) ∙ (ap (λ z. listed_with z (by_place (kept_first ws n)) (kept_first ws n)) (sym (sorted_length ws n os long sorted)) ∙ (sym (listed_is (by_place (kept_first ws n)) (kept_first ws n)) ∙ sym (report_is (kept_first ws n)))))
