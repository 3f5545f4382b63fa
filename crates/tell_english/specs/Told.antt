-- The frames that a sheet is answered with are told apart, and their numbers are the ones that were found.
use Rattle.std.specs.Prelude.{◌≡◌, refl, Bool, List, [], ◌∷◌, ◌++◌, map, ℕ, suc, ◌+◌, ◌-◌, ◌*◌, ◌/◌, ◌%◌, ◌<◌, length}
use Rattle.std.proofs.Common.{sym, ap, ◌∙◌, append_assoc, arith, length-append}
use Rattle.paper.specs.declared.Refusal.{Refusal}
use Rattle.paper.specs.Words.{two, four, joined}
use Rattle.paper.specs.Numbers.{number}
use Rattle.paper.specs.Rules.{overlap, mask}
use Rattle.paper.specs.Sheets.{refusal_found, listed_found, term_found, stop_found}
use Rattle.tell_text.specs.Decimal.{decimal}
use Rattle.sheet_findings.specs.Written.{ended_found}
use Rattle.tell_parts.specs.Parts.{two_at, four_at, separator, rest, places, filled}
use Rattle.tell_english.specs.Shapes.{refusal, shape_of}
use Rattle.tell_english.specs.Words.{calls_itself}
use Rattle.tell_english.specs.Said.{refused_words, stopped_words, limit_words, stop_limit_words, ended_words, explained}

four_bytes : (n : ℕ) → n < 4294967296 → (n / 256 / 256 / 256 * 256 + n / 256 / 256 % 256) * 65536 + (n / 256 % 256 * 256 + n % 256) ≡ n
four_bytes n h = omega arith

two_bytes : (n : ℕ) → n / 256 * 256 + n % 256 ≡ n
two_bytes n = omega arith

-- an 11: the words of its number, its place
pub refusal_told : (clean : Bool) (place : ℕ) (r : Refusal)
    → explained clean (refusal_found place r) ≡ filled (refusal_found place r) (refused_words (number r))
unfolding explained refusal_found four shape_of refusal
refusal_told clean place r = refl

pub refusal_place : (place : ℕ) (r : Refusal) → place < 4294967296 → four_at (refusal_found place r) 1 ≡ place
unfolding refusal_found four four_at two_at
refusal_place place r h = four_bytes place h

-- a 1F: the words of its number, its line
pub stop_told : (clean : Bool) (line : ℕ) (r : Refusal) → explained clean (stop_found line r) ≡ filled (stop_found line r) (stopped_words (number r))
unfolding explained stop_found four shape_of refusal
stop_told clean line r = refl

pub stop_line : (line : ℕ) (r : Refusal) → line < 4294967296 → four_at (stop_found line r) 1 ≡ line
unfolding stop_found four four_at two_at
stop_line line r h = four_bytes line h

-- a limit: the words of its number, the number that was asked for, and who asked
pub limit_told : (clean : Bool) (place : ℕ) (r : Refusal) (asked at : ℕ) → let f = refusal_found place r ++ (four asked ++ four at) in
    explained clean f ≡ filled f (limit_words (number r))
unfolding explained refusal_found four shape_of refusal
limit_told clean place r asked at = refl

pub stop_limit_told : (clean : Bool) (line : ℕ) (r : Refusal) (asked at : ℕ) → let f = stop_found line r ++ (four asked ++ four at) in
    explained clean f ≡ filled f (stop_limit_words (number r))
unfolding explained stop_found four shape_of refusal
stop_limit_told clean line r asked at = refl

pub limit_asked : (place : ℕ) (r : Refusal) (asked at : ℕ) → asked < 4294967296 → at < 4294967296
    → (four_at (refusal_found place r ++ (four asked ++ four at)) 6 ≡ asked) × (four_at (refusal_found place r ++ (four asked ++ four at)) 10 ≡ at)
unfolding refusal_found four four_at two_at
limit_asked place r asked at h k = (four_bytes asked h, four_bytes at k)

pub stop_asked : (line : ℕ) (r : Refusal) (asked at : ℕ) → asked < 4294967296 → at < 4294967296
    → (four_at (stop_found line r ++ (four asked ++ four at)) 6 ≡ asked) × (four_at (stop_found line r ++ (four asked ++ four at)) 10 ≡ at)
unfolding stop_found four four_at two_at
stop_asked line r asked at h k = (four_bytes asked h, four_bytes at k)

-- a 14 and a 15
pub term_told : (clean : Bool) (t : ℕ) → (explained clean (term_found t) ≡ filled (term_found t) calls_itself) × (two_at (term_found t) 1 ≡ t)
unfolding explained term_found two shape_of two_at
term_told clean t = (refl, two_bytes t)

pub end_told : (clean : Bool) (sets kept : ℕ)
    → (explained clean (ended_found sets kept) ≡ filled (ended_found sets kept) (ended_words clean))
    × (two_at (ended_found sets kept) 1 ≡ sets)
    × (two_at (ended_found sets kept) 3 ≡ kept)
unfolding explained ended_found two shape_of two_at
end_told clean sets kept = (refl, two_bytes sets, two_bytes kept)

-- a 12 and a 13: the place that stands first
pub overlap_place : (p : ℕ) (ns : List ℕ) → p < 4294967296 → four_at (listed_found (overlap p ns)) 3 ≡ p
unfolding listed_found two four joined four_at two_at
overlap_place p ns h = four_bytes p h

pub mask_place : (p : ℕ) (ns : List ℕ) → p < 4294967296 → four_at (listed_found (mask p ns)) 1 ≡ p
unfolding listed_found four four_at two_at
mask_place p ns h = four_bytes p h

-- ---- a list of places: "30, 10 and 20"
abbrev pub and_rest : List ℕ → List ℕ
and_rest [] = []
and_rest (n ∷ ns) = (separator (length ns) ++ decimal n) ++ and_rest ns

abbrev pub and_list : List ℕ → List ℕ
and_list [] = []
and_list (n ∷ ns) = decimal n ++ and_rest ns

abbrev pub Places : List ℕ → Type 0
Places [] = Unit {0}
Places (n ∷ ns) = (n < 4294967296) × Places ns

-- the numbers that stand behind a head
four_shifted : (x : ℕ) (f : List ℕ) (i : ℕ) → four_at (x ∷ f) (suc i) ≡ four_at f i
unfolding four_at two_at
four_shifted x f i =
    let a : suc i + 1 ≡ suc (i + 1) = omega arith in
    let b : suc i + 2 ≡ suc (i + 2) = omega arith in
    let d : suc (i + 2) + 1 ≡ suc (i + 2 + 1) = omega arith in
    rw (a, b, d)

four_behind : (h : List ℕ) (n : ℕ) (s : List ℕ) → n < 4294967296 → four_at (h ++ (four n ++ s)) (length h) ≡ n
unfolding four_at two_at four
four_behind [] n s l = four_bytes n l
four_behind (x ∷ h) n s l = four_shifted x (h ++ (four n ++ s)) (length h) ∙ four_behind h n s l

four_long : (h : List ℕ) (n : ℕ) → length (h ++ four n) ≡ length h + 4
unfolding four
four_long h n = length-append h (four n)

pub rest_behind : (h ns : List ℕ) → Places ns → rest (h ++ joined (map four ns)) (length h) (length ns) ≡ and_rest ns
unfolding rest joined
rest_behind h [] p = refl
rest_behind h (n ∷ ns) p =
    let s = joined (map four ns) in
    let i : rest ((h ++ four n) ++ s) (length (h ++ four n)) (length ns) ≡ and_rest ns = rest_behind (h ++ four n) ns p.1 in
    let j : rest (h ++ (four n ++ s)) (length h + 4) (length ns) ≡ and_rest ns = rw (append_assoc, four_long h n) at i in
    rw (four_behind h n s p.0, j)

fours : (ns : List ℕ) → length (joined (map four ns)) ≡ length ns * 4
unfolding joined four
fours [] = refl
fours (n ∷ ns) = let i = fours ns in omega arith

-- behind a head of seven bytes
places_behind : (h : List ℕ) (n : ℕ) (ns : List ℕ) → length h ≡ 7 → Places (n ∷ ns)
    → places (h ++ (four n ++ joined (map four ns))) ≡ and_list (n ∷ ns)
unfolding places
places_behind h n ns e p =
    let s = joined (map four ns) in
    let a : four_at (h ++ (four n ++ s)) 7 ≡ n = rw e at (four_behind h n s p.0) in
    let i : rest ((h ++ four n) ++ s) (length (h ++ four n)) (length ns) ≡ and_rest ns = rest_behind (h ++ four n) ns p.1 in
    let k : length (h ++ four n) ≡ 11 = four_long h n ∙ ap (λ (m : ℕ). m + 4) e in
    let j : rest (h ++ (four n ++ s)) 11 (length ns) ≡ and_rest ns = rw (k, append_assoc) at i in
    let l : length (h ++ (four n ++ s)) ≡ 11 + length ns * 4 =
    sym (ap length (append_assoc h (four n) s)) ∙ (length-append (h ++ four n) s ∙ rw (k, fours ns)) in
    let c : (length (h ++ (four n ++ s)) - 11) / 4 ≡ length ns = omega arith in
    rw (c, a, j)

-- the places that a mask hides, and those that overlap with the first, are the ones that are named
pub masked_places : (p n : ℕ) (ns : List ℕ) → Places (n ∷ ns) → places (listed_found (mask p (n ∷ ns))) ≡ and_list (n ∷ ns)
unfolding listed_found joined four two
masked_places p n ns l =
    let h : List ℕ = 19 ∷ (four p ++ two (length (n ∷ ns))) in
    places_behind h n ns refl l

pub overlapping_places : (p n : ℕ) (ns : List ℕ) → Places (n ∷ ns) → places (listed_found (overlap p (n ∷ ns))) ≡ and_list (n ∷ ns)
unfolding listed_found joined four two
overlapping_places p n ns l =
    let h : List ℕ = 18 ∷ (two (length (p ∷ n ∷ ns)) ++ four p) in
    places_behind h n ns refl l
