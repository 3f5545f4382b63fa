-- Laws that the functions' proofs cite.
use mathlib.Core.Path.{◌≡◌, refl, sym, ap, subst, ◌∙◌}
use mathlib.Core.Bool.{Bool, true, false}
use mathlib.Core.List.{List, [], ◌∷◌, ◌++◌, append_assoc, append-nil}
use Prim.Native.Nat.{ℕ, zero, suc, ◌+◌, ◌-◌, ◌*◌, ◌/◌, ◌≤◌, ◌<◌, max}
use native.Mathlib.Omega.{arith}
use native.Mathlib.Numerals.{add-one}
use lib.ListN.{length, get_or, take, drop, set, replicate, length-append, length-drop, length-set}
use lib.Seq.{drop-cons, take_at, take-suc-set}
use lib.Dec.{eqb, ltb, leb}
use borrow.Author.Tests.{ltb-true, ltb-false, leb-true, leb-false}
use Rattle.std.specs.declared.option.Option.TheVariants.{None, Some}
use Rattle.std.specs.Prelude.{if◌then◌else◌}
use Rattle.paper.specs.declared.Refusal.{Refusal}
use Rattle.paper.specs.Loading.{Kept}
use Rattle.paper.specs.Layout.{Lines, nothing, unended, line, lines}
use Rattle.paper.specs.Answered.{Maybe}
use Rattle.sheet_lines.specs.Ends.{line_end}
use Rattle.sheet_lines.specs.Cut.{part_of, first_there, LeftOf, open_left, line_split}
use Rattle.sheet_findings.specs.Written.{room_said}
use Rattle.std.specs.Option.{unwrap_or}
use Rattle.std.specs.List.{starts_with}
use Rattle.std.proofs.lemmas.List.{take-append-drop}
use Rattle.std.proofs.lemmas.Bool.Decides.{Decides-eqb}
use Rattle.std.proofs.lemmas.Slice.Eq.{starts_is}
use Rattle.paper.proofs.Laws.{same_list_true, same_list_refl}
use Rattle.rule_words.specs.Stored.{run, kept_in, kept_first}
use Rattle.term_table.specs.Table.{Square, cyclic_terms, listed, terms}
use Rattle.term_table.specs.declared.Listed.{Listed}
use Rattle.tell_english.specs.Said.{said}
use Rattle.tell_kept.specs.Listed.{pair_line, cyclic_line}
use Rattle.tell_text.specs.Written as texts
use Rattle.tell_text.specs.Written.{Room, with_byte, wrote, after, follows, fits, one_fits, one_past, past}
use Rattle.run_answers.specs.Told.{told_bytes, why_said, byte_of, bytes_in, finding_room, finding_in, lines_said, in_words, pairs_with, pair_lines, is_stop, last_text}

-- ---- what is left of a text
pub wrote_more : (q r F : Room) (a b c : List ℕ) → c ≡ a ++ b → wrote q c ≡ F → r ≡ wrote q a → wrote r b ≡ F
wrote_more q r F a b c e f g = ap (λ z. wrote z b) g ∙ (after q a b ∙ (ap (λ z. wrote q z) (sym e) ∙ f))

pub wrote_all : (q F : Room) (c : List ℕ) → c ≡ [] → wrote q c ≡ F → q ≡ F
wrote_all q F c e f = texts.nothing q ∙ (ap (λ z. wrote q z) (sym e) ∙ f)

-- ---- the end of a sheet
pub stop_is : (s : List ℕ) (b : Bool) → b ≡ starts_with eqb s (49 ∷ 70 ∷ []) → b ≡ is_stop s
unfolding is_stop
stop_is s b e = go b (is_stop s) refl refl
  where
    go : (x y : Bool) → b ≡ x → is_stop s ≡ y → b ≡ is_stop s
    go true true f g = f ∙ sym g
    go false false f g = f ∙ sym g
    go true false f g = let w = starts_is Decides-eqb s (49 ∷ 70 ∷ []) b e in f ∙ sym (ap is_stop (w.0 f) ∙ same_list_refl (49 ∷ 70 ∷ []))
    go false true f g =
        let w = starts_is Decides-eqb s (49 ∷ 70 ∷ []) b e in
        w.1 (drop 2 s) (sym (take-append-drop 2 s) ∙ ap (λ (z : List ℕ). z ++ drop 2 s) (same_list_true (take 2 s) (49 ∷ 70 ∷ []) g)) ∙ sym g

pub last_stop : (p q : Room) (t : Square) (found : List ℕ) (b : Bool) → b ≡ is_stop found → b ≡ true → q ≡ wrote p found → q ≡ wrote p (last_text t found)
unfolding last_text
last_stop p q t found b e f g = rw (sym e ∙ f) g

all_terms : (ts : List ℕ) (l : Listed) (s : List ℕ) → l ≡ listed ts → s ≡ part_of l.terms 0 l.count → s ≡ ts
unfolding listed
all_terms ts l s e f =
    let rest = replicate {A = ℕ} (terms - length ts) 0 in
    let n = length-append ts rest in
    f ∙ (ap (λ (x : Listed). part_of x.terms 0 x.count) e ∙ (sym (first_there (ts ++ rest) (length ts) (omega arith)) ∙ take_at ts rest (length ts) refl))

pub last_cyclic : (p q : Room) (t : Square) (found : List ℕ) (b : Bool) (l : Listed) (s : List ℕ) → b ≡ is_stop found → b ≡ false → l ≡ listed (cyclic_terms t) → s ≡ part_of l.terms 0 l.count → q ≡ wrote p (cyclic_line s) → q ≡ wrote p (last_text t found)
unfolding last_text
last_cyclic p q t found b l s e f g h k = rw (sym e ∙ f) (k ∙ ap (λ z. wrote p (cyclic_line z)) (all_terms (cyclic_terms t) l s g h))

-- ---- the bytes of a line
pub bytes_turn : (q r F : Room) (s : List ℕ) (n b : ℕ) → n < length s / 2 → b ≡ byte_of (get_or s (2 * n) 0) (get_or s (2 * n + 1) 0) → wrote q (bytes_in (drop (2 * n) s)) ≡ F
    → r ≡ wrote q (b ∷ []) → wrote r (bytes_in (drop (2 * (n + 1)) s)) ≡ F
unfolding bytes_in
bytes_turn q r F s n b h e f g =
    let i = 2 * n in
    let two_on : 2 * (n + 1) ≡ suc (i + 1) = omega arith in
    let x : drop i s ≡ get_or s i 0 ∷ drop (i + 1) s = rw add-one (drop-cons s i 0 (omega arith)) in
    let y : drop (i + 1) s ≡ get_or s (i + 1) 0 ∷ drop (2 * (n + 1)) s = rw two_on (drop-cons s (i + 1) 0 (omega arith)) in
    let z : drop i s ≡ get_or s i 0 ∷ get_or s (i + 1) 0 ∷ drop (2 * (n + 1)) s = x ∙ ap (λ t. get_or s i 0 ∷ t) y in
    let w : bytes_in (drop i s) ≡ (b ∷ []) ++ bytes_in (drop (2 * (n + 1)) s) = ap bytes_in z ∙ ap (λ t. t ∷ bytes_in (drop (2 * (n + 1)) s)) (sym e) in
    wrote_more q r F (b ∷ []) (bytes_in (drop (2 * (n + 1)) s)) (bytes_in (drop i s)) w f g

bytes_short : (s : List ℕ) → length s ≤ 1 → bytes_in s ≡ []
unfolding bytes_in
bytes_short [] h = refl
bytes_short (x ∷ []) h = refl
bytes_short (x ∷ y ∷ s) h = absurd (omega arith)

pub bytes_done : (q F : Room) (s : List ℕ) (n : ℕ) → length s / 2 ≤ n → wrote q (bytes_in (drop (2 * n) s)) ≡ F → q ≡ F
bytes_done q F s n h f = let l = length-drop (2 * n) s in wrote_all q F (bytes_in (drop (2 * n) s)) (bytes_short (drop (2 * n) s) (omega arith)) f

-- ---- what a room holds of a text
pub holds_first : (s m : List ℕ) (at : ℕ) → at ≤ length m → take (wrote (m, at) s).1 (wrote (m, at) s).0 ≡ take at m ++ take (length m - at) s
unfolding wrote
holds_first [] m at h = go (length m - at)
  where
    go : (k : ℕ) → take at m ≡ take at m ++ take k []
    go zero = sym (append-nil (take at m))
    go (suc k) = sym (append-nil (take at m))
holds_first (b ∷ s) m at h = go (ltb at (length m)) refl (holds_first s (set m at b) (suc at))
  where
    go : (t : Bool) → ltb at (length m) ≡ t → (suc at ≤ length (set m at b) → take (wrote (set m at b, suc at) s).1 (wrote (set m at b, suc at) s).0 ≡ take (suc at) (set m at b) ++ take (length (set m at b) - suc at) s) → take (wrote (with_byte (m, at) b) s).1 (wrote (with_byte (m, at) b) s).0 ≡ take at m ++ take (length m - at) (b ∷ s)
    go true e f =
        let l = ltb-true at (length m) e in
        let n : length (set m at b) ≡ length m = length-set m at b in
        let k : at + 1 ≡ suc at = omega arith in
        let d : length m - at ≡ suc (length m - suc at) = omega arith in
        rw (one_fits m at b l, k, f (omega arith), take-suc-set m at b l, n, d) (append_assoc (take at m) (b ∷ []) (take (length m - suc at) s))
    go false e f =
        let l = ltb-false at (length m) e in
        let z : length m - at ≡ 0 = omega arith in
        rw (one_past m at b l, past m at s l, z) (sym (append-nil (take at m)))

pub reached : (s m : List ℕ) (at : ℕ) → length m ≤ at + length s → (wrote (m, at) s).1 ≡ max at (length m)
unfolding wrote
reached [] m at h = omega arith
reached (b ∷ s) m at h = go (ltb at (length m)) refl (reached s (set m at b) (suc at))
  where
    go : (t : Bool) → ltb at (length m) ≡ t → (length (set m at b) ≤ suc at + length s → (wrote (set m at b, suc at) s).1 ≡ max (suc at) (length (set m at b))) → (wrote (with_byte (m, at) b) s).1 ≡ max at (length m)
    go true e f =
        let l = ltb-true at (length m) e in
        let n : length (set m at b) ≡ length m = length-set m at b in
        let k : at + 1 ≡ suc at = omega arith in
        rw (one_fits m at b l, k, f (omega arith), n) (omega arith)
    go false e f =
        let l = ltb-false at (length m) e in
        rw (one_past m at b l, past m at s l) (omega arith)

pub stays_inside : (s m : List ℕ) (at : ℕ) → at ≤ length m → (wrote (m, at) s).1 ≤ length (wrote (m, at) s).0
unfolding wrote
stays_inside [] m at h = h
stays_inside (b ∷ s) m at h = go (ltb at (length m)) refl (stays_inside s (set m at b) (suc at))
  where
    go : (t : Bool) → ltb at (length m) ≡ t → (suc at ≤ length (set m at b) → (wrote (set m at b, suc at) s).1 ≤ length (wrote (set m at b, suc at) s).0) → (wrote (with_byte (m, at) b) s).1 ≤ length (wrote (with_byte (m, at) b) s).0
    go true e f =
        let l = ltb-true at (length m) e in
        let n : length (set m at b) ≡ length m = length-set m at b in
        let k : at + 1 ≡ suc at = omega arith in
        rw (one_fits m at b l, k) (f (omega arith))
    go false e f =
        let l = ltb-false at (length m) e in
        rw (one_past m at b l, past m at s l) h

-- ---- a finding in words
first_is : (bytes bytes' s f : List ℕ) (k : ℕ) → length bytes ≡ finding_room → (bytes', k) ≡ wrote (bytes, 0) s → f ≡ part_of bytes' 0 k → f ≡ take finding_room s
first_is bytes bytes' s f k n e g =
    let i : k ≤ length bytes' = subst (λ (p : Room). p.1 ≤ length p.0) (sym e) (stays_inside s bytes 0 (omega arith)) in
    let w : take k bytes' ≡ take (length bytes - 0) s = ap (λ (p : Room). take p.1 p.0) e ∙ holds_first s bytes 0 (omega arith) in
    let d : length bytes - 0 ≡ finding_room = omega arith in
    g ∙ (sym (first_there bytes' k i) ∙ (w ∙ ap (λ (j : ℕ). take j s) d))

finding_is : (bytes bytes' l f : List ℕ) (k : ℕ) → length bytes ≡ finding_room → (bytes', k) ≡ wrote (bytes, 0) (bytes_in l) → f ≡ part_of bytes' 0 k → f ≡ finding_in l
unfolding finding_in
finding_is bytes bytes' l f k n e g = first_is bytes bytes' (bytes_in l) f k n e g

pub said_in : (m m' s : List ℕ) (at most r : ℕ) (w : Maybe ℕ) → most ≡ max at (length m) → w ≡ room_said m at s → m' ≡ (wrote (m, at) s).0 → r ≡ unwrap_or w most → (m', r) ≡ wrote (m, at) s
unfolding room_said
said_in m m' s at most r w e f g h = go (leb (at + length s) (length m)) refl
  where
    to : (t : Bool) → leb (at + length s) (length m) ≡ t → r ≡ unwrap_or (if t then Some (at + length s) else None) most
    to t q = h ∙ ap (λ (z : Maybe ℕ). unwrap_or z most) (f ∙ ap (λ (b : Bool). if b then Some (at + length s) else None) q)

    end : (t : Bool) → leb (at + length s) (length m) ≡ t → r ≡ (wrote (m, at) s).1
    end true q = to true q ∙ sym (ap (λ (p : Room). p.1) (fits s m at (leb-true (at + length s) (length m) q)))
    end false q = let l = leb-false (at + length s) (length m) q in to false q ∙ (e ∙ sym (reached s m at (omega arith)))

    go : (t : Bool) → leb (at + length s) (length m) ≡ t → (m', r) ≡ wrote (m, at) s
    go t q = ap (λ (x : List ℕ). (x, r)) g ∙ ap (λ (x : ℕ). ((wrote (m, at) s).0, x)) (end t q)

pub explained_put : (p q : Room) (bytes bytes' l f : List ℕ) (clean : Bool) (k : ℕ) → length bytes ≡ finding_room → (bytes', k) ≡ wrote (bytes, 0) (bytes_in l) → f ≡ part_of bytes' 0 k
    → q ≡ wrote p (said clean f) → q ≡ wrote p (said clean (finding_in l))
explained_put p q bytes bytes' l f clean k n e g h = h ∙ ap (λ z. wrote p (said clean z)) (finding_is bytes bytes' l f k n e g)

-- ---- a limit that is passed
pub why_put : (p q : Room) (bytes bytes' bytes'' l f : List ℕ) (x : Refusal) (k j : ℕ) → length bytes ≡ finding_room → (bytes', k) ≡ wrote (bytes, 0) (bytes_in l) → (bytes'', j) ≡ wrote (bytes', k) (told_bytes x)
    → f ≡ part_of bytes'' 0 j → q ≡ wrote p (said false f) → q ≡ wrote p (why_said x l)
unfolding why_said
why_put p q bytes bytes' bytes'' l f x k j n e h g d =
    d ∙ ap (λ z. wrote p (said false z)) (first_is bytes bytes'' (bytes_in l ++ told_bytes x) f j n (follows (bytes, 0) (bytes', k) (bytes'', j) (bytes_in l) (told_bytes x) e h) g)

-- ---- the lines of the findings
none_said : (clean : Bool) (x : Lines) (l : List ℕ) → LeftOf x l → lines_said clean x ≡ []
none_said clean nothing l h = refl
none_said clean (unended k) l h = refl
none_said clean (line k r) l h = absurd h

pub said_turn : (q r F : Room) (clean : Bool) (s l : List ℕ) (from e : ℕ) (v : Maybe ℕ) → v ≡ line_end from (drop from s) → v ≡ Some e → l ≡ part_of s from e → wrote q (in_words clean (drop from s)) ≡ F → r ≡ wrote q (said clean (finding_in l)) → wrote r (in_words clean (drop (e + 1) s)) ≡ F
unfolding in_words
said_turn q r F clean s l from e v a b p f k =
    let u : lines (drop from s) ≡ line l (lines (drop (e + 1) s)) = line_split s from e (sym a ∙ b) ∙ ap (λ z. line z (lines (drop (e + 1) s))) (sym p) in
    let w : lines_said clean (lines (drop from s)) ≡ said clean (finding_in l) ++ lines_said clean (lines (drop (e + 1) s)) = ap (lines_said clean) u in
    wrote_more q r F (said clean (finding_in l)) (lines_said clean (lines (drop (e + 1) s))) (lines_said clean (lines (drop from s))) w f k

pub said_open : (q F : Room) (clean : Bool) (s : List ℕ) (from : ℕ) (v : Maybe ℕ) → v ≡ line_end from (drop from s) → v ≡ None → wrote q (in_words clean (drop from s)) ≡ F → q ≡ F
unfolding in_words
said_open q F clean s from v a b f =
    wrote_all q F (lines_said clean (lines (drop from s))) (none_said clean (lines (drop from s)) (drop from s) (open_left s from (sym a ∙ b))) f

-- ---- pairs
run_more : {A : Type 0} (f : ℕ → A) (i k : ℕ) → i < k → run f i (k - i) ≡ f i ∷ run f (i + 1) (k - (i + 1))
unfolding run
run_more f i k h =
    let e : k - i ≡ suc (k - (i + 1)) = omega arith in
    let g : suc i ≡ i + 1 = omega arith in
    rw e (ap (λ n. f i ∷ run f n (k - (i + 1))) g)

run_none : {A : Type 0} (f : ℕ → A) (i k : ℕ) → k ≤ i → run f i (k - i) ≡ []
unfolding run
run_none f i k h = let e : k - i ≡ 0 = omega arith in rw e

pub pair_turn : (q r F : Room) (k : Kept) (ws : List ℕ) (rules j : ℕ) → j < rules → wrote q (pairs_with k (run (kept_in ws) j (rules - j))) ≡ F → r ≡ wrote q (pair_line k (kept_in ws j)) → wrote r (pairs_with k (run (kept_in ws) (j + 1) (rules - (j + 1)))) ≡ F
unfolding pairs_with
pair_turn q r F k ws rules j h f g =
    let rest = run (kept_in ws) (j + 1) (rules - (j + 1)) in
    wrote_more q r F (pair_line k (kept_in ws j)) (pairs_with k rest) (pairs_with k (run (kept_in ws) j (rules - j))) (ap (pairs_with k) (run_more (kept_in ws) j rules h)) f g

pub pair_done : (q F : Room) (k : Kept) (ws : List ℕ) (rules j : ℕ) → rules ≤ j → wrote q (pairs_with k (run (kept_in ws) j (rules - j))) ≡ F → q ≡ F
unfolding pairs_with
pair_done q F k ws rules j h f = wrote_all q F (pairs_with k (run (kept_in ws) j (rules - j))) (ap (pairs_with k) (run_none (kept_in ws) j rules h)) f

pub pairs_start : (p : Room) (ws : List ℕ) (rules : ℕ) → wrote p (pair_lines (run (kept_in ws) 0 (rules - 0))) ≡ wrote p (pair_lines (kept_first ws rules))
unfolding kept_first
pairs_start p ws rules = let e : rules - 0 ≡ rules = omega arith in ap (λ n. wrote p (pair_lines (run (kept_in ws) 0 n))) e

pub pairs_turn : (q r F : Room) (ws : List ℕ) (rules i : ℕ) → i < rules → wrote q (pair_lines (run (kept_in ws) i (rules - i))) ≡ F → r ≡ wrote q (pairs_with (kept_in ws i) (run (kept_in ws) (i + 1) (rules - (i + 1)))) → wrote r (pair_lines (run (kept_in ws) (i + 1) (rules - (i + 1)))) ≡ F
unfolding pair_lines
pairs_turn q r F ws rules i h f g =
    let rest = run (kept_in ws) (i + 1) (rules - (i + 1)) in
    wrote_more q r F (pairs_with (kept_in ws i) rest) (pair_lines rest) (pair_lines (run (kept_in ws) i (rules - i))) (ap pair_lines (run_more (kept_in ws) i rules h)) f g

pub pairs_done : (q F : Room) (ws : List ℕ) (rules i : ℕ) → rules ≤ i → wrote q (pair_lines (run (kept_in ws) i (rules - i))) ≡ F → q ≡ F
unfolding pair_lines
pairs_done q F ws rules i h f = wrote_all q F (pair_lines (run (kept_in ws) i (rules - i))) (ap pair_lines (run_none (kept_in ws) i rules h)) f
