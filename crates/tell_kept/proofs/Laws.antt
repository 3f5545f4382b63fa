-- Laws of the lines, for the functions that write them.
use mathlib.Core.Path.{◌≡◌, refl, sym, ap, ◌∙◌}
use mathlib.Core.List.{List, [], ◌∷◌, ◌++◌, append_assoc, append-nil}
use Prim.Native.Nat.{ℕ, zero, suc, ◌+◌, ◌-◌, ◌≤◌, ◌<◌}
use native.Mathlib.Omega.{arith}
use native.Mathlib.Numerals.{add-one}
use lib.ListN.{length, get_or, take, drop}
use lib.Seq.{drop-cons}
use borrow.Author.Tests.{le-ltb, eq-eqb, ne_eqb}
use Rattle.std.specs.declared.result.Result.TheVariants.{Err, Ok}
use Rattle.paper.specs.declared.Constraint.{Constraint}
use Rattle.paper.specs.declared.Constraint.TheVariants.{ConstInt}
use Rattle.paper.specs.declared.Overlap.{Overlap}
use Rattle.paper.specs.declared.Refusal.{Refusal}
use Rattle.paper.specs.Words.{two, four, eight}
use Rattle.paper.specs.Numbers.{Outcome, done, refused, number, told, max_unfolding}
use Rattle.paper.specs.Sites.{Sites, constraint_body, unfold_answer, known}
use Rattle.paper.specs.Rules.{may_overlap, total, rank}
use Rattle.paper.specs.Text.{unended, text}
use Rattle.paper.specs.Answered.{Answer}
use Rattle.sites.specs.Slots.{sites_in, unfolded_as, after_unfold}
use Rattle.sites.proofs.Places.{sites_length}
use Rattle.sites.proofs.Unfolds.{put_front}
use Rattle.sheet_digits.specs.Digits.{digits_of}
use Rattle.rule_words.specs.Packing.{narrow}
use Rattle.rule_words.specs.Stored.{kept_in, kept_at, base, run, constrained_at, equal_at, place_at, rank_at, constrained_count, equal_count}
use Rattle.tell_text.specs.Written.{Room, wrote, after, follows, nothing}
use Rattle.tell_text.specs.Decimal.{decimal}
use Rattle.sheet_digits.proofs.DigitLaws.{digits_append}
use Rattle.tell_kept.specs.Listed.{or_over, site_text, c_line, c_lines, member_text, members, class_line, classes, head_text, total_line, kept_lines, told_text, refused_line, overlap_word, pair_line, terms_text}

-- ---- one text after the other
pub chain3 : (p q r s : Room) (a b c : List ℕ) → q ≡ wrote p a → r ≡ wrote q b → s ≡ wrote r c → s ≡ wrote p (a ++ (b ++ c))
chain3 p q r s a b c e f g = follows p q s a (b ++ c) e (follows q r s b c f g)

pub chain4 : (p q r s t : Room) (a b c d : List ℕ) → q ≡ wrote p a → r ≡ wrote q b → s ≡ wrote r c → t ≡ wrote s d → t ≡ wrote p (a ++ (b ++ (c ++ d)))
chain4 p q r s t a b c d e f g h = follows p q t a (b ++ (c ++ d)) e (chain3 q r s t b c d f g h)

pub chain5 : (p q r s t u : Room) (a b c d k : List ℕ) → q ≡ wrote p a → r ≡ wrote q b → s ≡ wrote r c → t ≡ wrote s d → u ≡ wrote t k → u ≡ wrote p (a ++ (b ++ (c ++ (d ++ k))))
chain5 p q r s t u a b c d k e f g h i = follows p q u a (b ++ (c ++ (d ++ k))) e (chain4 q r s t u b c d k f g h i)

pub instead : (p q : Room) (s t : List ℕ) → s ≡ t → q ≡ wrote p s → q ≡ wrote p t
instead p q s t e f = f ∙ ap (λ z. wrote p z) e

-- ---- a site
pub far_site : (m : List ℕ) (n s : ℕ) → n < 65536 → 65535 < s → unended "OVER" ≡ site_text (sites_in m n) s
unfolding site_text unfold_answer known
far_site m n s h l = let k = sites_length m n in rw (le-ltb s (length (sites_in m n)) (omega arith))

pub over_told : (o : Outcome (List ℕ)) (u : Answer ℕ) (r : Refusal) → u ≡ unfolded_as o → u ≡ Err r → unended "OVER" ≡ or_over o
over_told (done v) u r e g = absurd (let z : ◌≡◌ {A = ℕ} 0 1 = cc in omega arith)
over_told (refused x) u r e g = refl

pub bytes_told : (o : Outcome (List ℕ)) (u : Answer ℕ) (k : ℕ) (room out : List ℕ) → u ≡ unfolded_as o → u ≡ Ok k → out ≡ after_unfold room o → digits_of (take k out) ≡ or_over o
bytes_told (done v) u k room out e g h =
    let w : k ≡ length v = cc in
    ap digits_of (rw (w, h) (put_front room v))
bytes_told (refused x) u k room out e g h = absurd (let z : ◌≡◌ {A = ℕ} 0 1 = cc in omega arith)

-- ---- a constraint
pub int_put : (p q r s : Room) (ty high low : ℕ) → q ≡ wrote p (digits_of (3 ∷ two ty)) → r ≡ wrote q (digits_of (eight high)) → s ≡ wrote r (digits_of (eight low)) → s ≡ wrote p (digits_of (constraint_body (ConstInt ty high low)))
unfolding constraint_body
int_put p q r s ty high low e f g =
    let d : digits_of ((3 ∷ two ty) ++ (eight high ++ eight low)) ≡ digits_of (3 ∷ two ty) ++ (digits_of (eight high) ++ digits_of (eight low)) = digits_append (3 ∷ two ty) (eight high ++ eight low) ∙ ap (λ z. digits_of (3 ∷ two ty) ++ z) (digits_append (eight high) (eight low)) in
    chain3 p q r s (digits_of (3 ∷ two ty)) (digits_of (eight high)) (digits_of (eight low)) e f g ∙ ap (λ z. wrote p z) (sym d)

-- ---- a list: what is left of it
run_more : {A : Type 0} (f : ℕ → A) (i k : ℕ) → i < k → run f i (k - i) ≡ f i ∷ run f (i + 1) (k - (i + 1))
unfolding run
run_more f i k h =
    let e : k - i ≡ suc (k - (i + 1)) = omega arith in
    let g : suc i ≡ i + 1 = omega arith in
    rw e (ap (λ n. f i ∷ run f n (k - (i + 1))) g)

run_none : {A : Type 0} (f : ℕ → A) (i k : ℕ) → k ≤ i → run f i (k - i) ≡ []
unfolding run
run_none f i k h = let e : k - i ≡ 0 = omega arith in rw e

module _ {A : Type 0} (w : List A → List ℕ) (one : A → List ℕ) (f : ℕ → A) (k : ℕ) where
  pub lines_turn : ((a : A) (s : List A) → w (a ∷ s) ≡ one a ++ w s) → (p q r : Room) (i : ℕ) → i < k → wrote q (w (run f i (k - i))) ≡ wrote p (w (run f 0 k)) → r ≡ wrote q (one (f i)) → wrote r (w (run f (i + 1) (k - (i + 1)))) ≡ wrote p (w (run f 0 k))
  lines_turn c p q r i h e g =
      let rest = run f (i + 1) (k - (i + 1)) in
      ap (λ z. wrote z (w rest)) g ∙ (after q (one (f i)) (w rest) ∙ (ap (λ z. wrote q z) (sym (ap w (run_more f i k h) ∙ c (f i) rest)) ∙ e))

  pub lines_done : w [] ≡ [] → (p q : Room) (i : ℕ) → k ≤ i → wrote q (w (run f i (k - i))) ≡ wrote p (w (run f 0 k)) → q ≡ wrote p (w (run f 0 k))
  lines_done c p q i h e = nothing q ∙ (ap (λ z. wrote q z) (sym (ap w (run_none f i k h) ∙ c)) ∙ e)

-- ---- constrained sites
pub c_put : (p q r s t u : Room) (m : Sites) (ws : List ℕ) (b k x : ℕ) (c : Constraint) → x ≡ (constrained_at ws b k).0 → c ≡ narrow (constrained_at ws b k).1
    → q ≡ wrote p (unended " c ") → r ≡ wrote q (site_text m x) → s ≡ wrote r (unended " ") → t ≡ wrote s (digits_of (constraint_body c)) → u ≡ wrote t (10 ∷ [])
    → u ≡ wrote p (c_line m (constrained_at ws b k).0 (constrained_at ws b k).1)
unfolding c_line
c_put p q r s t u m ws b k x c ex ec e f g h i =
    chain5 p q r s t u (unended " c ") (site_text m (constrained_at ws b k).0) (unended " ") (digits_of (constraint_body (narrow (constrained_at ws b k).1))) (10 ∷ [])
    e (f ∙ ap (λ z. wrote q (site_text m z)) ex) g (h ∙ ap (λ z. wrote s (digits_of (constraint_body z))) ec) i

c_cons : (m : Sites) (a : ℕ × Constraint) (s : List (ℕ × Constraint)) → c_lines m (a ∷ s) ≡ c_line m a.0 a.1 ++ c_lines m s
unfolding c_lines
c_cons m a s = refl

pub c_turn : (p q r : Room) (m : Sites) (ws : List ℕ) (b k i : ℕ) → i < k → wrote q (c_lines m (run (constrained_at ws b) i (k - i))) ≡ wrote p (c_lines m (run (constrained_at ws b) 0 k)) → r ≡ wrote q (c_line m (constrained_at ws b i).0 (constrained_at ws b i).1) → wrote r (c_lines m (run (constrained_at ws b) (i + 1) (k - (i + 1)))) ≡ wrote p (c_lines m (run (constrained_at ws b) 0 k))
c_turn p q r m ws b k i = lines_turn (c_lines m) (λ x. c_line m x.0 x.1) (constrained_at ws b) k (c_cons m) p q r i

pub c_done : (p q : Room) (m : Sites) (ws : List ℕ) (b k i : ℕ) → k ≤ i → wrote q (c_lines m (run (constrained_at ws b) i (k - i))) ≡ wrote p (c_lines m (run (constrained_at ws b) 0 k)) → q ≡ wrote p (c_lines m (run (constrained_at ws b) 0 k))
unfolding c_lines
c_done p q m ws b k i = lines_done (c_lines m) (λ x. c_line m x.0 x.1) (constrained_at ws b) k refl p q i

-- ---- equal sites
pub no_member : (p : Room) (m : Sites) (low s l x : ℕ) → x ≡ l → (x ≡ low → ⊥) → p ≡ wrote p (member_text m low s l)
unfolding member_text
no_member p m low s l x e h = rw (ne_eqb l low (λ g. h (e ∙ g))) (nothing p)

pub member_put : (p q r : Room) (m : Sites) (low s l x y : ℕ) → x ≡ l → x ≡ low → y ≡ s → q ≡ wrote p (unended " ") → r ≡ wrote q (site_text m y) → r ≡ wrote p (member_text m low s l)
unfolding member_text
member_put p q r m low s l x y e g k f h = rw (eq-eqb l low (sym e ∙ g)) (follows p q r (unended " ") (site_text m s) f (h ∙ ap (λ z. wrote q (site_text m z)) k))

member_cons : (m : Sites) (low : ℕ) (a : ℕ × ℕ) (s : List (ℕ × ℕ)) → members m low (a ∷ s) ≡ member_text m low a.0 a.1 ++ members m low s
unfolding members
member_cons m low a s = refl

pub member_turn : (p q r : Room) (m : Sites) (low : ℕ) (ws : List ℕ) (b k i : ℕ) → i < k → wrote q (members m low (run (equal_at ws b) i (k - i))) ≡ wrote p (members m low (run (equal_at ws b) 0 k)) → r ≡ wrote q (member_text m low (equal_at ws b i).0 (equal_at ws b i).1) → wrote r (members m low (run (equal_at ws b) (i + 1) (k - (i + 1)))) ≡ wrote p (members m low (run (equal_at ws b) 0 k))
member_turn p q r m low ws b k i = lines_turn (members m low) (λ x. member_text m low x.0 x.1) (equal_at ws b) k (member_cons m low) p q r i

pub member_done : (p q : Room) (m : Sites) (low : ℕ) (ws : List ℕ) (b k i : ℕ) → k ≤ i → wrote q (members m low (run (equal_at ws b) i (k - i))) ≡ wrote p (members m low (run (equal_at ws b) 0 k)) → q ≡ wrote p (members m low (run (equal_at ws b) 0 k))
unfolding members
member_done p q m low ws b k i = lines_done (members m low) (λ x. member_text m low x.0 x.1) (equal_at ws b) k refl p q i

pub no_class : (p : Room) (m : Sites) (all : List (ℕ × ℕ)) (s l x y : ℕ) → x ≡ l → y ≡ s → (y ≡ x → ⊥) → p ≡ wrote p (class_line m all s l)
unfolding class_line
no_class p m all s l x y e g h = rw (ne_eqb s l (λ f. h (g ∙ (f ∙ sym e)))) (nothing p)

pub class_put : (p q r t : Room) (m : Sites) (all : List (ℕ × ℕ)) (s l x y : ℕ) → x ≡ l → y ≡ s → y ≡ x → q ≡ wrote p (unended " e") → r ≡ wrote q (members m x all) → t ≡ wrote r (10 ∷ []) → t ≡ wrote p (class_line m all s l)
unfolding class_line
class_put p q r t m all s l x y e g k a b c = rw (eq-eqb s l (sym g ∙ (k ∙ e))) (chain3 p q r t (unended " e") (members m l all) (10 ∷ []) a (b ∙ ap (λ z. wrote q (members m z all)) e) c)

class_cons : (m : Sites) (all : List (ℕ × ℕ)) (a : ℕ × ℕ) (s : List (ℕ × ℕ)) → classes m all (a ∷ s) ≡ class_line m all a.0 a.1 ++ classes m all s
unfolding classes
class_cons m all a s = refl

pub class_turn : (p q r : Room) (m : Sites) (all : List (ℕ × ℕ)) (ws : List ℕ) (b k i : ℕ) → i < k → wrote q (classes m all (run (equal_at ws b) i (k - i))) ≡ wrote p (classes m all (run (equal_at ws b) 0 k)) → r ≡ wrote q (class_line m all (equal_at ws b i).0 (equal_at ws b i).1) → wrote r (classes m all (run (equal_at ws b) (i + 1) (k - (i + 1)))) ≡ wrote p (classes m all (run (equal_at ws b) 0 k))
class_turn p q r m all ws b k i = lines_turn (classes m all) (λ x. class_line m all x.0 x.1) (equal_at ws b) k (class_cons m all) p q r i

pub class_done : (p q : Room) (m : Sites) (all : List (ℕ × ℕ)) (ws : List ℕ) (b k i : ℕ) → k ≤ i → wrote q (classes m all (run (equal_at ws b) i (k - i))) ≡ wrote p (classes m all (run (equal_at ws b) 0 k)) → q ≡ wrote p (classes m all (run (equal_at ws b) 0 k))
unfolding classes
class_done p q m all ws b k i = lines_done (classes m all) (λ x. class_line m all x.0 x.1) (equal_at ws b) k refl p q i

-- ---- terms
pub term_turn : (p q r : Room) (ts : List ℕ) (i : ℕ) → i < length ts → wrote q (terms_text (drop i ts)) ≡ wrote p (terms_text ts) → r ≡ wrote q (terms_text (get_or ts i 0 ∷ [])) → wrote r (terms_text (drop (i + 1) ts)) ≡ wrote p (terms_text ts)
unfolding terms_text
term_turn p q r ts i h e g =
    let one = unended " " ++ digits_of (two (get_or ts i 0)) in
    let d : drop i ts ≡ get_or ts i 0 ∷ drop (i + 1) ts = rw add-one (drop-cons ts i 0 h) in
    let n : one ++ [] ≡ one = append_none one in
    let t : one ++ terms_text (drop (i + 1) ts) ≡ terms_text (drop i ts) = rw d in
    ap (λ z. wrote z (terms_text (drop (i + 1) ts))) (g ∙ ap (λ z. wrote q z) n) ∙ (after q one (terms_text (drop (i + 1) ts)) ∙ (ap (λ z. wrote q z) t ∙ e))
  where
    append_none : (s : List ℕ) → s ++ [] ≡ s
    append_none [] = refl
    append_none (x ∷ s) = ap (λ t. x ∷ t) (append_none s)

pub term_done : (p q : Room) (ts : List ℕ) (i : ℕ) → length ts ≤ i → wrote q (terms_text (drop i ts)) ≡ wrote p (terms_text ts) → q ≡ wrote p (terms_text ts)
unfolding terms_text
term_done p q ts i h e = nothing q ∙ (ap (λ z. wrote q (terms_text z)) (sym (drop_all ts i h)) ∙ e)
  where
    drop_all : (s : List ℕ) (i : ℕ) → length s ≤ i → drop i s ≡ []
    drop_all [] zero h = refl
    drop_all [] (suc i) h = refl
    drop_all (x ∷ s) zero h = absurd (omega arith)
    drop_all (x ∷ s) (suc i) h = drop_all s i (omega arith)

-- ---- two rules
pub pair_put : (p q r s t u : Room) (ws : List ℕ) (i j a b x y : ℕ) (o : Overlap) → a ≡ base i → x ≡ place_at ws a → b ≡ base j → y ≡ place_at ws b → o ≡ may_overlap (kept_in ws i) (kept_in ws j) → q ≡ wrote p (unended "pair ") → r ≡ wrote q (digits_of (four x)) → s ≡ wrote r (unended " ") → t ≡ wrote s (digits_of (four y)) → u ≡ wrote t (overlap_word o) → u ≡ wrote p (pair_line (kept_in ws i) (kept_in ws j))
unfolding pair_line kept_in kept_at
pair_put p q r s t u ws i j a b x y o ea ex eb ey eo e f g h k =
    let fx : x ≡ place_at ws (base i) = ex ∙ ap (place_at ws) ea in
    let fy : y ≡ place_at ws (base j) = ey ∙ ap (place_at ws) eb in
    chain5 p q r s t u (unended "pair ") (digits_of (four (place_at ws (base i)))) (unended " ") (digits_of (four (place_at ws (base j)))) (overlap_word (may_overlap (kept_in ws i) (kept_in ws j)))
    e (f ∙ ap (λ z. wrote q (digits_of (four z))) fx) g (h ∙ ap (λ z. wrote s (digits_of (four z))) fy) (k ∙ ap (λ z. wrote t (overlap_word z)) eo)

-- ---- a kept rule
pub kept_put : (p q r s t u : Room) (m : Sites) (ws : List ℕ) (i b x v pr n k tot : ℕ) → b ≡ base i → x ≡ place_at ws b → v ≡ rank_at ws b → pr ≡ rank v → n ≡ constrained_count ws b → k ≡ equal_count ws b → tot ≡ total (kept_in ws i) → q ≡ wrote p (head_text x pr) → r ≡ wrote q (text " kept") → s ≡ wrote r (c_lines m (run (constrained_at ws b) 0 n)) → t ≡ wrote s (classes m (run (equal_at ws b) 0 k) (run (equal_at ws b) 0 k)) → u ≡ wrote t (total_line tot) → u ≡ wrote p (kept_lines m (kept_in ws i))
unfolding kept_lines kept_in kept_at
kept_put p q r s t u m ws i b x v pr n k tot eb ex ev ep en ek et e f g h l =
    let a = base i in
    let fx : x ≡ place_at ws a = ex ∙ ap (place_at ws) eb in
    let fp : pr ≡ rank (get_or ws (a + 1) 0) = ep ∙ (ap rank ev ∙ ap (λ z. rank (get_or ws (z + 1) 0)) eb) in
    let fn : n ≡ constrained_count ws a = en ∙ ap (λ z. constrained_count ws z) eb in
    let fk : k ≡ equal_count ws a = ek ∙ ap (λ z. equal_count ws z) eb in
    let es = run (equal_at ws a) 0 (equal_count ws a) in
    let fe : run (equal_at ws b) 0 k ≡ es = rw (eb, fk) in
    let fc : run (constrained_at ws b) 0 n ≡ run (constrained_at ws a) 0 (constrained_count ws a) = rw (eb, fn) in
    chain5 p q r s t u (head_text (place_at ws a) (rank (get_or ws (a + 1) 0))) (text " kept") (c_lines m (run (constrained_at ws a) 0 (constrained_count ws a))) (classes m es es) (total_line (total (kept_in ws i)))
    (rw (fx, fp) at e) f (g ∙ ap (λ z. wrote r (c_lines m z)) fc) (h ∙ ap (λ z. wrote s (classes m z z)) fe) (l ∙ ap (λ z. wrote t (total_line z)) et)

-- ---- a site, unfolded
pub site_over : (t : Sites) (s l : ℕ) (u : Answer ℕ) (r : Refusal) → l ≡ max_unfolding → u ≡ unfolded_as (unfold_answer t l s) → u ≡ Err r → unended "OVER" ≡ site_text t s
unfolding site_text
site_over t s l u r e f g = over_told (unfold_answer t max_unfolding s) u r (f ∙ ap (λ z. unfolded_as (unfold_answer t z s)) e) g

pub site_bytes : (t : Sites) (s l : ℕ) (u : Answer ℕ) (k : ℕ) (room out : List ℕ) → l ≡ max_unfolding → u ≡ unfolded_as (unfold_answer t l s) → u ≡ Ok k → out ≡ after_unfold room (unfold_answer t l s) → digits_of (take k out) ≡ site_text t s
unfolding site_text
site_bytes t s l u k room out e f g h = bytes_told (unfold_answer t max_unfolding s) u k room out (f ∙ ap (λ z. unfolded_as (unfold_answer t z s)) e) g (h ∙ ap (λ z. after_unfold room (unfold_answer t z s)) e)

-- ---- a term
pub term_put : (p q r : Room) (t : ℕ) → q ≡ wrote p (unended " ") → r ≡ wrote q (digits_of (two t)) → r ≡ wrote p (terms_text (t ∷ []))
unfolding terms_text
term_put p q r t e f = follows p q r (unended " ") (digits_of (two t)) e f ∙ ap (λ z. wrote p z) (sym (append_none (unended " " ++ digits_of (two t))))
  where
    append_none : (s : List ℕ) → s ++ [] ≡ s
    append_none [] = refl
    append_none (x ∷ s) = ap (λ t. x ∷ t) (append_none s)

-- ---- what is told with a refusal
pub one_put : (p q r : Room) (n : ℕ) → q ≡ wrote p (unended " ") → r ≡ wrote q (decimal n) → r ≡ wrote p (told_text (n ∷ []))
unfolding told_text
one_put p q r n e f = chain3 p q r r (unended " ") (decimal n) [] e f (nothing r)

pub both_put : (p q r : Room) (n o : ℕ) → q ≡ wrote p (told_text (n ∷ [])) → r ≡ wrote q (told_text (o ∷ [])) → r ≡ wrote p (told_text (n ∷ o ∷ []))
unfolding told_text
both_put p q r n o e f = follows p q r (told_text (n ∷ [])) (told_text (o ∷ [])) e f ∙ ap (λ z. wrote p z) (joined (unended " ") (decimal n) (told_text (o ∷ [])))
  where
    joined : (a b c : List ℕ) → (a ++ (b ++ [])) ++ c ≡ a ++ (b ++ c)
    joined a b c = simp (append_assoc, append-nil)

pub refused_put : (p q r s t u : Room) (place priority n : ℕ) (x : Refusal) → n ≡ number x → q ≡ wrote p (head_text place priority) → r ≡ wrote q (unended " refused ") → s ≡ wrote r (decimal n) → t ≡ wrote s (told_text (told x)) → u ≡ wrote t (10 ∷ []) → u ≡ wrote p (refused_line place priority x)
unfolding refused_line
refused_put p q r s t u place priority n x en e f g h k = chain5 p q r s t u (head_text place priority) (unended " refused ") (decimal (number x)) (told_text (told x)) (10 ∷ []) e f (g ∙ ap (λ z. wrote r (decimal z)) en) h k
