-- One answer takes at most `most` bytes, so that half the buffer is always enough for it, and nothing is cut.
use Rattle.std.specs.declared.result.Result.TheVariants.{Err, Ok}
use Rattle.std.specs.declared.option.Option.TheVariants.{None, Some}
use Rattle.std.proofs.Common.{◌≡◌, ℕ, zero, suc, ◌+◌, ◌*◌, ◌/◌, ◌<◌, ◌≤◌, min, Bool, true, false, eqb, ltb, leb, List, [], ◌∷◌, ◌++◌, length, get_or, take, drop, refl, ap, ◌∙◌, subst, arith, length-append, ltb-false, ltb-true, eqb-true}
use mathlib.Core.Path.{subst⁻¹}
use lib.Seq.{sets, length-sets}
use borrow.Author.Tests.{eqb-false}
use Rattle.paper.specs.Answered.{Maybe}
use Rattle.paper.specs.declared.Refusal.{Refusal}
use Rattle.paper.specs.declared.Refusal.TheVariants.{Layout, Unknown, Itself, Unreachable, Hanging, Endless, TooManySites, TooManySources, TooManyFields, TooManyRules, TooManyItems, TooManyConstrained, TooManyEqual, TooManySets, TermTooHigh, UnfoldingTooLong, PlaceUsed, Repeated}
use Rattle.std.specs.Prelude.{if◌then◌else◌}
use Rattle.paper.specs.Numbers.{max_sites, done, ◌>>=◌, demand}
use Rattle.paper.specs.Classes.{Classes, no_classes, is_at, flatten_in, flattened, find, in_same_set, sweep, remove_at, remove_set_of, len, is_empty}
use Rattle.classes.specs.Answers.{over, looked, sought, joined, same, taken_by, taken_if, taken}
use Rattle.classes.specs.Called.{Looked}
use Rattle.paper.specs.Answered.{Answer}
use Rattle.class_script.specs.declared.Call.{Call}
use Rattle.class_script.specs.declared.Call.TheVariants as K
use Rattle.class_script.specs.declared.Reply.{Reply}
use Rattle.class_script.specs.declared.Reply.TheVariants as reply
use Rattle.class_script.specs.Script.{stepped, call_in}
use Rattle.tell_text.specs.Decimal.{decimal, one_digit, more_digits}
use Rattle.tell_text.specs.Written.{wrote, fits}
use Rattle.tell_reply.specs.Replies.{bool_text, found_text, linked, joined_text, looked_text, sought_text, same_text, members_text, member_text, listed_text, refusal_text, reply_text}
use Rattle.run_script.specs.declared.Place.{Place}
use Rattle.run_script.specs.Said.{lf, most, room, full, spared, InRefusal, InFound, InRange, line_text, replied, Answered, Held, Standing, Took, IsFedTo, Read, ended, fed, ReadTo, Ran, unended_text, stand, first_place, Whole}

-- ---- a number
-- under a 1 with k + 1 zeros: so many digits
ten : ℕ → ℕ
ten zero = 10
ten (suc k) = 10 * ten k

few_as : (k n : ℕ) (t : Bool) → ltb n 10 ≡ t → n < 10 * ten k → ((m : ℕ) → m < ten k → length (decimal m) ≤ suc k) → length (decimal n) ≤ suc (suc k)
few_as k n true e h f = let l = ltb-true n 10 e in rw (one_digit n l) (omega arith)
few_as k n false e h f =
    let l = ltb-false n 10 e in
    let m : n / 10 < ten k = omega arith in
    let g = f (n / 10) m in
    rw (more_digits n l, length-append) (omega arith)

few : (k n : ℕ) → n < ten k → length (decimal n) ≤ suc k
unfolding ten
few zero n h = rw (one_digit n h) (omega arith)
few (suc k) n h = few_as k n (ltb n 10) refl h (λ m l. few k m l)

pub five_digits : (n : ℕ) → n < 65536 → length (decimal n) ≤ 5
unfolding ten
five_digits n h = few 4 n (omega arith)

pub four_digits : (n : ℕ) → n ≤ max_sites → length (decimal n) ≤ 4
unfolding ten
four_digits n h = few 3 n (omega arith)

pub twenty_digits : (n : ℕ) → n < 18446744073709551616 → length (decimal n) ≤ 20
unfolding ten
twenty_digits n h = few 19 n (omega arith)

-- ---- the members of a class
last_low : (xs : List ℕ) (y i : ℕ) → get_or xs i 0 ≤ y → get_or (xs ++ (y ∷ [])) i 0 ≤ suc y
last_low [] y zero h = omega arith
last_low [] y (suc i) h = omega arith
last_low (x ∷ xs) y zero h = omega arith
last_low (x ∷ xs) y (suc i) h = last_low xs y i h

front : (xs ys : List ℕ) (i : ℕ) → i < length xs → get_or (xs ++ ys) i 0 ≡ get_or xs i 0
front [] ys i h = absurd (omega arith)
front (x ∷ xs) ys zero h = refl
front (x ∷ xs) ys (suc i) h = front xs ys i (omega arith)

module _ (p : List ℕ) (r : ℕ) where
  swept_length : (k : ℕ) → length (sweep k p r).members ≤ k
  unfolding sweep
  swept_length zero = omega arith
  swept_length (suc y) = go (is_at (flatten_in (sweep y p r).parents y).1 (Some r)) (swept_length y)
    where
      go : (t : Bool) → length (sweep y p r).members ≤ y → length (if t then (sweep y p r).members ++ (y ∷ []) else (sweep y p r).members) ≤ suc y
      go true h = rw length-append (omega arith)
      go false h = omega arith

  swept_low : (k i : ℕ) → get_or (sweep k p r).members i 0 ≤ k
  unfolding sweep
  swept_low zero i = omega arith
  swept_low (suc y) i = go (is_at (flatten_in (sweep y p r).parents y).1 (Some r)) (swept_low y i)
    where
      go : (t : Bool) → get_or (sweep y p r).members i 0 ≤ y → get_or (if t then (sweep y p r).members ++ (y ∷ []) else (sweep y p r).members) i 0 ≤ suc y
      go true h = last_low (sweep y p r).members y i h
      go false h = omega arith

-- each of the members' numbers has at most four digits, and there are at most 1,024
members_most : (ms : List ℕ) (k : ℕ) → ((i : ℕ) → i < k → get_or ms i 0 ≤ max_sites) → length (members_text ms k) ≤ 5 * k
unfolding members_text
members_most ms zero f = omega arith
members_most ms (suc k) f = rw length-append (one k (members_most ms k (λ i h. f i (omega arith))) (four_digits (get_or ms k 0) (f k (omega arith))))
  where
    one : (j : ℕ) {n : ℕ} → n ≤ 5 * k → length (decimal (get_or ms k 0)) ≤ 4 → n + length (member_text j (get_or ms k 0)) ≤ 5 * suc k
    one zero h d = omega arith
    one (suc j) h d = omega arith

listed_most : (xs m : List ℕ) → length xs ≤ max_sites → ((i : ℕ) → get_or xs i 0 ≤ max_sites) → length (listed_text (over m xs) (length xs)) ≤ 5 * max_sites
listed_most [] m l f = omega arith
listed_most (x ∷ xs) m l f =
    let ms = over m (x ∷ xs) in
    let n = min (suc (length xs)) (length ms) in
    let h = members_most ms n (λ i o. low i (omega arith)) in
    omega arith
  where
    low : (i : ℕ) → i < suc (length xs) → get_or (over m (x ∷ xs)) i 0 ≤ max_sites
    low i o = rw (front (x ∷ xs) (drop (length (x ∷ xs)) m) i o) (f i)

-- ---- an answer
refusal_most : (e : Refusal) → InRefusal e → length (refusal_text e) ≤ 15
refusal_most (Unknown x) h = let d = five_digits x h in rw length-append (omega arith)
refusal_most (Itself x) h = let d = five_digits x h in rw length-append (omega arith)
refusal_most (Layout a) h = omega arith
refusal_most (Unreachable a b) h = omega arith
refusal_most (Hanging a) h = omega arith
refusal_most (Endless a) h = omega arith
refusal_most (TooManySites a b) h = omega arith
refusal_most (TooManySources a b) h = omega arith
refusal_most (TooManyFields a b) h = omega arith
refusal_most (TooManyRules a) h = omega arith
refusal_most (TooManyItems a) h = omega arith
refusal_most (TooManyConstrained a) h = omega arith
refusal_most (TooManyEqual a) h = omega arith
refusal_most (TooManySets a) h = omega arith
refusal_most (TermTooHigh a) h = omega arith
refusal_most (UnfoldingTooLong a) h = omega arith
refusal_most (PlaceUsed a) h = omega arith
refusal_most (Repeated a) h = omega arith

found_most : (f : Maybe ℕ) → InFound f → length (found_text f) ≤ 5
found_most (Some s) h = five_digits s h
found_most None h = omega arith

linked_most : (f : Maybe ℕ) (n : ℕ) → InFound f → n < 65536 → length (linked f n) ≤ 11
linked_most (Some s) n h l = let a = five_digits s h in let b = five_digits n l in rw (length-append, length-append) (omega arith)
linked_most None n h l = omega arith

bool_most : (b : Bool) → length (bool_text b) ≤ 5
bool_most true = omega arith
bool_most false = omega arith

removed_most : (c : Classes) (f : Maybe ℕ) (m : List ℕ) → let q = remove_at c f in length (listed_text (over m q.members) (length q.members)) ≤ 5 * max_sites
removed_most c (Some r) m =
    listed_most (sweep max_sites c.parents r).members m (swept_length c.parents r max_sites) (λ i. swept_low c.parents r max_sites i)
removed_most c None m = omega arith

taken_most : (c : Classes) (m : List ℕ) (x : ℕ) (number : ℕ) → InRange (reply.Removed (taken c m x).2) → length (reply_text (taken c m x).1 number (reply.Removed (taken c m x).2)) ≤ 5 * max_sites
unfolding remove_set_of
taken_most c m x number = by (leb max_sites (length m))
  where
    go : (t : Bool) → let o = demand t (Unknown x) >>= (λ _. (let h = flattened c x in done (remove_at h.after h.found))) in
        InRange (reply.Removed (taken_by c m o).2) → length (reply_text (taken_by c m o).1 number (reply.Removed (taken_by c m o).2)) ≤ 5 * max_sites
    go true r = removed_most (flattened c x).after (flattened c x).found m
    go false r = let z = refusal_most (Unknown x) r in omega arith

    by : (t : Bool) → let o = demand (ltb x max_sites) (Unknown x) >>= (λ _. (let h = flattened c x in done (remove_at h.after h.found))) in
        InRange (reply.Removed (taken_if t c m o).2) → length (reply_text (taken_if t c m o).1 number (reply.Removed (taken_if t c m o).2)) ≤ 5 * max_sites
    by true r = go (ltb x max_sites) r
    by false r = omega arith

module _ (c : Classes) (ms : List ℕ) (number : ℕ) (n : number < 18446744073709551616) where
  abbrev Short : Classes × List ℕ × Reply → Type 0
  Short x = InRange x.2 → length (reply_text x.1 number x.2) < most

  short_joined : (j : Answer Bool) → InRange (reply.Merged j) → length (joined_text j) < most
  short_joined (Ok b) r = omega arith
  short_joined (Err e) r = let z = refusal_most e r in omega arith

  short_looked : (l : Looked) → InRange (reply.Found l) → length (looked_text l) < most
  short_looked (Ok t) r = let z = linked_most t.found t.links r.0 r.1 in omega arith
  short_looked (Err e) r = let z = refusal_most e r in omega arith

  short_sought : (s : Answer (Maybe ℕ)) → InRange (reply.FoundMut s) → length (sought_text s) < most
  short_sought (Ok f) r = let z = found_most f r in omega arith
  short_sought (Err e) r = let z = refusal_most e r in omega arith

  short_same : (s : Answer Bool) → InRange (reply.Compared s) → length (same_text s) < most
  short_same (Ok b) r = let z = bool_most b in omega arith
  short_same (Err e) r = let z = refusal_most e r in omega arith

  short_step : (k : Call) → Short (stepped c ms k)
  short_step (K.Merge x y) r = short_joined (joined c x y).1 r
  short_step (K.Find x) r = short_looked (looked (find c x)) r
  short_step (K.FindMut x) r = short_sought (sought c x).1 r
  short_step (K.SameSet x y) r = short_same (same (in_same_set c x y)) r
  short_step (K.Remove x) r = let z = taken_most c ms x number r in omega arith
  short_step K.Len r = let z = five_digits (len c) r in omega arith
  short_step K.Empty r = let z = bool_most (is_empty c) in omega arith
  short_step K.Bad r = let z = twenty_digits number n in rw length-append (omega arith)

  short_reply : (line : List ℕ) (used : ℕ) → Short (replied c ms line used)
  unfolding replied
  short_reply line used = go (ltb (length line) used)
    where
      go : (t : Bool) → Short (if t then (c, ms, reply.Bad) else stepped c ms (call_in (take used line)))
      go true = short_step K.Bad
      go false = short_step (call_in (take used line))

-- the longest answer, with its LF
pub answer_most : (c c' : Classes) (ms ms' line : List ℕ) (used number : ℕ) (r : Reply) → (c', ms', r) ≡ replied c ms line used → InRange r → number < 18446744073709551616 →
    length (line_text ms' number r) ≤ most
answer_most c c' ms ms' line used number r e i n =
    let h = short_reply c ms number n line used (subst (λ x. InRange x.2) e i) in
    let g : length (reply_text ms' number r) < most = subst⁻¹ (λ x. length (reply_text x.1 number x.2) < most) e h in
    rw length-append (omega arith)

-- so it fits
pub answer_fits : (c c' : Classes) (ms ms' line : List ℕ) (used number : ℕ) (r : Reply) → (c', ms', r) ≡ replied c ms line used → InRange r → number < 18446744073709551616 →
    (filled : ℕ) (out : List ℕ) → filled ≤ full → room ≤ length out → filled + length (line_text ms' number r) ≤ length out
answer_fits c c' ms ms' line used number r e i n filled out a b = let h = answer_most c c' ms ms' line used number r e i n in omega arith

-- ---- through a whole script
pub record Roomy (s : Standing) : Type 0 where
  pub low : s.place.filled ≤ full
  pub long : room ≤ length s.out
  pub number : s.place.line < 18446744073709551616

spared_low : (n : ℕ) → spared n ≤ full
spared_low n = go (ltb full n) refl
  where
    go : (t : Bool) → ltb full n ≡ t → (if t then 0 else n) ≤ full
    go true e = omega arith
    go false e = ltb-false full n e

took_roomy : (b : ℕ) (s u : Standing) → Took b s u → Roomy s → Roomy u
took_roomy b s u T R = go (eqb b lf) refl
  where
    ends : Answered s.classes u.classes s.members u.members s.line s.out u.out s.place u.place → Roomy u
    ends A =
        let w = A.whole R.low R.long in
        let t = line_text u.members s.place.line A.answer in
        let e : u.out ≡ sets s.out s.place.filled t = ap (λ p. p.0) (A.answers ∙ fits t s.out s.place.filled w) in
        let l : length u.out ≡ length s.out = ap length e ∙ length-sets s.out s.place.filled t in
        let m = spared_low A.end in
        let o = R.long in
        record { low = subst⁻¹ (λ (x : ℕ). x ≤ full) A.filled m; long = omega arith; number = let z = A.number in omega arith }

    holds : Held s.line u.line b s.place u.place → (u.out ≡ s.out) → Roomy u
    holds H e =
        let f = H.filled in
        let n = H.number in
        let l = R.low in
        let o = R.long in
        let k = R.number in
        record { low = omega arith; long = subst⁻¹ (λ x. room ≤ length x) e o; number = omega arith }

    go : (t : Bool) → eqb b lf ≡ t → Roomy u
    go true e = ends (T.ended (eqb-true b lf e)).0
    go false e = let h = T.held (eqb-false b lf e) in holds h.0 (ap (λ (x : Standing). x.out) h.1)

fed_roomy : (bytes : List ℕ) (i : ℕ) (s u : Standing) → IsFedTo bytes i s u → Roomy s → Roomy u
unfolding IsFedTo
fed_roomy bytes zero s u F R = rw F R
fed_roomy bytes (suc i) s u F R = took_roomy (get_or bytes i 0) F.0 u F.3 (fed_roomy bytes i s F.0 F.1 R)

read_roomy : (s u : Standing) → Read s u → Roomy s → Roomy u
read_roomy s u (ended e) R = let a = R.low in let b = R.long in let d = R.number in rw e (record { low = a; long = b; number = d })
read_roomy s u (fed chunk F) R = fed_roomy chunk F.many s u F.to R

read_to_roomy : (k : ℕ) (s u : Standing) → ReadTo k s u → Roomy s → Roomy u
unfolding ReadTo
read_to_roomy zero s u F R = rw F R
read_to_roomy (suc k) s u F R = read_roomy F.0 u F.3 (read_to_roomy k s F.0 F.1 R)

-- no answer of a script is cut: wherever it stands, what is left of the buffer is enough for the longest
pub ran_roomy : (s u : Standing) → Ran s u → Roomy s → Roomy u
ran_roomy s u X R = read_to_roomy X.many s u X.to R

pub unended_fits : (u : Standing) → Roomy u → u.place.filled + length (unended_text u.place.used u.place.line) ≤ length u.out
unfolding unended_text
unended_fits u R = go u.place.used
  where
    go : (n : ℕ) → u.place.filled + length (unended_text n u.place.line) ≤ length u.out
    go zero = let a = R.low in let b = R.long in omega arith
    go (suc n) = let a = R.low in let b = R.long in let d = twenty_digits u.place.line R.number in rw (length-append, length-append) (omega arith)

-- the whole of it, from the classes that were cleared on
pub whole_script : (c c' : Classes) (ms line out ms' line' : List ℕ) (u : List ℕ × ℕ) (q : Place) (o : List ℕ) → c ≡ no_classes →
    Ran (stand c ms line out first_place) (stand c' ms' line' o q) → u ≡ wrote (o, q.filled) (unended_text q.used q.line) →
    Whole ms line out c' ms' line' u.0
whole_script c c' ms line out ms' line' u q o e R a =
    let R' : Ran (stand no_classes ms line out first_place) (stand c' ms' line' o q) = subst (λ x. Ran (stand x ms line out first_place) (stand c' ms' line' o q)) e R in
    record {
      last = stand c' ms' line' o q;
      filled = u.1;
      ran = R';
      answers = a;
      whole = λ h. unended_fits (stand c' ms' line' o q) (ran_roomy _ _ R' (record { low = omega arith; long = h; number = omega arith }));
      classes = refl;
      members = refl;
      held = refl;
    }
