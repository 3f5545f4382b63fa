-- What is written is read back, and the other rules stay.
use mathlib.Core.Path.{◌≡◌, refl, ap, ◌∙◌}
use mathlib.Core.Bool.{Bool, true, false}
use mathlib.Core.List.{List}
use Prim.Native.Nat.{ℕ, zero, suc, ◌+◌, ◌*◌, ◌%◌, ◌≤◌, ◌<◌}
use native.Mathlib.Omega.{arith}
use native.Mathlib.Decide.{ℕ_discrete, dec_lt}
use lib.ListN.{length, get_or, set, length-set}
use lib.Seq.{get_or-set_same, get_or-set_other}
use borrow.Author.Tests.{leb-true}
use Rattle.paper.specs.Numbers.{max_constrained, max_equal}
use Rattle.paper.specs.Rules.{rank}
use Rattle.paper.proofs.Lists.{and_both}
use Rattle.rule_words.specs.Packing.{unpack}
use Rattle.rule_words.specs.Stored.{first_constrained, first_equal, stride, constrained_word, equal_word, run, base, place_at, rank_at, count_at, constrained_count, equal_count, constraint_at, constrained_at, equal_at, kept_at, kept_in, put_two, put_four, put_constrained, put_equal, put_rule, fits_in, written, handed}
use Rattle.rule_words.proofs.CountLaws.{rank_rank}

-- ---- four words, two words
pub record Four (ws : List ℕ) (p a b c d : ℕ) : Type 0 where
  pub one : get_or ws p 0 ≡ a
  pub two : get_or ws (p + 1) 0 ≡ b
  pub three : get_or ws (p + 2) 0 ≡ c
  pub four : get_or ws (p + 3) 0 ≡ d

pub record Two (ws : List ℕ) (p a b : ℕ) : Type 0 where
  pub one : get_or ws p 0 ≡ a
  pub two : get_or ws (p + 1) 0 ≡ b

-- outside of p .. p + k - 1
data Out (q p k : ℕ) : Type 0 where
  under : q < p → Out q p k
  over : p + k ≤ q → Out q p k

not_at : (q p k j : ℕ) → Out q p k → j < k → q ≡ p + j → ⊥
not_at q p k j (under h) l e = omega arith
not_at q p k j (over h) l e = omega arith

module _ (ws : List ℕ) (p a b c d : ℕ) where
  abbrev s1 : List ℕ
  s1 = set ws p a

  abbrev s2 : List ℕ
  s2 = set s1 (p + 1) b

  abbrev s3 : List ℕ
  s3 = set s2 (p + 2) c

  four_length : length (put_four ws p a b c d) ≡ length ws
  unfolding put_four
  four_length = simp length-set

  four_out : (q : ℕ) → Out q p 4 → get_or (put_four ws p a b c d) q 0 ≡ get_or ws q 0
  unfolding put_four
  four_out q o =
      get_or-set_other s3 (p + 3) q d 0 (not_at q p 4 3 o (omega arith))
      ∙ (get_or-set_other s2 (p + 2) q c 0 (not_at q p 4 2 o (omega arith))
      ∙ (get_or-set_other s1 (p + 1) q b 0 (not_at q p 4 1 o (omega arith))
      ∙ get_or-set_other ws p q a 0 (λ e. not_at q p 4 0 o (omega arith) (omega arith))))

  four_there : p + 4 ≤ length ws → Four (put_four ws p a b c d) p a b c d
  unfolding put_four
  four_there l = record {
    one = get_or-set_other s3 (p + 3) p d 0 (λ e. omega arith) ∙ (get_or-set_other s2 (p + 2) p c 0 (λ e. omega arith) ∙ (get_or-set_other s1 (p + 1) p b 0 (λ e. omega arith) ∙ get_or-set_same ws p a 0 (omega arith)));
    two = get_or-set_other s3 (p + 3) (p + 1) d 0 (λ e. omega arith) ∙ (get_or-set_other s2 (p + 2) (p + 1) c 0 (λ e. omega arith) ∙ get_or-set_same s1 (p + 1) b 0 (simp length-set (omega arith)));
    three = get_or-set_other s3 (p + 3) (p + 2) d 0 (λ e. omega arith) ∙ get_or-set_same s2 (p + 2) c 0 (simp length-set (omega arith));
    four = get_or-set_same s3 (p + 3) d 0 (simp length-set (omega arith));
  }

module _ (ws : List ℕ) (p a b : ℕ) where
  two_length : length (put_two ws p a b) ≡ length ws
  unfolding put_two
  two_length = simp length-set

  two_out : (q : ℕ) → Out q p 2 → get_or (put_two ws p a b) q 0 ≡ get_or ws q 0
  unfolding put_two
  two_out q o =
      get_or-set_other (set ws p a) (p + 1) q b 0 (not_at q p 2 1 o (omega arith))
      ∙ get_or-set_other ws p q a 0 (λ e. not_at q p 2 0 o (omega arith) (omega arith))

  two_there : p + 2 ≤ length ws → Two (put_two ws p a b) p a b
  unfolding put_two
  two_there l = record {
    one = get_or-set_other (set ws p a) (p + 1) p b 0 (λ e. omega arith) ∙ get_or-set_same ws p a 0 (omega arith);
    two = get_or-set_same (set ws p a) (p + 1) b 0 (simp length-set (omega arith));
  }

-- ---- the sites
module _ (ws : List ℕ) (b : ℕ) (ss sh : List ℕ) where
  pub constrained_length : (k : ℕ) → length (put_constrained ws b ss sh k) ≡ length ws
  unfolding put_constrained
  constrained_length zero = refl
  constrained_length (suc k) = four_length _ _ _ _ _ _ ∙ constrained_length k

  constrained_out : (k q : ℕ) → Out q (b + first_constrained) (4 * k) → get_or (put_constrained ws b ss sh k) q 0 ≡ get_or ws q 0
  unfolding put_constrained
  constrained_out zero q o = refl
  constrained_out (suc k) q (under h) = four_out _ _ _ _ _ _ q (under (omega arith)) ∙ constrained_out k q (under h)
  constrained_out (suc k) q (over h) = four_out _ _ _ _ _ _ q (over (omega arith)) ∙ constrained_out k q (over (omega arith))

  abbrev Site : List ℕ → ℕ → Type 0
  Site xs j = Four xs (constrained_word b j) (get_or ss j 0) (get_or sh (3 * j) 0) (get_or sh (3 * j + 1) 0) (get_or sh (3 * j + 2) 0)

  constrained_there : (k j : ℕ) → j < k → constrained_word b k ≤ length ws → Site (put_constrained ws b ss sh k) j
  unfolding put_constrained
  constrained_there zero j h l = absurd (omega arith)
  constrained_there (suc k) j h l = go (ℕ_discrete j k) (λ i. constrained_there k j i (omega arith))
    where
      go : Dec (j ≡ k) → (j < k → Site (put_constrained ws b ss sh k) j) → Site (put_constrained ws b ss sh (suc k)) j
      go (yes e) f = rw e (four_there (put_constrained ws b ss sh k) (constrained_word b k) _ _ _ _ (omega (arith, constrained_length k)))
      go (no n) f =
          let i = f (omega arith) in
          record {
            one = four_out _ _ _ _ _ _ _ (under (omega arith)) ∙ i.one;
            two = four_out _ _ _ _ _ _ _ (under (omega arith)) ∙ i.two;
            three = four_out _ _ _ _ _ _ _ (under (omega arith)) ∙ i.three;
            four = four_out _ _ _ _ _ _ _ (under (omega arith)) ∙ i.four;
          }

module _ (ws : List ℕ) (b : ℕ) (es lo : List ℕ) where
  pub equal_length : (k : ℕ) → length (put_equal ws b es lo k) ≡ length ws
  unfolding put_equal
  equal_length zero = refl
  equal_length (suc k) = two_length _ _ _ _ ∙ equal_length k

  equal_out : (k q : ℕ) → Out q (b + first_equal) (2 * k) → get_or (put_equal ws b es lo k) q 0 ≡ get_or ws q 0
  unfolding put_equal
  equal_out zero q o = refl
  equal_out (suc k) q (under h) = two_out _ _ _ _ q (under (omega arith)) ∙ equal_out k q (under h)
  equal_out (suc k) q (over h) = two_out _ _ _ _ q (over (omega arith)) ∙ equal_out k q (over (omega arith))

  abbrev Member : List ℕ → ℕ → Type 0
  Member xs j = Two xs (equal_word b j) (get_or es j 0) (get_or lo j 0)

  equal_there : (k j : ℕ) → j < k → equal_word b k ≤ length ws → Member (put_equal ws b es lo k) j
  unfolding put_equal
  equal_there zero j h l = absurd (omega arith)
  equal_there (suc k) j h l = go (ℕ_discrete j k) (λ i. equal_there k j i (omega arith))
    where
      go : Dec (j ≡ k) → (j < k → Member (put_equal ws b es lo k) j) → Member (put_equal ws b es lo (suc k)) j
      go (yes e) f = rw e (two_there (put_equal ws b es lo k) (equal_word b k) _ _ (omega (arith, equal_length k)))
      go (no n) f =
          let i = f (omega arith) in
          record { one = two_out _ _ _ _ _ (under (omega arith)) ∙ i.one; two = two_out _ _ _ _ _ (under (omega arith)) ∙ i.two }

-- ---- a rule is read from its own words
pub run_same : {A : Type 0} (f g : ℕ → A) (x n : ℕ) → ((j : ℕ) → x ≤ j → j < x + n → f j ≡ g j) → run f x n ≡ run g x n
unfolding run
run_same f g x zero h = refl
run_same f g x (suc n) h =
    let a : f x ≡ g x = h x (omega arith) (omega arith) in
    let b : run f (suc x) n ≡ run g (suc x) n = run_same f g (suc x) n (λ j l m. h j (omega arith) (omega arith)) in
    rw (a, b)

count_few : (ws : List ℕ) (at most : ℕ) → count_at ws at most ≤ most
unfolding count_at
count_few ws at most = omega arith

module _ (v w : List ℕ) (b : ℕ) (h : (q : ℕ) → b ≤ q → q < b + stride → get_or v q 0 ≡ get_or w q 0) where
  counts_same : (at most : ℕ) → b ≤ at → at < b + stride → count_at v at most ≡ count_at w at most
  unfolding count_at
  counts_same at most l m = rw (h at l m)

  places_same : place_at v b ≡ place_at w b
  unfolding place_at
  places_same = rw (h b (omega arith) (omega arith))

  sites_same : (j : ℕ) → j < max_constrained → constrained_at v b j ≡ constrained_at w b j
  unfolding constrained_at constraint_at
  sites_same j l =
      rw (
        h (constrained_word b j) (omega arith) (omega arith),
        h (constrained_word b j + 1) (omega arith) (omega arith),
        h (constrained_word b j + 1 + 1) (omega arith) (omega arith),
        h (constrained_word b j + 1 + 2) (omega arith) (omega arith),
      )

  members_same : (j : ℕ) → j < max_equal → equal_at v b j ≡ equal_at w b j
  unfolding equal_at
  members_same j l = rw (h (equal_word b j) (omega arith) (omega arith), h (equal_word b j + 1) (omega arith) (omega arith))

  pub kept_same : kept_at v b ≡ kept_at w b
  unfolding kept_at
  kept_same =
      let r : rank (rank_at v b) ≡ rank (rank_at w b) = ap rank (h (b + 1) (omega arith) (omega arith)) in
      let s : run (constrained_at v b) 0 (constrained_count v b) ≡ run (constrained_at w b) 0 (constrained_count w b) =
      ap (run (constrained_at v b) 0) (counts_same (b + 2) max_constrained (omega arith) (omega arith))
      ∙ run_same _ _ 0 (constrained_count w b) (λ j l m. sites_same j (omega (arith, count_few w (b + 2) max_constrained))) in
      let t : run (equal_at v b) 0 (equal_count v b) ≡ run (equal_at w b) 0 (equal_count w b) =
      ap (run (equal_at v b) 0) (counts_same (b + 3) max_equal (omega arith) (omega arith))
      ∙ run_same _ _ 0 (equal_count w b) (λ j l m. members_same j (omega (arith, count_few w (b + 3) max_equal))) in
      rw (places_same, r, s, t)

-- ---- a rule that is written
module _ (ws : List ℕ) (b p q : ℕ) (ss sh es lo : List ℕ) where
  abbrev headed : List ℕ
  headed = put_four ws b p (rank q) (length ss) (length es)

  abbrev sited : List ℕ
  sited = put_constrained headed b ss sh (length ss)

  pub rule_length : length (put_rule ws b p q ss sh es lo) ≡ length ws
  unfolding put_rule
  rule_length = equal_length sited b es lo (length es) ∙ (constrained_length headed b ss sh (length ss) ∙ four_length ws b p (rank q) (length ss) (length es))

  module _ (fc : length ss ≤ max_constrained) (fe : length es ≤ max_equal) where
    -- no word outside of the stride is touched
    rule_out : (r : ℕ) → Out r b stride → get_or (put_rule ws b p q ss sh es lo) r 0 ≡ get_or ws r 0
    unfolding put_rule
    rule_out r (under h) = equal_out sited b es lo (length es) r (under (omega arith)) ∙ (constrained_out headed b ss sh (length ss) r (under (omega arith)) ∙ four_out ws b p (rank q) (length ss) (length es) r (under h))
    rule_out r (over h) = equal_out sited b es lo (length es) r (over (omega arith)) ∙ (constrained_out headed b ss sh (length ss) r (over (omega arith)) ∙ four_out ws b p (rank q) (length ss) (length es) r (over (omega arith)))

    module _ (l : b + stride ≤ length ws) where
      rule_head : Four (put_rule ws b p q ss sh es lo) b p (rank q) (length ss) (length es)
      unfolding put_rule
      rule_head =
          let i = four_there ws b p (rank q) (length ss) (length es) (omega arith) in
          record { one = back b (omega arith) ∙ i.one; two = back (b + 1) (omega arith) ∙ i.two; three = back (b + 2) (omega arith) ∙ i.three; four = back (b + 3) (omega arith) ∙ i.four }
        where
          back : (r : ℕ) → r < b + first_constrained → get_or (put_equal sited b es lo (length es)) r 0 ≡ get_or headed r 0
          back r h = equal_out sited b es lo (length es) r (under (omega arith)) ∙ constrained_out headed b ss sh (length ss) r (under h)

      rule_site : (j : ℕ) → j < length ss → constrained_at (put_rule ws b p q ss sh es lo) b j ≡ (get_or ss j 0, unpack (get_or sh (3 * j) 0) (get_or sh (3 * j + 1) 0) (get_or sh (3 * j + 2) 0))
      unfolding put_rule constrained_at constraint_at
      rule_site j h =
          let i = constrained_there headed b ss sh (length ss) j h (omega (arith, four_length ws b p (rank q) (length ss) (length es))) in
          let at = constrained_word b j in
          let z2 : at + 1 + 1 ≡ at + 2 = omega arith in
          let z3 : at + 1 + 2 ≡ at + 3 = omega arith in
          rw (
            back at (omega arith) ∙ i.one,
            back (at + 1) (omega arith) ∙ i.two,
            back (at + 1 + 1) (omega arith) ∙ (ap (λ x. get_or sited x 0) z2 ∙ i.three),
            back (at + 1 + 2) (omega arith) ∙ (ap (λ x. get_or sited x 0) z3 ∙ i.four),
          )
        where
          back : (r : ℕ) → r < b + first_equal → get_or (put_equal sited b es lo (length es)) r 0 ≡ get_or sited r 0
          back r h = equal_out sited b es lo (length es) r (under h)

      rule_member : (j : ℕ) → j < length es → equal_at (put_rule ws b p q ss sh es lo) b j ≡ (get_or es j 0, get_or lo j 0)
      unfolding put_rule equal_at
      rule_member j h =
          let i = equal_there sited b es lo (length es) j h (omega (arith, constrained_length headed b ss sh (length ss), four_length ws b p (rank q) (length ss) (length es))) in
          rw (i.one, i.two)

      counted : (v : List ℕ) (at most n : ℕ) → get_or v at 0 ≡ n → n ≤ most → count_at v at most ≡ n
      unfolding count_at
      counted v at most n e h = omega arith

      -- what is written is what is read
      pub rule_kept : p < 4294967296 → q < 18446744073709551616 → kept_at (put_rule ws b p q ss sh es lo) b ≡ handed p q ss sh es lo
      unfolding kept_at handed place_at
      rule_kept hp hq =
          let v : List ℕ = put_rule ws b p q ss sh es lo in
          let i = rule_head in
          let a : get_or v b 0 % 4294967296 ≡ p = omega (arith, i.one) in
          let c : rank (rank_at v b) ≡ q = ap rank i.two ∙ rank_rank q hq in
          let d : run (constrained_at v b) 0 (constrained_count v b) ≡ run (λ j. (get_or ss j 0, unpack (get_or sh (3 * j) 0) (get_or sh (3 * j + 1) 0) (get_or sh (3 * j + 2) 0))) 0 (length ss) =
          ap (run (constrained_at v b) 0) (counted v (b + 2) max_constrained (length ss) i.three fc) ∙ run_same _ _ 0 (length ss) (λ j x y. rule_site j (omega arith)) in
          let e : run (equal_at v b) 0 (equal_count v b) ≡ run (λ j. (get_or es j 0, get_or lo j 0)) 0 (length es) =
          ap (run (equal_at v b) 0) (counted v (b + 3) max_equal (length es) i.four fe) ∙ run_same _ _ 0 (length es) (λ j x y. rule_member j (omega arith)) in
          rw (a, c, d, e)

-- ---- the whole of `written`

apart : (i j q : ℕ) → (i ≡ j → ⊥) → base j ≤ q → q < base j + stride → Out q (base i) stride
unfolding base
apart i j q n h k = go (dec_lt i j)
  where
    go : Dec (i < j) → Out q (stride * i) stride
    go (yes l) = over (omega arith)
    go (no l) = let m : j < i = omega arith in under (omega arith)

outside_as : (ws : List ℕ) (i p q : ℕ) (ss sh es lo : List ℕ) (r : ℕ) → Out r (base i) stride → (t : Bool) → fits_in ws i ss es ≡ t → get_or (written ws i p q ss sh es lo) r 0 ≡ get_or ws r 0
unfolding written fits_in
outside_as ws i p q ss sh es lo r o true e =
    let a = and_both _ _ e in
    let b = and_both _ _ a.1 in
    rw e (rule_out ws (base i) p q ss sh es lo (leb-true _ _ a.0) (leb-true _ _ b.0) r o)
outside_as ws i p q ss sh es lo r o false e = rw e

module _ (ws : List ℕ) (i p q : ℕ) (ss sh es lo : List ℕ) where
  -- a rule that fits is kept as it was handed over
  pub written_kept : p < 4294967296 → q < 18446744073709551616 → fits_in ws i ss es ≡ true → kept_in (written ws i p q ss sh es lo) i ≡ handed p q ss sh es lo
  unfolding kept_in written fits_in
  written_kept hp hq e =
      let a = and_both _ _ e in
      let b = and_both _ _ a.1 in
      rw e (rule_kept ws (base i) p q ss sh es lo (leb-true _ _ a.0) (leb-true _ _ b.0) (leb-true _ _ b.1) hp hq)

  -- and every other rule stays as it was
  pub others_kept : (j : ℕ) → (i ≡ j → ⊥) → kept_in (written ws i p q ss sh es lo) j ≡ kept_in ws j
  unfolding kept_in
  others_kept j n = kept_same (written ws i p q ss sh es lo) ws (base j) (λ r h k. outside_as ws i p q ss sh es lo r (apart i j r n h k) (fits_in ws i ss es) refl)
