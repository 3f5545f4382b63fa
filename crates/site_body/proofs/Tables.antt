-- The tables of the layout are the paper's: one clause a kind there, three numbers a kind here.
use mathlib.Core.Path.{◌≡◌, refl, sym, ap, ◌∙◌}
use mathlib.Core.List.{List, [], ◌∷◌, ◌++◌, map, append-nil}
use Prim.Native.Nat.{ℕ, ◌+◌, ◌-◌, ◌*◌, ◌/◌, ◌%◌, ◌<◌, ◌≤◌}
use native.Mathlib.Omega.{arith}
use lib.ListN.{length, get_or, take, drop, length-append, get_or-append}
use lib.Seq.{take_at, drop_at, drop-drop}
use lib.Dec.{lit<}
use Rattle.paper.specs.Numbers.{max_sources}
use Rattle.paper.specs.Words.{two, four, eight, flag, joined}
use Rattle.site_body.specs.Body.{offs, ways, tails, count_by, off_of, many_of, tail_of, words, kind}
use Rattle.paper.specs.Sites.{Site, const_bool, const_int, const_prim, argument, extractor, constructor, iterator, make_variant, match_variant, make_struct, extract_struct, make_some, match_some, match_tuple, body, body_by, sources}

-- what stands before the sources, and what after them
unfoldable pub head : Site → List ℕ
head (const_bool t v) = 0 ∷ (two t ++ (flag v ∷ []))
head (const_int t h l) = 1 ∷ (two t ++ (eight h ++ eight l))
head (const_prim v) = 2 ∷ two v
head (argument i) = 3 ∷ i ∷ []
head (extractor t s) = 4 ∷ two t
head (constructor t n l) = 5 ∷ (two t ++ (four n ++ (length l ∷ [])))
head (iterator s) = 6 ∷ []
head (make_variant t v l) = 7 ∷ (two t ++ (two v ++ (length l ∷ [])))
head (match_variant s v f) = 8 ∷ []
head (make_struct t l) = 9 ∷ (two t ++ (length l ∷ []))
head (extract_struct s f) = 10 ∷ []
head (make_some s) = 11 ∷ []
head (match_some s) = 12 ∷ []
head (match_tuple s f) = 13 ∷ []

unfoldable pub tail : Site → List ℕ
tail (const_bool t v) = []
tail (const_int t h l) = []
tail (const_prim v) = []
tail (argument i) = []
tail (extractor t s) = []
tail (constructor t n l) = []
tail (iterator s) = []
tail (make_variant t v l) = []
tail (match_variant s v f) = two v ++ (f ∷ [])
tail (make_struct t l) = []
tail (extract_struct s f) = f ∷ []
tail (make_some s) = []
tail (match_some s) = []
tail (match_tuple s f) = f ∷ []

-- a body is its head, its sources as w writes them, and its tail
pub split : (w : ℕ → List ℕ) (s : Site) → body_by w s ≡ head s ++ (joined (map w (sources s)) ++ tail s)
unfolding body_by head tail sources joined two four eight
split w (const_bool t v) = refl
split w (const_int t h l) = refl
split w (const_prim v) = refl
split w (argument i) = refl
split w (extractor t s) = simp append-nil
split w (constructor t n l) = simp append-nil
split w (iterator s) = simp append-nil
split w (make_variant t v l) = simp append-nil
split w (match_variant s v f) = simp append-nil
split w (make_struct t l) = simp append-nil
split w (extract_struct s f) = simp append-nil
split w (make_some s) = simp append-nil
split w (match_some s) = simp append-nil
split w (match_tuple s f) = simp append-nil

-- the sizes are the tables'
pub record Row (s : Site) : Type 0 where
  pub low : kind s < 14
  pub first : get_or (head s) 0 0 ≡ kind s
  pub off : length (head s) ≡ get_or offs (kind s) 0
  pub many : length (sources s) ≡ count_by (get_or ways (kind s) 0) (get_or (head s) (get_or offs (kind s) 0 - 1) 0)
  pub end : length (tail s) ≡ get_or tails (kind s) 0
  pub least : 0 < length (head s)
  pub fits : length (sources s) ≤ max_sources → length (head s) + 2 * length (sources s) + length (tail s) ≤ 24

pub row : (s : Site) → Row s
unfolding kind head tail sources two four eight
row (const_bool t v) = record { low = lit< tt; first = refl; off = refl; many = refl; end = refl; least = lit< tt; fits = λ h. omega arith }
row (const_int t h l) = record { low = lit< tt; first = refl; off = refl; many = refl; end = refl; least = lit< tt; fits = λ h. omega arith }
row (const_prim v) = record { low = lit< tt; first = refl; off = refl; many = refl; end = refl; least = lit< tt; fits = λ h. omega arith }
row (argument i) = record { low = lit< tt; first = refl; off = refl; many = refl; end = refl; least = lit< tt; fits = λ h. omega arith }
row (extractor t s) = record { low = lit< tt; first = refl; off = refl; many = refl; end = refl; least = lit< tt; fits = λ h. omega arith }
row (constructor t n l) = record { low = lit< tt; first = refl; off = refl; many = refl; end = refl; least = lit< tt; fits = λ h. omega arith }
row (iterator s) = record { low = lit< tt; first = refl; off = refl; many = refl; end = refl; least = lit< tt; fits = λ h. omega arith }
row (make_variant t v l) = record { low = lit< tt; first = refl; off = refl; many = refl; end = refl; least = lit< tt; fits = λ h. omega arith }
row (match_variant s v f) = record { low = lit< tt; first = refl; off = refl; many = refl; end = refl; least = lit< tt; fits = λ h. omega arith }
row (make_struct t l) = record { low = lit< tt; first = refl; off = refl; many = refl; end = refl; least = lit< tt; fits = λ h. omega arith }
row (extract_struct s f) = record { low = lit< tt; first = refl; off = refl; many = refl; end = refl; least = lit< tt; fits = λ h. omega arith }
row (make_some s) = record { low = lit< tt; first = refl; off = refl; many = refl; end = refl; least = lit< tt; fits = λ h. omega arith }
row (match_some s) = record { low = lit< tt; first = refl; off = refl; many = refl; end = refl; least = lit< tt; fits = λ h. omega arith }
row (match_tuple s f) = record { low = lit< tt; first = refl; off = refl; many = refl; end = refl; least = lit< tt; fits = λ h. omega arith }

pub length_twos : (l : List ℕ) → length (joined (map two l)) ≡ 2 * length l
unfolding joined two
length_twos [] = refl
length_twos (x ∷ l) = let e = length_twos l in omega arith

words_twos : (l r : List ℕ) → words (length l) (joined (map two l) ++ r) ≡ l
unfolding words joined two
words_twos [] r = refl
words_twos (x ∷ l) r = let e : x / 256 * 256 + x % 256 ≡ x = omega arith in rw (e, words_twos l r)

-- what the tables say of the bytes b of a site s
pub record Laid (s : Site) (b : List ℕ) : Type 0 where
  pub is : body s ≡ b
  pub some : 0 < length b
  pub kind_is : get_or b 0 0 ≡ kind s
  pub low : get_or b 0 0 < 14
  pub off : off_of b ≡ length (head s)
  pub least : 0 < off_of b
  pub many : many_of b ≡ length (sources s)
  pub end : tail_of b ≡ length (tail s)
  pub size : length b ≡ off_of b + 2 * many_of b + tail_of b
  pub front : take (off_of b) b ≡ head s
  pub rest : drop (off_of b + 2 * many_of b) b ≡ tail s
  pub read : words (many_of b) (drop (off_of b) b) ≡ sources s
  pub fits : many_of b ≤ max_sources → length b ≤ 24

module _ (s : Site) where
  laid_body : body s ≡ head s ++ (joined (map two (sources s)) ++ tail s)
  unfolding body
  laid_body = split two s

  laid_kind : get_or (body s) 0 0 ≡ kind s
  laid_kind = rw laid_body (get_or-append (head s) (joined (map two (sources s)) ++ tail s) 0 0 (row s).least ∙ (row s).first)

  laid_off : off_of (body s) ≡ length (head s)
  unfolding off_of
  laid_off = ap (λ k. get_or offs k 0) laid_kind ∙ sym (row s).off

  laid_end : tail_of (body s) ≡ length (tail s)
  unfolding tail_of
  laid_end = ap (λ k. get_or tails k 0) laid_kind ∙ sym (row s).end

  laid_count : get_or (body s) (off_of (body s) - 1) 0 ≡ get_or (head s) (get_or offs (kind s) 0 - 1) 0
  laid_count =
      let h = (row s).least in
      let o : off_of (body s) - 1 ≡ length (head s) - 1 = ap (λ k. k - 1) laid_off in
      let l : length (head s) - 1 < length (head s) = omega arith in
      rw (o, laid_body) (get_or-append (head s) (joined (map two (sources s)) ++ tail s) 0 (length (head s) - 1) l ∙ ap (λ k. get_or (head s) (k - 1) 0) (row s).off)

  laid_many : many_of (body s) ≡ length (sources s)
  unfolding many_of
  laid_many = rw (laid_kind, laid_count) (sym (row s).many)

  laid_drop : drop (off_of (body s)) (body s) ≡ joined (map two (sources s)) ++ tail s
  laid_drop = rw (laid_off, laid_body) (drop_at (head s) (joined (map two (sources s)) ++ tail s) (length (head s)) refl)

  laid_size : length (body s) ≡ length (head s) + 2 * length (sources s) + length (tail s)
  laid_size =
      let a = length-append (head s) (joined (map two (sources s)) ++ tail s) in
      let b = length-append (joined (map two (sources s))) (tail s) in
      let e = length_twos (sources s) in
      let f = ap length laid_body in
      omega arith

  pub laid : Laid s (body s)
  laid =
      let o = laid_off in
      let m = laid_many in
      let e = laid_end in
      let z = laid_size in
      let p = (row s).least in
      record {
        is = refl;
        some = omega arith;
        kind_is = laid_kind;
        low = rw laid_kind (row s).low;
        off = o;
        least = omega arith;
        many = m;
        end = e;
        size = omega arith;
        front = rw (o, laid_body) (take_at (head s) (joined (map two (sources s)) ++ tail s) (length (head s)) refl);
        rest = sym (drop-drop (2 * many_of (body s)) (off_of (body s)) (body s)) ∙ rw (laid_drop, m) (drop_at (joined (map two (sources s))) (tail s) (2 * length (sources s)) (length_twos (sources s)));
        read = rw (laid_drop, m) (words_twos (sources s) (tail s));
        fits = λ h. let w = (row s).fits (omega arith) in omega arith;
      }
