-- Words and the sites that they tell.
use mathlib.Core.Path.{◌≡◌, refl, sym, ap, ◌∙◌}
use mathlib.Core.Bool.{Bool, true, false, ◌||◌}
use mathlib.Core.Option.{none, some}
use mathlib.Core.Logic.{◌⊎◌, inl, inr}
use mathlib.Core.List.{List, [], ◌∷◌, ◌++◌}
use Prim.Native.Nat.{ℕ, zero, suc, ◌+◌, ◌-◌, ◌*◌, ◌/◌, ◌%◌, ◌<◌, ◌≤◌}
use native.Mathlib.Omega.{arith}
use lib.ListN.{get_or}
use lib.Dec.{eqb, ltb}
use borrow.Author.Tests.{lt-ltb, le-ltb, ne_eqb, eqb-true, eqb-false, ltb-true, ltb-false}
use Rattle.std.specs.declared.option.Option.TheVariants as option
use Rattle.paper.specs.declared.Constraint.{Constraint}
use Rattle.paper.specs.declared.Constraint.TheVariants.{Variant, Struct, ConstBool, ConstInt, ConstPrim, Some}
use Rattle.paper.specs.Words.{or_else, below, any}
use Rattle.paper.specs.Sites.{Site, const_bool, const_int, const_prim, argument, extractor, constructor, iterator, make_variant, match_variant, make_struct, extract_struct, make_some, match_some, match_tuple, parent, child_count, child, children, same_site}
use Rattle.paper.proofs.Laws.{same_site_refl}
use Rattle.sites.specs.Slots.{site_of, slot_body, site_in}
use Rattle.site_body.specs.Body.{link_of}
use Rattle.sites.proofs.Places.{same_site_false}
use Rattle.paper.specs.Answered.{Maybe}
use Rattle.site_body.specs.declared.Link.{Link}
use Rattle.site_body.specs.declared.Link.TheVariants as link
use Rattle.rule_children.specs.Tail.{word_of, site_of_word, Spelt, site_there, Field}

module _ (s v f w : ℕ) (hv : v < 65536) (hf : f < 256) (e : w ≡ 8 + 256 * (f + 256 * (v + 65536 * s))) where
  variant_back : site_of_word w ≡ match_variant s v f
  unfolding site_of_word
  variant_back =
      let a : w % 256 ≡ 8 = omega arith in
      let b : w / 256 / 256 / 65536 ≡ s = omega arith in
      let d : w / 256 / 256 % 65536 ≡ v = omega arith in
      let g : w / 256 % 256 ≡ f = omega arith in
      rw (a, b, d, g)

  pub spelt_variant : Spelt (match_variant s v f) w
  unfolding word_of
  spelt_variant = record { is = e; back = λ _. variant_back }

module _ (s f w : ℕ) (hf : f < 256) (e : w ≡ 10 + 256 * (f + 256 * s)) where
  struct_back : site_of_word w ≡ extract_struct s f
  unfolding site_of_word
  struct_back =
      let a : w % 256 ≡ 10 = omega arith in
      let b : w / 256 / 256 ≡ s = omega arith in
      let g : w / 256 % 256 ≡ f = omega arith in
      rw (a, b, g)

  pub spelt_struct : Spelt (extract_struct s f) w
  unfolding word_of
  spelt_struct = record { is = e; back = λ _. struct_back }

module _ (s w : ℕ) (e : w ≡ 12 + 256 * s) where
  some_back : site_of_word w ≡ match_some s
  unfolding site_of_word
  some_back =
      let a : w % 256 ≡ 12 = omega arith in
      let b : w / 256 ≡ s = omega arith in
      rw (a, b)

  pub spelt_some : Spelt (match_some s) w
  unfolding word_of
  spelt_some = record { is = e; back = λ _. some_back }

pub spelt_none : (x : Site) → word_of x ≡ 0 → Spelt x 0
spelt_none x e = record { is = sym e; back = λ h. absurd (omega arith) }

pub spelt_as : (x y : Site) (w : ℕ) → x ≡ y → Spelt x w → Spelt y w
spelt_as x y w e h = rw (← e) h

-- what a site is, by its link
abbrev pub Told : Site → Maybe Link → Type 0
Told x (option.Some (link.Variant s v f)) = match_variant s v f ≡ x
Told x (option.Some (link.Struct s f)) = extract_struct s f ≡ x
Told x (option.Some (link.Some s)) = match_some s ≡ x
Told x option.None = word_of x ≡ 0

told : (x : Site) → Told x (link_of x)
unfolding link_of word_of
told (const_bool t v) = refl
told (const_int t h l) = refl
told (const_prim v) = refl
told (argument i) = refl
told (extractor t s) = refl
told (constructor t n l) = refl
told (iterator s) = refl
told (make_variant t v l) = refl
told (match_variant s v f) = refl
told (make_struct t l) = refl
told (extract_struct s f) = refl
told (make_some s) = refl
told (match_some s) = refl
told (match_tuple s f) = refl

pub told_as : (x : Site) (l : Maybe Link) → l ≡ link_of x → Told x l
told_as x l e = rw e (told x)

pub told_in : (m : List ℕ) (i : ℕ) (b : List ℕ) (l r : Maybe Link) → l ≡ r → l ≡ link_of (site_of b) → b ≡ slot_body m i → r ≡ link_of (site_in m i)
unfolding site_in
told_in m i b l r e f g = sym e ∙ f ∙ ap (λ x. link_of (site_of x)) g

-- ---- words of the tail

module _ (w : ℕ) where
  pub tail_variant : w % 256 ≡ 8 → Spelt (site_of_word w) w
  unfolding site_of_word word_of
  tail_variant a = record { is = rw a (omega arith); back = λ _. refl }

  pub tail_struct : w % 256 ≡ 10 → Spelt (site_of_word w) w
  unfolding site_of_word word_of
  tail_struct a = record { is = rw a (omega arith); back = λ _. refl }

  pub tail_some : w % 256 ≡ 12 → Spelt (site_of_word w) w
  unfolding site_of_word word_of
  tail_some a = record { is = rw a (omega arith); back = λ _. refl }

  pub tail_none : (w % 256 ≡ 8 → ⊥) → (w % 256 ≡ 10 → ⊥) → (w % 256 ≡ 12 → ⊥) → Spelt (site_of_word w) 0
  unfolding site_of_word word_of
  tail_none a b d = record { is = rw (ne_eqb (w % 256) 8 a, ne_eqb (w % 256) 10 b, ne_eqb (w % 256) 12 d); back = λ h. absurd (omega arith) }

pub tail_told : (w : ℕ) → (w % 256 ≡ 8) ⊎ ((w % 256 ≡ 10) ⊎ (w % 256 ≡ 12)) → Spelt (site_of_word w) w
tail_told w (inl a) = tail_variant w a
tail_told w (inr (inl a)) = tail_struct w a
tail_told w (inr (inr a)) = tail_some w a

-- a word that tells a child is its word
pub word_told : (w : ℕ) → 0 < word_of (site_of_word w) → w ≡ word_of (site_of_word w)
word_told w h = go (eqb (w % 256) 8) refl (eqb (w % 256) 10) refl (eqb (w % 256) 12) refl
  where
    go : (a : Bool) → eqb (w % 256) 8 ≡ a → (b : Bool) → eqb (w % 256) 10 ≡ b → (d : Bool) → eqb (w % 256) 12 ≡ d → w ≡ word_of (site_of_word w)
    go true e b f d g = (tail_variant w (eqb-true _ _ e)).is
    go false e true f d g = (tail_struct w (eqb-true _ _ f)).is
    go false e false f true g = (tail_some w (eqb-true _ _ g)).is
    go false e false f false g =
        let z = (tail_none w (eqb-false _ _ e) (eqb-false _ _ f) (eqb-false _ _ g)).is in
        absurd (omega arith)

-- ---- sources

module _ (w : ℕ) where
  pub source_variant : w % 256 ≡ 8 → w / 256 / 256 / 65536 ≡ or_else (parent (site_of_word w)) 0
  unfolding site_of_word parent
  source_variant a = rw a

  pub source_struct : w % 256 ≡ 10 → w / 256 / 256 ≡ or_else (parent (site_of_word w)) 0
  unfolding site_of_word parent
  source_struct a = rw a

  pub source_some : w % 256 ≡ 12 → w / 256 ≡ or_else (parent (site_of_word w)) 0
  unfolding site_of_word parent
  source_some a = rw a

  pub source_none : (w % 256 ≡ 8 → ⊥) → (w % 256 ≡ 10 → ⊥) → (w % 256 ≡ 12 → ⊥) → 0 ≡ or_else (parent (site_of_word w)) 0
  unfolding site_of_word parent
  source_none a b d = rw (ne_eqb (w % 256) 8 a, ne_eqb (w % 256) 10 b, ne_eqb (w % 256) 12 d)

has_source : (x : Site) → 0 < word_of x → parent x ≡ some (or_else (parent x) 0)
unfolding word_of parent
has_source (const_bool t v) p = absurd (omega arith)
has_source (const_int t h l) p = absurd (omega arith)
has_source (const_prim v) p = absurd (omega arith)
has_source (argument i) p = absurd (omega arith)
has_source (extractor t s) p = absurd (omega arith)
has_source (constructor t n l) p = absurd (omega arith)
has_source (iterator s) p = absurd (omega arith)
has_source (make_variant t v l) p = absurd (omega arith)
has_source (match_variant s v f) p = refl
has_source (make_struct t l) p = absurd (omega arith)
has_source (extract_struct s f) p = refl
has_source (make_some s) p = absurd (omega arith)
has_source (match_some s) p = refl
has_source (match_tuple s f) p = absurd (omega arith)

no_source : (x : Site) → word_of x ≡ 0 → parent x ≡ none
unfolding word_of parent
no_source (const_bool t v) p = refl
no_source (const_int t h l) p = refl
no_source (const_prim v) p = refl
no_source (argument i) p = refl
no_source (extractor t s) p = refl
no_source (constructor t n l) p = refl
no_source (iterator s) p = refl
no_source (make_variant t v l) p = refl
no_source (match_variant s v f) p = absurd (omega arith)
no_source (make_struct t l) p = refl
no_source (extract_struct s f) p = absurd (omega arith)
no_source (make_some s) p = refl
no_source (match_some s) p = absurd (omega arith)
no_source (match_tuple s f) p = refl

-- a site has a parent exactly where its word is not 0, and the word tells it
pub word_parent : (x : Site) (w : ℕ) → Spelt x w → 0 < w → parent x ≡ some (or_else (parent (site_of_word w)) 0)
word_parent x w h p = let e = h.is in rw (h.back p) (has_source x (omega arith))

pub word_orphan : (x : Site) → Spelt x 0 → parent x ≡ none
word_orphan x h = no_source x (sym h.is)

-- ---- places

module _ (m : List ℕ) (n : ℕ) (tail : List ℕ) (x : ℕ) where
  pub there_low : (w : ℕ) → x < n → Spelt (site_in m x) w → Spelt (site_there m n tail x) w
  unfolding site_there
  there_low w h e = rw (lt-ltb x n h) e

  pub there_high : (w j : ℕ) → n ≤ x → j ≡ x - n → Spelt (site_of_word (get_or tail j 0)) w → Spelt (site_there m n tail x) w
  unfolding site_there
  there_high w j h q e = rw (le-ltb x n h, ← q) e

-- ---- children

-- a constraint with one child
abbrev pub Lone : Constraint → Type 0
Lone c = ((t : ℕ) × (v : Bool) × (c ≡ ConstBool t v)) ⊎ (((t : ℕ) × (h : ℕ) × (l : ℕ) × (c ≡ ConstInt t h l)) ⊎ (((v : ℕ) × (c ≡ ConstPrim v)) ⊎ (c ≡ Some)))

pub lone_child : (s : ℕ) (c : Constraint) (f : ℕ) → Lone c → child s c f ≡ match_some s
unfolding child
lone_child s c f (inl e) = ap (λ d. child s d f) e.2
lone_child s c f (inr (inl e)) = ap (λ d. child s d f) e.3
lone_child s c f (inr (inr (inl e))) = ap (λ d. child s d f) e.1
lone_child s c f (inr (inr (inr e))) = ap (λ d. child s d f) e

pub child_positive : (s : ℕ) (c : Constraint) (f : ℕ) → 0 < word_of (child s c f)
unfolding child word_of
child_positive s (Variant t v n) f = omega arith
child_positive s (Struct t n) f = omega arith
child_positive s (ConstBool t v) f = omega arith
child_positive s (ConstInt t x y) f = omega arith
child_positive s (ConstPrim v) f = omega arith
child_positive s Some f = omega arith

pub child_step : (s : ℕ) (c : Constraint) (f : ℕ) → f < child_count c → word_of (child s c f) ≡ word_of (child s c 0) + 256 * f
unfolding child word_of
child_step s (Variant t v n) f h = omega arith
child_step s (Struct t n) f h = omega arith
child_step s (ConstBool t v) f h = omega arith
child_step s (ConstInt t x y) f h = omega arith
child_step s (ConstPrim v) f h = omega arith
child_step s Some f h = omega arith

child_tells : (s : ℕ) (c : Constraint) (first : ℕ) → Spelt (child s c 0) first → child_count c < 256 → (f : ℕ) → f < child_count c → site_of_word (first + 256 * f) ≡ child s c f
unfolding child word_of site_of_word
child_tells s (Variant t v n) first h l f p =
    let e = h.is in
    let a : first % 256 ≡ 8 = omega arith in
    let u : site_of_word first ≡ match_variant (first / 256 / 256 / 65536) (first / 256 / 256 % 65536) (first / 256 % 256) = rw a in
    let z : match_variant (first / 256 / 256 / 65536) (first / 256 / 256 % 65536) (first / 256 % 256) ≡ match_variant s v 0 = sym u ∙ h.back (omega arith) in
    let q : first / 256 / 256 % 65536 ≡ v = cc in
    variant_back s v f (first + 256 * f) (omega arith) (omega arith) (omega arith)
child_tells s (Struct t n) first h l f p = let e = h.is in struct_back s f (first + 256 * f) (omega arith) (omega arith)
child_tells s (ConstBool t v) first h l f p = absurd (omega arith)
child_tells s (ConstInt t x y) first h l f p = absurd (omega arith)
child_tells s (ConstPrim v) first h l f p = absurd (omega arith)
child_tells s Some first h l f p = let e = h.is in some_back s (first + 256 * f) (omega arith)

-- children with different fields differ
pub child_apart : (s : ℕ) (c : Constraint) (i j : ℕ) → i < child_count c → j < child_count c → child s c i ≡ child s c j → i ≡ j
child_apart s c i j p q e =
    let a = child_step s c i p in
    let b = child_step s c j q in
    let d = ap word_of e in
    omega arith

-- the site that w is the word of is a child, of that field; or it is none
module _ (s : ℕ) (c : Constraint) (first count w r : ℕ) (h : Spelt (child s c 0) first) (k : count ≡ child_count c) (l : count < 256) (g : Field w first count r) where
  pub field_is : r < count → site_of_word w ≡ child s c r
  field_is p = ap site_of_word (g.is p) ∙ child_tells s c first h (omega arith) r (omega arith)

  pub field_none : count ≤ r → (f : ℕ) → f < child_count c → w ≡ word_of (child s c f) → ⊥
  field_none p f q e = let d = child_step s c f q in let a = h.is in g.none p f (omega arith) (omega arith)

  module _ (x : Site) (e : Spelt x w) where
    pub site_is : r < count → x ≡ child s c r
    site_is p =
        let y = field_is p in
        let z = child_positive s c r in
        let a = g.is p in
        let b = child_step s c r (omega arith) in
        let d = h.is in
        sym (e.back (omega arith)) ∙ y

    pub site_none : count ≤ r → (f : ℕ) → f < child_count c → x ≡ child s c f → ⊥
    site_none p f q d = field_none p f q (e.is ∙ ap word_of d)

-- ---- one of some

any_last : {A : Type 0} (p : A → Bool) (l : List A) (x : A) → any p (l ++ (x ∷ [])) ≡ (any p l || p x)
unfolding any
any_last p [] x = go (p x)
  where
    go : (b : Bool) → (b || false) ≡ (false || b)
    go true = refl
    go false = refl
any_last p (y ∷ l) x = ap (λ b. p y || b) (any_last p l x) ∙ go (p y) (any p l) (p x)
  where
    go : (a b d : Bool) → (a || (b || d)) ≡ ((a || b) || d)
    go true b d = refl
    go false b d = refl

any_true : {A : Type 0} (p : A → Bool) (f : ℕ → A) (n i : ℕ) → i < n → p (f i) ≡ true → any p (below n f) ≡ true
unfolding below
any_true p f zero i h e = absurd (omega arith)
any_true p f (suc n) i h e = any_last p (below n f) (f n) ∙ go (ltb i n) refl (any_true p f n i)
  where
    go : (b : Bool) → ltb i n ≡ b → (i < n → p (f i) ≡ true → any p (below n f) ≡ true) → (any p (below n f) || p (f n)) ≡ true
    go true q r = rw (r (ltb-true i n q) e)
    go false q r = let y = ltb-false i n q in let z : i ≡ n = omega arith in let u : p (f n) ≡ true = rw (← z) e in rw u (end (any p (below n f)))
      where
        end : (b : Bool) → (b || true) ≡ true
        end true = refl
        end false = refl

any_false : {A : Type 0} (p : A → Bool) (f : ℕ → A) (n : ℕ) → ((i : ℕ) → i < n → p (f i) ≡ false) → any p (below n f) ≡ false
unfolding below any
any_false p f zero h = refl
any_false p f (suc n) h = any_last p (below n f) (f n) ∙ rw (any_false p f n (λ i q. h i (omega arith)), h n (omega arith))

-- whether the site with the word w is a child
module _ (s : ℕ) (c : Constraint) (first count w r : ℕ) (h : Spelt (child s c 0) first) (k : count ≡ child_count c) (l : count < 256) (g : Field w first count r) where
  child_yes : r < count → any (same_site (site_of_word w)) (children s c) ≡ true
  unfolding children
  child_yes p =
      let y = field_is s c first count w r h k l g p in
      any_true (same_site (site_of_word w)) (child s c) (child_count c) r (omega arith) (rw y (same_site_refl (child s c r)))

  child_no : count ≤ r → any (same_site (site_of_word w)) (children s c) ≡ false
  unfolding children
  child_no p =
      any_false (same_site (site_of_word w)) (child s c) (child_count c)
      (λ i q.
      same_site_false (site_of_word w) (child s c i)
      (λ e.
      let z = ap word_of e in
      let y = child_positive s c i in
      let u = word_told w (omega arith) in
      field_none s c first count w r h k l g p i q (u ∙ z)))

  pub is_child : ltb r count ≡ any (same_site (site_of_word w)) (children s c)
  is_child = go (ltb r count) refl
    where
      go : (b : Bool) → ltb r count ≡ b → b ≡ any (same_site (site_of_word w)) (children s c)
      go true e = sym (child_yes (ltb-true r count e))
      go false e = sym (child_no (ltb-false r count e))
