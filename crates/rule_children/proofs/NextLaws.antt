-- Passing over sites that can't be children: how a child's slot begins, and what a search that passes it over says.
use mathlib.Core.Path.{◌≡◌, refl, sym, ap, ◌∙◌}
use mathlib.Core.Bool.{Bool, true, false}
use mathlib.Core.Logic.{inr}
use mathlib.Core.List.{List, [], ◌∷◌}
use Prim.Native.Nat.{ℕ, ◌+◌, ◌-◌, ◌*◌, ◌/◌, ◌%◌, ◌<◌, ◌≤◌}
use native.Mathlib.Omega.{arith}
use lib.ListN.{length, get_or, get_or-eq_default}
use lib.Dec.{ltb}
use borrow.Author.Tests.{ltb-true, ltb-false}
use Rattle.paper.specs.declared.Constraint.{Constraint}
use Rattle.paper.specs.declared.Constraint.TheVariants.{Variant, Struct, ConstBool, ConstInt, ConstPrim, Some}
use Rattle.std.specs.Prelude.{if◌then◌else◌}
use Rattle.paper.specs.Words.{two}
use Rattle.paper.specs.Sites.{body, body_by, child_count, child}
use Rattle.site_slots.specs.Seeking.{quad, four_at, Seeks}
use Rattle.site_body.proofs.Back.{Bytes}
use Rattle.sites.specs.Slots.{slot, no_site, site_in}
use Rattle.sites.proofs.Held.{held, site_held}
use Rattle.site_slots.proofs.Holding.{held_four}
use Rattle.rule_children.specs.Tail.{word_of, site_of_word, site_there, Field, begins, Wants, SeeksWord, Onward}
use Rattle.rule_children.proofs.WordLaws.{Lone, lone_child, child_positive, child_step, word_told}
use Rattle.rule_children.specs.declared.Wanted.{Wanted}

-- ---- how a child's slot begins

child_long : (s : ℕ) (c : Constraint) (f : ℕ) → 3 ≤ length (body (child s c f))
unfolding child body body_by two
child_long s (Variant t v n) f = omega arith
child_long s (Struct t n) f = omega arith
child_long s (ConstBool t v) f = omega arith
child_long s (ConstInt t x y) f = omega arith
child_long s (ConstPrim v) f = omega arith
child_long s Some f = omega arith

begins_alike : (s : ℕ) (c : Constraint) (f : ℕ) → begins (child s c f) ≡ begins (child s c 0)
unfolding begins four_at child body body_by two
begins_alike s (Variant t v n) f = refl
begins_alike s (Struct t n) f = refl
begins_alike s (ConstBool t v) f = refl
begins_alike s (ConstInt t x y) f = refl
begins_alike s (ConstPrim v) f = refl
begins_alike s Some f = refl

-- by the constraint
abbrev begins_by : ℕ → Constraint → ℕ
begins_by s (Variant t v n) = quad 6 8 (s / 256) (s % 256)
begins_by s (Struct t n) = quad 4 10 (s / 256) (s % 256)
begins_by s (ConstBool t v) = quad 3 12 (s / 256) (s % 256)
begins_by s (ConstInt t x y) = quad 3 12 (s / 256) (s % 256)
begins_by s (ConstPrim v) = quad 3 12 (s / 256) (s % 256)
begins_by s Some = quad 3 12 (s / 256) (s % 256)

begins_is : (s : ℕ) (c : Constraint) → begins_by s c ≡ begins (child s c 0)
unfolding begins four_at child body body_by two
begins_is s (Variant t v n) = refl
begins_is s (Struct t n) = refl
begins_is s (ConstBool t v) = refl
begins_is s (ConstInt t x y) = refl
begins_is s (ConstPrim v) = refl
begins_is s Some = refl

pub begins_as : (s : ℕ) (c d : Constraint) (r : ℕ) → c ≡ d → r ≡ begins_by s d → r ≡ begins (child s c 0)
begins_as s c d r e q = rw e (q ∙ begins_is s d)

pub begins_lone : (s : ℕ) (c : Constraint) (r : ℕ) → Lone c → r ≡ quad 3 12 (s / 256) (s % 256) → r ≡ begins (child s c 0)
begins_lone s c r h q = q ∙ begins_is s Some ∙ ap begins (lone_child s Some 0 (inr (inr (inr refl))) ∙ sym (lone_child s c 0 h))

-- by the two bytes of the source
pub by_bytes : (s : ℕ) (b : List ℕ) (r k l : ℕ) → s < 65536 → b ≡ (s / 256 % 256 ∷ (s % 256 ∷ [])) → r ≡ quad k l (get_or b 0 0) (get_or b 1 0) → r ≡ quad k l (s / 256) (s % 256)
by_bytes s b r k l h e q = let z : s / 256 % 256 ≡ s / 256 = omega arith in q ∙ rw (e, z) refl

child_real : (s : ℕ) (c : Constraint) (f : ℕ) → child s c f ≡ no_site → ⊥
unfolding word_of
child_real s c f e = let p = child_positive s c f in let z = ap word_of e in omega arith

-- ---- the search in the tail

module _ (tail : List ℕ) (from first count : ℕ) where
  abbrev pub Past : ℕ → Type 0
  Past r = (j : ℕ) → from ≤ j → j < r → j < length tail → (f : ℕ) → f < count → get_or tail j 0 ≡ first + 256 * f → ⊥

  pub past_more : (j y r : ℕ) → y ≡ j → Past j → Field (get_or tail y 0) first count r → count ≤ r → Past (j + 1)
  past_more j y r w P g q i l h t f p e = go (ltb i j) refl
    where
      go : (b : Bool) → ltb i j ≡ b → ⊥
      go true u = P i l (ltb-true i j u) t f p e
      go false u =
          let v = ltb-false i j u in
          let z : y ≡ i = omega arith in
          g.none q f p (ap (λ x. get_or tail x 0) z ∙ e)

  module _ (to j : ℕ) (l : from ≤ j) (P : Past j) where
    pub word_none : to ≤ j → SeeksWord tail from to first count to
    word_none h = record { low = λ q. q; high = omega arith; none = λ i p q. P i p (omega arith) }

    pub word_out : (y : ℕ) → y ≡ j → length tail ≤ y → SeeksWord tail from to first count to
    word_out y w h = record { low = λ q. q; high = omega arith; none = λ i p q t. P i p (omega arith) t }

-- ---- from one site to the next

module _ (m : List ℕ) (n : ℕ) (tail : List ℕ) (k i : ℕ) (w : Wanted) (l : i ≤ n + k) where
  pub on_tail : (r : ℕ) → n ≤ i → SeeksWord tail (i - n) k w.first w.count r → Onward m n tail k i w (n + r)
  on_tail r h g = record {
    low = let a = g.low (omega arith) in omega arith;
    high = let a = g.high in omega arith;
    slots = λ j p q u. absurd (omega arith);
    words = λ j p q u. g.none (j - n) (omega arith) (omega arith);
  }

  module _ (x : ℕ) (h : i < n) (S : Seeks m 0 i n w.key x) where
    passed_slots : (j : ℕ) → i ≤ j → j < x → j * slot + 4 ≤ length m → four_at m (j * slot) ≡ w.key → ⊥
    passed_slots j p q u e =
        let z : j * slot + 0 ≡ j * slot = omega arith in
        S.none j p q (omega arith) (ap (four_at m) z ∙ e)

    pub on_slot : x < n → Onward m n tail k i w x
    on_slot q = record {
      low = S.low (omega arith);
      high = omega arith;
      slots = λ j p u _. passed_slots j p u;
      words = λ j p u v. absurd (omega arith);
    }

    pub on_both : (r : ℕ) → n ≤ x → SeeksWord tail 0 k w.first w.count r → Onward m n tail k i w (n + r)
    on_both r q g = record {
      low = omega arith;
      high = let a = g.high in omega arith;
      slots = λ j p u v. passed_slots j p (omega arith);
      words = λ j p u v. g.none (j - n) (omega arith) (omega arith);
    }

-- ---- what is passed over is no child

module _ (m : List ℕ) (n : ℕ) (tail : List ℕ) (s : ℕ) (c : Constraint) (fm : Bytes m) (w : Wanted) (W : Wants s c w) where
  slot_begins : (j f : ℕ) → site_in m j ≡ child s c f → (j * slot + 4 ≤ length m) × (four_at m (j * slot) ≡ w.key)
  unfolding begins
  slot_begins j f e =
      let b = site_held m j (child s c f) fm e (child_real s c f) in
      let l = child_long s c f in
      let h = held m j (body (child s c f)) b (omega arith) in
      let z : j * slot ≡ j * slot + 0 = omega arith in
      let a = h.inside in
      (omega arith, ap (four_at m) z ∙ held_four m j (body (child s c f)) h 0 l ∙ begins_alike s c f ∙ sym W.key)

  word_is : (v f : ℕ) → f < child_count c → site_of_word v ≡ child s c f → v ≡ w.first + 256 * f
  word_is v f p e =
      let a = child_positive s c f in
      let b = ap word_of e in
      let d = word_told v (omega arith) in
      let g = child_step s c f p in
      let h = W.first.is in
      omega arith

  pub no_child : (k i r : ℕ) → Onward m n tail k i w r → (j : ℕ) → i ≤ j → j < r → (f : ℕ) → f < child_count c → site_there m n tail j ≡ child s c f → ⊥
  unfolding site_there
  no_child k i r O j l h f p e = go (ltb j n) refl e
    where
      go : (b : Bool) → ltb j n ≡ b → (if b then site_in m j else site_of_word (get_or tail (j - n) 0)) ≡ child s c f → ⊥
      go true q u = let z = slot_begins j f u in O.slots j l h (ltb-true j n q) z.0 z.1
      go false q u =
          let z = word_is (get_or tail (j - n) 0) f p u in
          let v = W.count in
          let y = ltb-false j n q in
          O.words j l h y (inside z) f (omega arith) z
        where
          inside : get_or tail (j - n) 0 ≡ w.first + 256 * f → j - n < length tail
          inside z = there (ltb (j - n) (length tail)) refl
            where
              there : (b : Bool) → ltb (j - n) (length tail) ≡ b → j - n < length tail
              there true t = ltb-true (j - n) (length tail) t
              there false t =
                  let d = get_or-eq_default tail 0 (ltb-false (j - n) (length tail) t) in
                  let a = child_positive s c 0 in
                  let b = W.first.is in
                  absurd (omega arith)
