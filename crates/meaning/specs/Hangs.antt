-- Check 5: what a rule without a hanging site names is rooted (`named_rooted`).
use Rattle.std.specs.Prelude.{◌≡◌, Bool, not, ℕ, ◌<◌, length}
use Rattle.std.proofs.Math.Path.{refl}
use Rattle.std.proofs.Common.{sym, ap, ◌∙◌, arith}
use Rattle.std.proofs.Math.Option.{Option, none, some}
use Rattle.std.proofs.Math.Bool.{true, false}
use mathlib.Core.List.{Memᴰ}
use Rattle.std.proofs.Math.ListN.{get_elem?}
use Rattle.paper.specs.declared.Constraint.{Constraint}
use Rattle.paper.specs.Words.{look, any, keep}
use Rattle.paper.specs.Sites.{Site, const_bool, const_int, const_prim, argument, extractor, constructor, iterator, make_variant, match_variant, make_struct, extract_struct, make_some, match_some, match_tuple, parent, child, children, site_at, same_site}
use Rattle.paper.specs.Loading.{Loading, has_child, not_child, hangs, hanging}
use Rattle.paper.proofs.Laws.{same_site_true}
use Rattle.paper.proofs.Adding.{inside_has, has_site_at}
use Rattle.paper.proofs.Tables.{in_keep}
use Rattle.meaning.specs.Values.{proj_at, field_of_proj_at}
use Rattle.meaning.specs.Kinds.{free, kind_of, or_outside, kind_in}
use Rattle.meaning.specs.Model.{Rooted, top, under}
use Rattle.meaning.specs.Places.{child_site, kind_of_site, of_children}
use Rattle.meaning.specs.Lists.{of_any, least_none}

-- the kinds with a parent are the children
data Lies (s : Site) : Option ℕ → Type 0 where
  freely : kind_of s ≡ free → Lies s none
  beneath : {m : ℕ} → Lies s (some m)

lies : (s : Site) → Lies s (parent s)
unfolding parent
lies (const_bool t b) = freely refl
lies (const_int t h l) = freely refl
lies (const_prim s) = freely refl
lies (argument i) = freely refl
lies (extractor t s) = freely refl
lies (constructor t n l) = freely refl
lies (iterator s) = freely refl
lies (make_variant t v l) = freely refl
lies (match_variant s v f) = beneath
lies (make_struct t l) = freely refl
lies (extract_struct s f) = beneath
lies (make_some s) = freely refl
lies (match_some s) = beneath
lies (match_tuple s f) = freely refl

module _ (l : Loading) (fine : hanging l ≡ none) where
  stands : (n : ℕ) → Memᴰ n l.named → hangs l n ≡ false
  unfolding hanging
  stands n m = go (hangs l n) refl
    where
      go : (b : Bool) → hangs l n ≡ b → hangs l n ≡ false
      go true e = absurd (least_none (keep (hangs l) l.named) n fine (in_keep (hangs l) l.named n m e))
      go false e = e

  pub named_rooted : (n : ℕ) → Memᴰ n l.named → n < length l.sites → Rooted (kind_in l.sites) (look l.constraints) n
  unfolding hangs
  named_rooted n m h = go (site_at l.sites n, inside_has l.sites n h)
    where
      under_child : (s : Site) (p : ℕ) (c : Constraint) → get_elem? l.sites n ≡ some s → look l.constraints p ≡ some c →
          any (same_site s) (children p c) ≡ true → Rooted (kind_in l.sites) (look l.constraints) n
      under_child s p c e q a =
          let r = of_any (same_site s) (children p c) a in
          let w = of_children p c r.0 r.1 in
          let i = w.0 in
          let z : s ≡ child p c i = same_site_true s r.0 r.2 ∙ w.2 in
          under p (proj_at c i) c i (ap or_outside e ∙ (ap kind_of z ∙ (ap kind_of (child_site p c i) ∙ kind_of_site p (proj_at c i)))) q
          (field_of_proj_at c i w.1)

      has : (s : Site) (p : ℕ) (o : Option Constraint) → get_elem? l.sites n ≡ some s → look l.constraints p ≡ o → not (has_child o p s) ≡ false →
          Rooted (kind_in l.sites) (look l.constraints) n
      has s p none e q a = let z : ◌≡◌ {A = ℕ} 0 1 = cc in absurd (omega arith)
      has s p (some c) e q a = yes_is (any (same_site s) (children p c)) refl a
        where
          yes_is : (b : Bool) → any (same_site s) (children p c) ≡ b → not b ≡ false → Rooted (kind_in l.sites) (look l.constraints) n
          yes_is true w v = under_child s p c e q w
          yes_is false w v = let z : ◌≡◌ {A = ℕ} 0 1 = cc in absurd (omega arith)

      at : (s : Site) → get_elem? l.sites n ≡ some s → {o : Option ℕ} → Lies s o → not_child l.constraints s o ≡ false →
          Rooted (kind_in l.sites) (look l.constraints) n
      at s e (freely f) a = top (ap or_outside e ∙ f)
      at s e (beneath {m = p}) a = has s p (look l.constraints p) e refl a

      go : (s : Site) × (get_elem? l.sites n ≡ some s) → Rooted (kind_in l.sites) (look l.constraints) n
      go (s, e) = at s e (lies s) (ap (λ (x : Site). not_child l.constraints x (parent x)) (sym (has_site_at l.sites n s e)) ∙ stands n m)
