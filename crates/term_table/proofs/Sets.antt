-- "An edge runs from a set's term to each term in its Extractor or Constructor sites", and nothing else gives one.
use mathlib.Core.Path.{◌≡◌, refl, sym, ◌∙◌, ap}
use mathlib.Core.Logic.{◌↔◌}
use mathlib.Core.Option.{Option, none, some}
use mathlib.Core.List.Memᴰ
use mathlib.Core.List.{[], ◌∷◌, map, Memᴰ}
use Prim.Native.Nat.{ℕ}
use Rattle.paper.specs.Words.{Edges, joined}
use Rattle.paper.specs.Sites.{Site, term_of}
use Rattle.paper.specs.Loading.{Set}
use Rattle.paper.specs.Terms.{edge_to, edges_of}
use Rattle.term_table.proofs.Lists.{in_joined, Within, of_list, of_joined, in_map, Mapped, mapped, of_map}

pub data From (g : Set) (a b : ℕ) : Type 0 where
  site : (s : Site) → Memᴰ s g.sites → a ≡ g.term → term_of s ≡ some b → From g a b

pub edges_of_is : (g : Set) (a b : ℕ) → Memᴰ (a, b) (edges_of g) ↔ From g a b
unfolding edges_of
edges_of_is g a b = (of, to)
  where
    edge : Site → Edges
    edge s = edge_to g.term (term_of s)

    one : (s : Site) → Memᴰ s g.sites → (o : Option ℕ) → term_of s ≡ o → Memᴰ (a, b) (edge_to g.term o) → From g a b
    one s n none e m = absurd (Memᴰ.not-nil m)
    one s n (some d) e m =
        let q = Memᴰ.eq_of_singleton m in
        site s n (ap (λ (z : ℕ × ℕ). z.0) q) (e ∙ ap some (sym (ap (λ (z : ℕ × ℕ). z.1) q)))

    here : (l : Edges) → Memᴰ (a, b) l → Mapped edge g.sites l → From g a b
    here l m (mapped s n e) = one s n (term_of s) refl (rw e at m)

    go : Within (a, b) (map edge g.sites) → From g a b
    go (of_list l k m) = here l m (of_map edge g.sites l k)

    of : Memᴰ (a, b) (joined (map edge g.sites)) → From g a b
    of m = go (of_joined (a, b) (map edge g.sites) m)

    to : From g a b → Memᴰ (a, b) (joined (map edge g.sites))
    to (site s n p q) =
        let e : edge s ≡ (g.term, b) ∷ [] = ap (edge_to g.term) q in
        let h : ◌≡◌ {A = ℕ × ℕ} (a, b) (g.term, b) = rw p refl in
        in_joined (a, b) (edge s) (map edge g.sites) (in_map edge s g.sites n) (rw e (Memᴰ.head h))
