-- 01's example, of the table that four calls make.
use mathlib.Core.Path.{◌≡◌, refl, sym, ◌∙◌, ap}
use mathlib.Core.Bool.{Bool, true, false, ◌&&◌}
use mathlib.Core.List.{[], ◌∷◌, Memᴰ}
use Prim.Native.Nat.{ℕ, ◌<◌}
use native.Mathlib.Omega.{arith}
use lib.Dec.{ltb}
use borrow.Author.Tests.{ltb-true}
use Rattle.paper.specs.Words.{Edges, every}
use Rattle.paper.proofs.Lists.{no_way}
use Rattle.term_table.specs.Table.{terms, no_edges, with_edges, cyclic_terms}
use Rattle.term_table.specs.Heads.{Between}
use Rattle.term_table.specs.Example.{example, its_cyclic, example_is}
use Rattle.term_table.proofs.Adding.{cyclic_terms_held}

-- a computed test that edges run between terms
fits : ℕ × ℕ → Bool
fits e = ltb e.0 terms && ltb e.1 terms

fits_all : (es : Edges) → every fits es ≡ true → Between es
unfolding every fits Between
fits_all [] h a b m = elim m [ ]
fits_all (e ∷ es) h a b m = go (ltb e.0 terms) refl (ltb e.1 terms) refl h m (λ q n. fits_all es q a b n)
  where
    go : (x : Bool) → ltb e.0 terms ≡ x → (y : Bool) → ltb e.1 terms ≡ y → ((x && y) && every fits es) ≡ true
        → Memᴰ (a, b) (e ∷ es) → (every fits es ≡ true → Memᴰ (a, b) es → (a < terms) × (b < terms)) → (a < terms) × (b < terms)
    go true p true q h (Memᴰ.head w) r =
        let u : a ≡ e.0 = ap (λ (z : ℕ × ℕ). z.0) w in
        let v : b ≡ e.1 = ap (λ (z : ℕ × ℕ). z.1) w in
        let k = ltb-true e.0 terms p in
        let l = ltb-true e.1 terms q in
        (omega arith, omega arith)
    go true p true q h (Memᴰ.tail n) r = r h n
    go true p false q h n r = no_way (sym h)
    go false p y q h n r = no_way (sym h)

-- the table after the four calls
pub example_cyclic : cyclic_terms (with_edges no_edges example) ≡ its_cyclic
unfolding every fits
example_cyclic = cyclic_terms_held example (fits_all example refl) ∙ example_is
