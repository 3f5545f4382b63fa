-- Laws of lines and sheets in the buffers, for the functions' proofs.
use mathlib.Core.Path.{◌≡◌, refl, sym, ap, subst, ◌∙◌}
use mathlib.Core.Bool.{Bool, true, false}
use mathlib.Core.List.{List, [], ◌∷◌}
use Prim.Native.Nat.{ℕ}
use Rattle.std.specs.Prelude.{Result, Ok, Err, OnErr}
use native.Mathlib.Omega.{arith}
use lib.ListN.{length, drop}
use lib.Dec.{eqb}
use Rattle.paper.specs.Text.{text}
use Rattle.std.specs.List.{starts_with}
use Rattle.std.proofs.lemmas.Bool.Decides.{Decides-eqb}
use Rattle.std.proofs.lemmas.Slice.Eq.{starts_is}
use Rattle.paper.proofs.Lists.{drop_all}
use Rattle.paper.proofs.Laws.{same_list_true, same_list_refl}
use Rattle.sheet_lines.specs.declared.Held.{Held}
use Rattle.sheet_lines.specs.Held.{no_line}
use Rattle.term_table.specs.Table.{Square, no_edges}
use Rattle.sheet_reader.specs.declared.Reader.{Reader}
use Rattle.tell_text.specs.Written.{wrote}
use Rattle.run_answers.specs.declared.How.{How}
use Rattle.run_lines.specs.declared.Marks.{Marks}
use Rattle.run_lines.specs.declared.Flow.{Flow}
use Rattle.run_lines.specs.Taken.{is_border, Closed, fresh_flow, Bordered}

-- a fact stands beside a result, whichever it is
pub at_error : {T E P : Type 0} (r : Result T E) → P → OnErr r P
at_error (Ok x) p = tt
at_error (Err e) p = p

-- ---- the line between two sheets
pub no_border : (s : List ℕ) → (length s ≡ 4 → ⊥) → false ≡ is_border s
unfolding is_border
no_border s h = go (is_border s) refl
  where
    go : (y : Bool) → is_border s ≡ y → false ≡ is_border s
    go false g = sym g
    go true g = absurd (h (ap length (same_list_true s (45 ∷ 45 ∷ 45 ∷ 45 ∷ []) g)))

pub border_is : (s : List ℕ) (b : Bool) → length s ≡ 4 → b ≡ starts_with eqb s (45 ∷ 45 ∷ 45 ∷ 45 ∷ []) → b ≡ is_border s
unfolding is_border
border_is s b n e = go b (is_border s) refl refl
  where
    go : (x y : Bool) → b ≡ x → is_border s ≡ y → b ≡ is_border s
    go true true f g = f ∙ sym g
    go false false f g = f ∙ sym g
    go true false f g =
        let w = starts_is Decides-eqb s (45 ∷ 45 ∷ 45 ∷ 45 ∷ []) b e in
        let none : drop 4 s ≡ [] = drop_all s 4 (omega arith) in
        let four : s ≡ 45 ∷ 45 ∷ 45 ∷ 45 ∷ [] = rw none at (w.0 f) in
        f ∙ sym (ap is_border four ∙ same_list_refl (45 ∷ 45 ∷ 45 ∷ 45 ∷ []))
    go false true f g =
        let w = starts_is Decides-eqb s (45 ∷ 45 ∷ 45 ∷ 45 ∷ []) b e in
        w.1 [] (same_list_true s (45 ∷ 45 ∷ 45 ∷ 45 ∷ []) g) ∙ sym g

-- ---- a border
pub bordered_here : (how : How) (r : Reader) (k : Marks) (h : Held) (t t' : Square) (room room' out out₁ out' : List ℕ) (n filled : ℕ) (f : Flow) → h ≡ no_line → Closed how r k h t room room' out out₁ n → (out', filled) ≡ wrote (out₁, n) (text "----") → f ≡ fresh_flow filled → t' ≡ no_edges → Bordered how r k t t' room room' out out' f
unfolding fresh_flow
bordered_here how r k h t t' room room' out out₁ out' n filled f e c w g u =
    let x : filled ≡ f.marks.filled = sym (ap (λ (z : Flow). z.marks.filled) g) in
    record {
      between = (out₁, n);
      closed = subst (λ (z : Held). Closed how r k z t room room' out out₁ n) e c;
      border = ap (λ (z : ℕ). (out', z)) (sym x) ∙ w;
      fresh = g ∙ ap fresh_flow x;
      table = u;
    }
