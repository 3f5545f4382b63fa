-- Any values of the free sites make an input; a table that grows keeps the values that it had, and an input of it is part of one of the larger.
use Rattle.std.specs.Prelude.{◌≡◌}
use Rattle.std.proofs.Math.Path.{refl, sym}
use Rattle.std.proofs.Common.{ap, ◌∙◌, arith}
use Rattle.std.proofs.Math.Option.{Option, none, some}
use Prim.Native.Nat.{ℕ, zero, suc, ◌<◌}
use Rattle.paper.specs.Inputs.{Value, absent, and_then, Given}
use Rattle.meaning.specs.Values.{Proj, field}
use Rattle.meaning.specs.Kinds.{Kind, outside, free, child_of, Reads}

-- the value of a site over values of the free ones; a source is lower, so the number bounds how deep the calls go
eval : (ℕ → Kind) → (ℕ → Value) → ℕ → ℕ → Option Value
eval kind u zero n = none
eval kind u (suc k) n = elim (kind n) [
  | outside ↦ none
  | free ↦ some (u n)
  | child_of m p ↦ and_then (eval kind u k m) (field p)
]

pub value_of : (ℕ → Kind) → (ℕ → Value) → ℕ → Option Value
value_of kind u n = eval kind u (suc n) n

abbrev pub Lower : (ℕ → Kind) → Type 0
Lower kind = (n m : ℕ) (p : Proj) → kind n ≡ child_of m p → m < n

eval_child : (kind : ℕ → Kind) (u : ℕ → Value) (k n m : ℕ) (p : Proj) → kind n ≡ child_of m p → eval kind u (suc k) n ≡ and_then (eval kind u k m) (field p)
unfolding eval
eval_child kind u k n m p e = rw (e, eval)

-- Two tables that agree up to n, and two amounts of fuel above n, give one value
eval_agree : (kind kind' : ℕ → Kind) (u : ℕ → Value) (low : Lower kind) (top : ℕ) (same : (n : ℕ) → n < top → kind' n ≡ kind n) (k j n : ℕ) (o : Kind) →
    kind n ≡ o → n < top → n < k → n < j → eval kind u k n ≡ eval kind' u j n
unfolding eval
eval_agree kind kind' u low top same zero j n o e t h l = absurd (omega arith)
eval_agree kind kind' u low top same (suc k) zero n o e t h l = absurd (omega arith)
eval_agree kind kind' u low top same (suc k) (suc j) n outside e t h l = rw (e, eval, same n t, e, eval)
eval_agree kind kind' u low top same (suc k) (suc j) n free e t h l = rw (e, eval, same n t, e, eval)
eval_agree kind kind' u low top same (suc k) (suc j) n (child_of m p) e t h l =
    let b = low n m p e in
    eval_child kind u k n m p e
    ∙ (ap (λ x. and_then x (field p)) (eval_agree kind kind' u low top same k j m (kind m) refl (omega arith) (omega arith) (omega arith))
    ∙ sym (eval_child kind' u j n m p (same n t ∙ e)))

-- any values of the free sites make an input
pub value_of_free : (kind : ℕ → Kind) (u : ℕ → Value) (n : ℕ) → kind n ≡ free → value_of kind u n ≡ some (u n)
unfolding value_of eval
value_of_free kind u n e = rw (e, eval)

pub value_of_child : (kind : ℕ → Kind) (u : ℕ → Value) → Lower kind → (n m : ℕ) (p : Proj) → kind n ≡ child_of m p →
    value_of kind u n ≡ and_then (value_of kind u m) (field p)
unfolding value_of
value_of_child kind u low n m p e =
    let b = low n m p e in
    eval_child kind u n n m p e ∙ ap (λ x. and_then x (field p)) (eval_agree kind kind u low n (λ k h. refl) n (suc m) m (kind m) refl b b (omega arith))

pub value_of_input : (kind : ℕ → Kind) (u : ℕ → Value) → Lower kind → Reads kind (value_of kind u)
value_of_input kind u low = record { free_has = λ n e. (u n, value_of_free kind u n e); child_has = value_of_child kind u low }

-- a table that grows keeps the values of the sites that it had
pub value_of_grow : (kind kind' : ℕ → Kind) (u : ℕ → Value) → Lower kind → (top : ℕ) → ((n : ℕ) → n < top → kind' n ≡ kind n) → (n : ℕ) → n < top →
    value_of kind u n ≡ value_of kind' u n
unfolding value_of
value_of_grow kind kind' u low top same n h = eval_agree kind kind' u low top same (suc n) (suc n) n (kind n) refl h (omega arith) (omega arith)

-- an input of a table is the old value-at of one of a table that grew from it
abbrev or_absent : Option Value → Value
or_absent none = absent
or_absent (some x) = x

module _ (kind kind' : ℕ → Kind) (low : Lower kind) (low' : Lower kind') (top : ℕ) (same : (n : ℕ) → n < top → kind' n ≡ kind n)
    (inside : (n : ℕ) → n < top → kind n ≡ outside → ⊥) (at : Given) (I : Reads kind at) where
  freely : ℕ → Value
  freely n = or_absent (at n)

  agrees : (k n : ℕ) (o : Kind) → kind n ≡ o → n < k → n < top → at n ≡ value_of kind' freely n
  unfolding freely
  agrees zero n o e h t = absurd (omega arith)
  agrees (suc k) n outside e h t = absurd (inside n t e)
  agrees (suc k) n free e h t =
      let x = I.free_has n e in
      x.1 ∙ (ap (λ o. some (or_absent o)) (sym x.1) ∙ sym (value_of_free kind' freely n (same n t ∙ e)))
  agrees (suc k) n (child_of m p) e h t =
      let l = low n m p e in
      I.child_has n m p e ∙ (ap (λ x. and_then x (field p)) (agrees k m (kind m) refl (omega arith) (omega arith))
      ∙ sym (value_of_child kind' freely low' n m p (same n t ∙ e)))

  pub input_grow : (at' : Given) × Reads kind' at' × ((n : ℕ) → n < top → at n ≡ at' n)
  input_grow = (value_of kind' freely, value_of_input kind' freely low', λ n h. agrees (suc n) n (kind n) refl (omega arith) h)
