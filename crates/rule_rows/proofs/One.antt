-- One answer fits: `Puts` of `rule_lists::put`. It stands here for `get_or_below`.
use mathlib.Core.Path.{◌≡◌, sym, ap, ◌∙◌}
use mathlib.Core.List.{List}
use Prim.Native.Nat.{ℕ, ◌<◌}
use native.Mathlib.Omega.{arith}
use native.Mathlib.Decide.{dec_lt}
use lib.ListN.{get_or}
use lib.Seq.{ext_get_or}
use Rattle.rule_lists.specs.Entries.{entries, Puts}
use Rattle.rule_rows.proofs.Agreeing.{get_or_below}

-- a pair of the table, by its number
entry_is : (sites rows : List ℕ) (n i : ℕ) → i < n → get_or (entries sites rows n) i (0, 0) ≡ (get_or sites i 0, get_or rows i 0)
unfolding entries
entry_is sites rows n i h = get_or_below n (λ k. (get_or sites k 0, get_or rows k 0)) i (0, 0) h

module _ (sites rows : List ℕ) (held s row : ℕ) (ss rs : List ℕ) (r : ℕ) (ss' rs' : List ℕ) (r' : ℕ)
    (P : Puts sites rows held s row ss rs r) (Q : Puts sites rows held s row ss' rs' r') where
  same_count : r ≡ r'
  same_count = P.number ∙ sym Q.number

  same_entry : (i : ℕ) → i < r → ◌≡◌ {A = ℕ × ℕ} (get_or ss i 0, get_or rs i 0) (get_or ss' i 0, get_or rs' i 0)
  same_entry i h =
      let e = same_count in
      let t : entries ss rs r ≡ entries ss' rs' r' = P.table ∙ sym Q.table in
      sym (entry_is ss rs r i h) ∙ ap (λ x. get_or x i (0, 0)) t ∙ entry_is ss' rs' r' i (omega arith)

  same_site : (i : ℕ) → Dec (i < r) → get_or ss i 0 ≡ get_or ss' i 0
  same_site i (yes h) = ap (λ (p : ℕ × ℕ). p.0) (same_entry i h)
  same_site i (no h) = let e = same_count in P.past_sites i (omega arith) ∙ sym (Q.past_sites i (omega arith))

  same_row : (i : ℕ) → Dec (i < r) → get_or rs i 0 ≡ get_or rs' i 0
  same_row i (yes h) = ap (λ (p : ℕ × ℕ). p.1) (same_entry i h)
  same_row i (no h) = let e = same_count in P.past_rows i (omega arith) ∙ sym (Q.past_rows i (omega arith))

  pub one_put : (ss ≡ ss') × (rs ≡ rs') × (r ≡ r')
  one_put = (
    ext_get_or 0 ss ss' (P.long_sites ∙ sym Q.long_sites) (λ i l. same_site i (dec_lt i r)),
    ext_get_or 0 rs rs' (P.long_rows ∙ sym Q.long_rows) (λ i l. same_row i (dec_lt i r)),
    same_count,
  )
