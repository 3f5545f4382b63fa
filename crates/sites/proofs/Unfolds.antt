-- Unfoldings of a table in memory.
use mathlib.Core.Path.{◌≡◌, sym, ap, ◌∙◌}
use mathlib.Core.Bool.{true, false}
use mathlib.Core.List.{List, [], ◌∷◌, ◌++◌, map}
use Prim.Native.Nat.{ℕ, suc, ◌+◌, ◌-◌, ◌*◌, ◌≤◌, ◌<◌, min}
use native.Mathlib.Omega.{arith}
use lib.ListN.{length, get_or, take, drop}
use lib.Seq.{get_or_at, take-append_seam}
use borrow.Author.Tests.{lt-ltb, le-ltb, le-leb, lt-leb}
use Rattle.std.specs.declared.result.Result.TheVariants.{Err, Ok}
use Rattle.std.specs.declared.option.Option.TheVariants.{None, Some}
use Rattle.paper.specs.Words.{joined, below}
use Rattle.paper.specs.Numbers.{max_unfolding, Outcome, done, refused}
use Rattle.paper.specs.declared.Refusal.{Refusal}
use Rattle.paper.specs.declared.Refusal.TheVariants.{Unknown, UnfoldingTooLong}
use Rattle.paper.specs.Sites.{argument, body_by, site_at, known, lower_only, unfolded, unfold_answer}
use Rattle.paper.proofs.Laws.{older_unfolded, unfolded_is, lower_true, lower_false, same_lower}
use Rattle.paper.proofs.Lists.{rest_of}
use Rattle.site_body.specs.Body.{is_body, many_of, no_site, off_of, site_of, words}
use Rattle.site_body.proofs.Tables.{split}
use Rattle.site_body.proofs.Back.{Bytes}
use Rattle.paper.specs.Answered.{Maybe}
use Rattle.sites.specs.Slots.{slot_body, site_in, sites_in, put, Writes, unfolded_in, unfolded_as, after_unfold, length_below}
use Rattle.site_body.proofs.Turns.{words_cons}
use Rattle.site_body.proofs.Bodies.{laid_in, site_none}
use Rattle.sites.proofs.Held.{slot_bytes}
use Rattle.sites.proofs.Places.{sites_length, below_split}
use Rattle.sites.proofs.Put.{writes_fits, writes_none, writes_then, writes_stop, end_full}

-- the sites past s make no difference to it
pub unfolded_at : (m : List ℕ) (n s : ℕ) → s < n → unfolded (sites_in m n) s ≡ unfolded_in m s
unfolding sites_in unfolded_in
unfolded_at m n s h =
    let r = below_split (suc s) n (site_in m) h in
    let l = length_below (suc s) (site_in m) in
    rw r.1 (older_unfolded (below (suc s) (site_in m)) r.0 s (omega arith))

last_site : (m : List ℕ) (s : ℕ) → site_at (sites_in m (suc s)) s ≡ site_in m s
unfolding sites_in site_at below
last_site m s = get_or_at (below s (site_in m)) (site_in m s) [] (argument 0) s (length_below s (site_in m))

-- the paper's rule, in memory
pub unfolded_in_is : (m : List ℕ) (s : ℕ) → unfolded_in m s ≡ body_by (lower_only s (unfolded_in m)) (site_in m s)
unfolding unfolded_in
unfolded_in_is m s =
    unfolded_is (sites_in m (suc s)) s ∙ rw (last_site m s, same_lower s (unfolded (sites_in m (suc s))) (unfolded_in m) (λ k q. unfolded_at m (suc s) k (omega arith)))

pub bytes_as : (m : List ℕ) (s : ℕ) (b : List ℕ) → b ≡ slot_body m s → Bytes m → Bytes b
bytes_as m s b q f = rw q (slot_bytes m s f)

-- a slot that holds no body writes its kind byte alone
pub unfolded_alone : (m : List ℕ) (s : ℕ) (b : List ℕ) → b ≡ slot_body m s → is_body b ≡ false → s < 65536 → unfolded_in m s ≡ 6 ∷ []
unfolding site_in body_by
unfolded_alone m s b q e h =
    let k : site_of (slot_body m s) ≡ no_site = site_none (slot_body m s) (ap is_body (sym q) ∙ e) in
    unfolded_in_is m s ∙ rw (k, lower_false s (unfolded_in m) 65535 (omega arith))

module _ (m : List ℕ) (s : ℕ) (b : List ℕ) (f : Bytes b) (q : b ≡ slot_body m s) (e : is_body b ≡ true) (o k : ℕ) (p : o ≡ off_of b) (n : k ≡ many_of b) where
  abbrev written : List ℕ
  written = joined (map (lower_only s (unfolded_in m)) (words k (drop o b)))

  three_parts : unfolded_in m s ≡ take o b ++ (written ++ drop (o + 2 * k) b)
  unfolding site_in
  three_parts =
      let l = laid_in b f e in
      let c : site_in m s ≡ site_of b = ap site_of (sym q) in
      unfolded_in_is m s ∙ rw (c, p, n, l.front, l.read, l.rest) (split (lower_only s (unfolded_in m)) (site_of b))

  pub head_fits : o + 2 * k ≤ length b
  head_fits = let l = laid_in b f e in omega (arith, l.size)

  module _ (out : List ℕ) (at : ℕ) (h : at ≤ length out) where
    pub stop_head : (o₁ o₂ : List ℕ) → Writes out at (take o b) None o₁ → Writes out at (unfolded_in m s) None o₂
    stop_head o₁ o₂ w = rw three_parts (writes_stop out at (take o b) (written ++ drop (o + 2 * k) b) o₁ o₂ w)

    pub stop_sources : (i : ℕ) (o₁ o₂ o₃ : List ℕ) → length o₁ ≡ length out → Writes out at (take o b) (Some i) o₁ → Writes o₁ i written None o₂ → Writes out at (unfolded_in m s) None o₃
    stop_sources i o₁ o₂ o₃ l w v = rw three_parts (writes_then out at (take o b) (written ++ drop (o + 2 * k) b) i None o₁ o₃ h l w (writes_stop o₁ i written (drop (o + 2 * k) b) o₂ o₃ v))

    pub all_three : (i j : ℕ) (r : Maybe ℕ) (o₁ o₂ o₃ : List ℕ) → length o₁ ≡ length out → length o₂ ≡ length o₁ → Writes out at (take o b) (Some i) o₁ → Writes o₁ i written (Some j) o₂ → Writes o₂ j (take (length b - (o + 2 * k)) (drop (o + 2 * k) b)) r o₃ → Writes out at (unfolded_in m s) r o₃
    all_three i j r o₁ o₂ o₃ l l' w v u =
        let a = writes_fits out at (take o b) i o₁ w in
        let t = rest_of b (o + 2 * k) in
        let c : i ≤ length o₁ = omega (arith, a.0, a.1) in
        rw three_parts (writes_then out at (take o b) (written ++ drop (o + 2 * k) b) i r o₁ o₃ h l w (writes_then o₁ i written (drop (o + 2 * k) b) j r o₂ o₃ c l' v (rw t at u)))

-- where writing ended is within the room
pub end_inside : (out : List ℕ) (at : ℕ) (u : List ℕ) (e : ℕ) (o : List ℕ) → Writes out at u (Some e) o → length o ≡ length out → e ≤ length o
end_inside out at u e o w l = let a = writes_fits out at u e o w in omega (arith, a.0, a.1)

-- ---- the sources that are left
module _ (m : List ℕ) (s : ℕ) (b : List ℕ) (from left : ℕ) where
  abbrev W : ℕ → List ℕ
  W = lower_only s (unfolded_in m)

  abbrev these : List ℕ
  these = joined (map W (words left (drop from b)))

  abbrev others : List ℕ
  others = joined (map W (words (left - 1) (drop (from + 2) b)))

  pub none_left : (out : List ℕ) (at : ℕ) → at ≤ length out → left ≡ 0 → Writes out at these (Some at) out
  unfolding words joined
  none_left out at h e = rw e (writes_none out at h)

  module _ (t : ℕ) (h : from + 2 * left ≤ length b) (c : left ≡ 0 → ⊥) (w : t ≡ get_or b from 0 * 256 + get_or b (from + 1) 0) where
    next_source : these ≡ W t ++ others
    unfolding joined
    next_source =
        let e : left ≡ suc (left - 1) = omega arith in
        let d : words left (drop from b) ≡ t ∷ words (left - 1) (drop (from + 2) b) =
        ap (λ i. words i (drop from b)) e ∙ words_cons (left - 1) b from (omega arith) ∙ ap (λ i. i ∷ words (left - 1) (drop (from + 2) b)) (sym w) in
        rw d

    pub skip_source : (out : List ℕ) (at : ℕ) (r : Maybe ℕ) (o : List ℕ) → s ≤ t → Writes out at others r o → Writes out at these r o
    skip_source out at r o l v = rw (next_source, lower_false s (unfolded_in m) t l) v

    pub stop_source : (out : List ℕ) (at : ℕ) (o o' : List ℕ) → t < s → Writes out at (unfolded_in m t) None o → Writes out at these None o'
    stop_source out at o o' l v = rw (next_source, lower_true s (unfolded_in m) t l) (writes_stop out at (unfolded_in m t) others o o' v)

    pub go_on : (out : List ℕ) (at e : ℕ) (r : Maybe ℕ) (o o' : List ℕ) → at ≤ length out → length o ≡ length out → t < s → Writes out at (unfolded_in m t) (Some e) o → Writes o e others r o' → Writes out at these r o'
    go_on out at e r o o' g k l v u = rw (next_source, lower_true s (unfolded_in m) t l) (writes_then out at (unfolded_in m t) others e r o o' g k v u)

-- ---- the answer

-- past either of two numbers is past the lower; within both is within it
past_one : (a b n : ℕ) → a < n → min a b < n
past_one a b n h = omega arith

past_other : (a b n : ℕ) → b < n → min a b < n
past_other a b n h = omega arith

in_both : (a b n : ℕ) → n ≤ a → n ≤ b → n ≤ min a b
in_both a b n h k = omega arith

module _ (m : List ℕ) (n s : ℕ) (room : List ℕ) where
  abbrev answer : Outcome (List ℕ)
  answer = unfold_answer (sites_in m n) (length room) s

  pub answer_unknown : n ≤ s → answer ≡ refused (Unknown s)
  unfolding unfold_answer known
  answer_unknown h = rw (sites_length m n, le-ltb s n h)

  abbrev limit : ℕ
  limit = min max_unfolding (length room)

  module _ (h : s < n) where
    pub answer_over : limit < length (unfolded_in m s) → answer ≡ refused (UnfoldingTooLong (suc limit))
    unfolding unfold_answer known
    answer_over l = rw (sites_length m n, lt-ltb s n h, unfolded_at m n s h, lt-leb (length (unfolded_in m s)) limit l)

    pub answer_done : length (unfolded_in m s) ≤ limit → answer ≡ done (unfolded_in m s)
    unfolding unfold_answer known
    answer_done l = rw (sites_length m n, lt-ltb s n h, unfolded_at m n s h, le-leb (length (unfolded_in m s)) limit l)

-- ---- what each return of `unfold` cites
pub put_front : (m x : List ℕ) → take (length x) (put m 0 x) ≡ x
unfolding put
put_front m x = take-append_seam x (drop (0 + length x) m)

module _ (m : List ℕ) (n s : ℕ) (room : List ℕ) where
  pub unfold_unknown : n ≤ s → (Err (Unknown s) ≡ unfolded_as (answer m n s room)) × (room ≡ after_unfold room (answer m n s room))
  unfold_unknown h = let w = answer_unknown m n s room h in (rw w, rw w)

  module _ (h : s < n) (over : Refusal) (o : over ≡ UnfoldingTooLong (suc (limit m n s room))) (aside aside' : List ℕ) (z : length aside ≡ max_unfolding) where
    pub unfold_long : Writes aside 0 (unfolded_in m s) None aside' → (Err over ≡ unfolded_as (answer m n s room)) × (room ≡ after_unfold room (answer m n s room))
    unfold_long v =
        let l = end_full (length aside) 0 (unfolded_in m s) v.is in
        let w = answer_over m n s room h (past_one max_unfolding (length room) (length (unfolded_in m s)) (omega arith)) in
        (rw (w, o), rw w)

    module _ (e : ℕ) (v : Writes aside 0 (unfolded_in m s) (Some e) aside') where
      pub ends : (e ≡ length (unfolded_in m s)) × (e ≤ max_unfolding)
      ends = let a = writes_fits aside 0 (unfolded_in m s) e aside' v in let x = a.0 in let y = a.1 in (omega arith, omega arith)

      pub unfold_short : length room < e → (Err over ≡ unfolded_as (answer m n s room)) × (room ≡ after_unfold room (answer m n s room))
      unfold_short l =
          let g = ends in
          let w = answer_over m n s room h (past_other max_unfolding (length room) (length (unfolded_in m s)) (omega (arith, g.0))) in
          (rw (w, o), rw w)

      pub unfold_done : (room' : List ℕ) → e ≤ length room → room' ≡ put room 0 (take e aside') → (Ok e ≡ unfolded_as (answer m n s room)) × (room' ≡ after_unfold room (answer m n s room))
      unfold_done room' l q =
          let g = ends in
          let w = answer_done m n s room h (in_both max_unfolding (length room) (length (unfolded_in m s)) (omega (arith, g.0, g.1)) (omega (arith, g.0))) in
          let a = writes_fits aside 0 (unfolded_in m s) e aside' v in
          let c : take e aside' ≡ unfolded_in m s = rw (a.2, g.0) (put_front aside (unfolded_in m s)) in
          (rw (w, g.0), q ∙ rw (w, c))
