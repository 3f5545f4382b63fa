-- What adding the children answers, place by place.
use mathlib.Core.Path.{◌≡◌, refl, sym, ap, ◌∙◌}
use mathlib.Core.Bool.{Bool, true, false}
use mathlib.Core.Option.{some}
use mathlib.Core.List.{List, [], ◌∷◌, ◌++◌, map, append-nil}
use Prim.Native.Nat.{ℕ, zero, suc, ◌+◌, ◌-◌, ◌<◌, ◌≤◌, min}
use native.Mathlib.Omega.{arith}
use lib.ListN.{length, get_or, drop, replicate, length-append, get_or-append}
use lib.Seq.{sets, ext_get_or, drop_at, get_or_at}
use lib.Dec.{ltb}
use borrow.Author.Tests.{lt-ltb, le-ltb, le-leb, lt-leb, ltb-true, ltb-false}
use Rattle.std.specs.declared.result.Result.TheVariants.{Err, Ok}
use Rattle.paper.specs.declared.Constraint.{Constraint}
use Rattle.paper.specs.declared.Refusal.{Refusal}
use Rattle.paper.specs.declared.Refusal.TheVariants.{Unknown, TooManySites, TooManyFields}
use Rattle.std.specs.Prelude.{if◌then◌else◌}
use Rattle.paper.specs.Words.{or_else, below}
use Rattle.paper.specs.Numbers.{max_sites, max_fields, done, refused}
use Rattle.paper.specs.Sites.{Site, Sites, child_count, child, children, number_of, child_number, add_all}
use Rattle.rule_children.specs.Tail.{children_as}
use Rattle.rule_children.specs.declared.Children.{Children}
use Rattle.sites.specs.Slots.{length_below}
use Rattle.rule_children.specs.Tail.{word_of, table, grown, after_grown, refused_as, holds, Sees, news, Ready, Placed}
use Rattle.rule_children.proofs.ScanLaws.{table_length}
use Rattle.rule_children.proofs.GrowLaws.{news_holes, all_fit, all_full, all_unknown, all_none}
use Rattle.rule_children.specs.declared.Seen.{Seen}

get_or_below : (n : ℕ) (f : ℕ → ℕ) (i : ℕ) → i < n → get_or (below n f) i 0 ≡ f i
unfolding below
get_or_below zero f i h = absurd (omega arith)
get_or_below (suc n) f i h = go (ltb i n) refl (get_or_below n f i)
  where
    go : (b : Bool) → ltb i n ≡ b → (i < n → get_or (below n f) i 0 ≡ f i) → get_or (below n f ++ (f n ∷ [])) i 0 ≡ f i
    go true e g = let l = ltb-true i n e in let w = length_below n f in get_or-append (below n f) (f n ∷ []) 0 i (omega arith) ∙ g l
    go false e g = let l = ltb-false i n e in let z : i ≡ n = omega arith in let w = length_below n f in rw z (get_or_at (below n f) (f n) [] 0 n w)

as_number : (t : Sites) (s : ℕ) (c : Constraint) (i v : ℕ) → some v ≡ number_of t (child s c i) → v ≡ child_number t s c i
unfolding child_number
as_number t s c i v e = ap (λ o. or_else o 0) e

-- the numbers as the answer has them
module _ (t : Sites) (s : ℕ) (c : Constraint) (of : List ℕ) (few : child_count c ≤ max_fields) (P : Placed t s c (child_count c) of) where
  abbrev these : ℕ → ℕ
  these i = if ltb i (child_count c) then child_number (t ++ news t s c (child_count c)) s c i else 0

  each : (i : ℕ) → i < max_fields → (b : Bool) → ltb i (child_count c) ≡ b → get_or of i 0 ≡ these i
  each i h true e = rw e (as_number (t ++ news t s c (child_count c)) s c i (get_or of i 0) (P.each i (ltb-true i (child_count c) e)))
  each i h false e = rw e (P.past i (ltb-false i (child_count c) e) h)

  placed_numbers : of ≡ below max_fields these
  placed_numbers =
      ext_get_or 0 of (below max_fields these) (P.eight ∙ sym (length_below max_fields these))
      (λ i h. let e = P.eight in let l : i < max_fields = omega arith in each i l (ltb i (child_count c)) refl ∙ sym (get_or_below max_fields these i l))

zeros : below {A = ℕ} max_fields (λ i. 0) ≡ replicate 8 0
unfolding below
zeros = refl

pub refuse_is : (r : Refusal) → record { outcome = Err r; numbers = replicate 8 0 } ≡ refused_as r
refuse_is r = ap (λ l. record { outcome = Err r; numbers = l }) (sym zeros)

module _ (m : List ℕ) (n : ℕ) (tail : List ℕ) (k at s : ℕ) (c : Constraint) where
  abbrev pub Answer : Children → List ℕ → Type 0
  Answer x tail' = (x ≡ children_as s c (grown m n tail k at s c)) × (tail' ≡ after_grown n tail k (grown m n tail k at s c)) × holds m n tail' (grown m n tail k at s c)

  abbrev t : Sites
  t = table m n tail k

  size : length t ≡ n + k
  size = table_length m n tail k

  answer_refused : (x : Children) (r : Refusal) → x ≡ refused_as r → grown m n tail k at s c ≡ refused r → Answer x tail
  answer_refused x r e g = (e ∙ ap (children_as s c) (sym g), ap (after_grown n tail k) (sym g), rw g tt)

  pub answer_short : (x : Children) (a : ℕ) → x ≡ refused_as (TooManySites a at) → a ≡ n + k → length tail < min max_sites (k + max_fields) → Answer x tail
  unfolding grown
  answer_short x a e q l = answer_refused x (TooManySites a at) e (rw (lt-leb (min max_sites (k + max_fields)) (length tail) l, q))

  module _ (l : min max_sites (k + max_fields) ≤ length tail) where
    pub answer_high : (x : Children) (a : ℕ) → x ≡ refused_as (TooManySites a at) → a ≡ n + k → 65536 ≤ a → Answer x tail
    unfolding grown
    answer_high x a e q h = answer_refused x (TooManySites a at) e (rw (le-leb (min max_sites (k + max_fields)) (length tail) l, ← q, le-ltb a 65536 h))

    module _ (h : n + k < 65536) where
      pub answer_fields : (x : Children) (q : ℕ) → x ≡ refused_as (TooManyFields q at) → q ≡ child_count c → max_fields < q → Answer x tail
      unfolding grown
      answer_fields x q e f g = answer_refused x (TooManyFields q at) e (rw (le-leb (min max_sites (k + max_fields)) (length tail) l, lt-ltb (n + k) 65536 h, ← f, lt-leb q max_fields g))

      module _ (f : child_count c ≤ max_fields) where
        -- where the tail is long enough it is what paper's adding says
        pub grown_adds : grown m n tail k at s c ≡ add_all t at (children s c)
        unfolding grown
        grown_adds = rw (le-leb (min max_sites (k + max_fields)) (length tail) l, lt-ltb (n + k) 65536 h, le-leb (child_count c) max_fields f)

        no_numbers : child_count c ≡ 0 → replicate 8 0 ≡ below max_fields (λ i. if ltb i (child_count c) then child_number t s c i else 0)
        unfolding below
        no_numbers e = rw e

        dropped : (u : List Site) → drop (n + k) (t ++ u) ≡ u
        dropped u = drop_at t u (n + k) size

        pub answer_none : (a : ℕ) → a ≡ n + k → child_count c ≡ 0 → Answer (record { outcome = Ok a; numbers = replicate 8 0 }) tail
        answer_none a q e =
            let g : grown m n tail k at s c ≡ done t = grown_adds ∙ all_none t s c at e in
            let z : a ≡ length t = q ∙ sym size in
            let back : length t - n ≡ k = omega (arith, size) in
            let y : drop (n + k) t ≡ [] = ap (drop (n + k)) (sym (append-nil t)) ∙ dropped [] in
            ((rw z (ap (λ o. record { outcome = Ok (length t); numbers = o }) (no_numbers e))) ∙ ap (children_as s c) (sym g), ap (λ r. sets tail k (map word_of r)) (sym y) ∙ ap (after_grown n tail k) (sym g), rw g (rw back))

        pub answer_unknown : (x : Children) → x ≡ refused_as (Unknown s) → (child_count c ≡ 0 → ⊥) → n + k ≤ s → Answer x tail
        answer_unknown x e z q = answer_refused x (Unknown s) e (grown_adds ∙ all_unknown t s c at (omega (arith, size)) (positive (child_count c) z))
          where
            positive : (q : ℕ) → (q ≡ 0 → ⊥) → 0 < q
            positive zero z = absurd (z refl)
            positive (suc q) z = omega arith

        module _ (S : Seen) (W : Sees t s c S) (b : s < n + k) where
          missing : S.missing ≡ length (news t s c (child_count c))
          missing = W.missing ∙ news_holes t s c S.numbers W.numbers (omega (arith, size)) (child_count c) (omega arith)

          pub answer_full : (x : Children) (a : ℕ) → x ≡ refused_as (TooManySites a at) → a ≡ n + k + (max_sites - (n + k)) + 1 → max_sites - (n + k) < S.missing → Answer x tail
          answer_full x a e q g =
              let z : a ≡ length t + (max_sites - length t) + 1 = q ∙ sym (ap (λ i. i + (max_sites - i) + 1) size) in
              answer_refused x (TooManySites a at) e (grown_adds ∙ all_full t s c at (omega (arith, size)) (omega (arith, size, missing)) ∙ ap (λ i. refused (TooManySites i at)) (sym z))

          pub answer_ready : S.missing ≤ max_sites - (n + k) → Ready t n k s c S.numbers tail
          answer_ready g = record { few = f; seen = W.numbers; size = size; small = h; room = omega (arith, missing); long = l }

          pub answer_done : (of tail' : List ℕ) (a : ℕ) → Placed t s c (child_count c) of → tail' ≡ sets tail k (map word_of (news t s c (child_count c))) → table m n tail' (k + length (news t s c (child_count c))) ≡ t ++ news t s c (child_count c) → a ≡ n + k + S.missing → S.missing ≤ max_sites - (n + k) → Answer (record { outcome = Ok a; numbers = of }) tail'
          answer_done of tail' a P e b' q g =
              let w : grown m n tail k at s c ≡ done (t ++ news t s c (child_count c)) = grown_adds ∙ all_fit t s c at (omega (arith, size)) (omega (arith, size, missing)) in
              let z : a ≡ length (t ++ news t s c (child_count c)) = let y = length-append t (news t s c (child_count c)) in omega (arith, size, missing) in
              let back : length (t ++ news t s c (child_count c)) - n ≡ k + length (news t s c (child_count c)) = let y = length-append t (news t s c (child_count c)) in omega (arith, size) in
              let v = placed_numbers t s c of f P in (
                ap (λ i. record { outcome = Ok i; numbers = of }) z ∙ ap (λ o. record { outcome = Ok (length (t ++ news t s c (child_count c))); numbers = o }) v ∙ ap (children_as s c) (sym w),
                e ∙ ap (λ r. sets tail k (map word_of r)) (sym (dropped (news t s c (child_count c)))) ∙ ap (after_grown n tail k) (sym w),
                rw w (rw back b'),
              )
