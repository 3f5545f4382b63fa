-- "Two sites unfold alike exactly when they are one site."
use mathlib.Core.Path.{◌≡◌, refl, sym, ap, ◌∙◌}
use mathlib.Core.Option.{some}
use mathlib.Core.List.{List, [], ◌∷◌, ◌++◌, map, append_assoc, Memᴰ}
use Prim.Native.Nat.{ℕ, zero, suc, ◌<◌}
use native.Mathlib.Omega.{arith}
use lib.ListN.{length, get_or, get_elem?}
use lib.ListN.{get_or-append}
use Rattle.paper.specs.Words.{two, joined}
use Rattle.paper.specs.Sites.{Site, body, body_by, sources, Sites, site_at, Sound, lower_only, unfolded, same_site}
use Rattle.paper.proofs.Laws.{same_site_true, same_list_refl, lower_true, unfolded_is}
use Rattle.site_body.specs.Body.{kind, offs, tails}
use Rattle.site_body.proofs.Tables.{head, tail, split, row}

append_inj : (p q x y : List ℕ) → length p ≡ length q → p ++ x ≡ q ++ y → (p ≡ q) × (x ≡ y)
append_inj [] [] x y l e = (refl, e)
append_inj [] (b ∷ q) x y l e = let z : ◌≡◌ {A = ℕ} 0 (suc (length q)) = l in absurd (omega arith)
append_inj (a ∷ p) [] x y l e = let z : ◌≡◌ {A = ℕ} (suc (length p)) 0 = l in absurd (omega arith)
append_inj (a ∷ p) (b ∷ q) x y l e =
    let h : a ≡ b = cc in
    let t : p ++ x ≡ q ++ y = cc in
    let r = append_inj p q x y (omega arith) t in
    let u : p ≡ q = r.0 in
    ((cc), r.1)

-- one body, one site
pub same_body : (a b : Site) → body a ≡ body b → a ≡ b
unfolding same_site
same_body a b e = same_site_true a b (rw e (same_list_refl (body b)))

-- w writes no two sources, of the one list and of the other, so that one begins as the other does
abbrev Apart : (ℕ → List ℕ) → List ℕ → List ℕ → Type 0
Apart w l k = (u v : ℕ) (z y : List ℕ) → Memᴰ u l → Memᴰ v k → w u ++ z ≡ w v ++ y → u ≡ v

same_sources : (w : ℕ → List ℕ) (l k : List ℕ) (x y : List ℕ) → Apart w l k → length l ≡ length k → joined (map w l) ++ x ≡ joined (map w k) ++ y → (l ≡ k) × (x ≡ y)
unfolding joined
same_sources w [] [] x y f n e = (refl, e)
same_sources w [] (v ∷ k) x y f n e = let z : ◌≡◌ {A = ℕ} 0 (suc (length k)) = n in absurd (omega arith)
same_sources w (u ∷ l) [] x y f n e = let z : ◌≡◌ {A = ℕ} (suc (length l)) 0 = n in absurd (omega arith)
same_sources w (u ∷ l) (v ∷ k) x y f n e =
    let d : w u ++ (joined (map w l) ++ x) ≡ w v ++ (joined (map w k) ++ y) =
    sym (append_assoc (w u) (joined (map w l)) x) ∙ e ∙ append_assoc (w v) (joined (map w k)) y in
    let h : u ≡ v = f u v (joined (map w l) ++ x) (joined (map w k) ++ y) (Memᴰ.head refl) (Memᴰ.head refl) d in
    let r = append_inj (w u) (w v) (joined (map w l) ++ x) (joined (map w k) ++ y) (ap (λ n. length (w n)) h) d in
    let g = same_sources w l k x y (λ a b z c p q. f a b z c (Memᴰ.tail p) (Memᴰ.tail q)) (omega arith) r.1 in
    let t : l ≡ k = g.0 in
    ((cc), g.1)

-- two sites whose bodies begin alike, their sources written by w, are one
pub one_site : (w : ℕ → List ℕ) (a b : Site) (x y : List ℕ) → Apart w (sources a) (sources b) → body_by w a ++ x ≡ body_by w b ++ y → a ≡ b
unfolding body
one_site w a b x y f e =
    let A : List ℕ = joined (map w (sources a)) in
    let B : List ℕ = joined (map w (sources b)) in
    let d : head a ++ (A ++ (tail a ++ x)) ≡ head b ++ (B ++ (tail b ++ y)) =
    sym (three (head a) A (tail a) x) ∙ ap (λ l. l ++ x) (sym (split w a)) ∙ e ∙ ap (λ l. l ++ y) (split w b) ∙ three (head b) B (tail b) y in
    let ra = row a in
    let rb = row b in
    let k : kind a ≡ kind b =
    sym (get_or-append (head a) (A ++ (tail a ++ x)) 0 0 ra.least ∙ ra.first) ∙ ap (λ l. get_or l 0 0) d
    ∙ (get_or-append (head b) (B ++ (tail b ++ y)) 0 0 rb.least ∙ rb.first) in
    let n : length (head a) ≡ length (head b) = ra.off ∙ ap (λ i. get_or offs i 0) k ∙ sym rb.off in
    let h = append_inj (head a) (head b) (A ++ (tail a ++ x)) (B ++ (tail b ++ y)) n d in
    let c : length (sources a) ≡ length (sources b) = ra.many ∙ rw (k, h.0) (sym rb.many) in
    let s = same_sources w (sources a) (sources b) (tail a ++ x) (tail b ++ y) f c h.1 in
    let l : length (tail a) ≡ length (tail b) = ra.end ∙ ap (λ i. get_or tails i 0) k ∙ sym rb.end in
    let t = append_inj (tail a) (tail b) x y l s.1 in
    same_body a b (split two a ∙ rw (h.0, s.0, t.0) (sym (split two b)))
  where
    three : (p q r z : List ℕ) → (p ++ (q ++ r)) ++ z ≡ p ++ (q ++ (r ++ z))
    three p q r z = simp append_assoc

-- where every source is lower, a site's unfolding is its body with each source unfolded
same_map : (w v : ℕ → List ℕ) (l : List ℕ) → ((m : ℕ) → Memᴰ m l → w m ≡ v m) → map w l ≡ map v l
same_map w v [] f = refl
same_map w v (m ∷ l) f =
    let h : w m ≡ v m = f m (Memᴰ.head refl) in
    let t : map w l ≡ map v l = same_map w v l (λ n q. f n (Memᴰ.tail q)) in
    cc

at_is : (t : Sites) (n : ℕ) → n < length t → get_elem? t n ≡ some (site_at t n)
unfolding site_at
at_is [] n h = absurd (omega arith)
at_is (x ∷ t) zero h = refl
at_is (x ∷ t) (suc n) h = at_is t n (omega arith)

pub unfolded_sound : (t : Sites) → Sound t → (n : ℕ) → n < length t → unfolded t n ≡ body_by (unfolded t) (site_at t n)
unfolded_sound t o n h =
    let s = site_at t n in
    let e = same_map (lower_only n (unfolded t)) (unfolded t) (sources s) (λ m q. lower_true n (unfolded t) m (o.lower n s (at_is t n h) m q)) in
    unfolded_is t n ∙ split (lower_only n (unfolded t)) s ∙ rw e (sym (split (unfolded t) s))

alike_from : (t : Sites) → Sound t → (N i j : ℕ) (x y : List ℕ) → i < N → i < length t → j < length t → unfolded t i ++ x ≡ unfolded t j ++ y → i ≡ j
alike_from t o zero i j x y lt li lj e = absurd (omega arith)
alike_from t o (suc N) i j x y lt li lj e =
    let a = site_at t i in
    let b = site_at t j in
    let apart : Apart (unfolded t) (sources a) (sources b) =
    λ u v z w p q c.
    let lu = o.lower i a (at_is t i li) u p in
    let lv = o.lower j b (at_is t j lj) v q in
    alike_from t o N u v z w (omega arith) (omega arith) (omega arith) c in
    let d : body_by (unfolded t) a ++ x ≡ body_by (unfolded t) b ++ y =
    ap (λ l. l ++ x) (sym (unfolded_sound t o i li)) ∙ e ∙ ap (λ l. l ++ y) (unfolded_sound t o j lj) in
    let s : a ≡ b = one_site (unfolded t) a b x y apart d in
    o.once i j a (at_is t i li) (at_is t j lj ∙ ap some (sym s))

pub alike : (t : Sites) → Sound t → (i j : ℕ) → i < length t → j < length t → (unfolded t i ≡ unfolded t j → i ≡ j) × (i ≡ j → unfolded t i ≡ unfolded t j)
alike t o i j li lj = ((λ e. alike_from t o (suc i) i j [] [] (omega arith) li lj (ap (λ l. l ++ []) e)), (λ e. ap (unfolded t) e))
