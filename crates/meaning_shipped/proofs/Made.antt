-- Lent memory that the calls made: m holds n sites, ws holds k kept rules. It is one of paper's `Made` sets.
use Rattle.std.specs.Prelude.{◌≡◌, refl, List, ℕ, suc, ◌*◌, ◌<◌, length, leb}
use Rattle.std.proofs.Common.{sym, ap, ◌∙◌}
use Rattle.std.proofs.Math.Option.{Option, none, some}
use Rattle.paper.specs.declared.Rule.{Rule}
use Rattle.paper.specs.declared.Refusal.TheVariants.{TooManySites}
use Rattle.paper.specs.Words.{below}
use Rattle.paper.specs.Numbers.{Outcome, done, refused}
use Rattle.paper.specs.Sites.{Site, Sound, Added, add}
use Rattle.paper.specs.Loading.{Set, written, Made, begun, site_added, rule_loaded, empty_set, with_sites, with_rule}
use Rattle.paper.specs.Layout.{whole, site_read}
use Rattle.paper.proofs.Outcomes.{not_refused, done_once, bind_done, demand_done}
use Rattle.paper.proofs.Making.{made_sound}
use Rattle.rule_words.specs.Stored.{run, kept_first}
use Rattle.site_slots.specs.Seeking.{slot}
use Rattle.sites.specs.Slots.{sites_in, held_by, add_body, added_in, after_add}
use Rattle.sites.proofs.After.{count_add, after_add_is}
use Rattle.item_words.specs.Items.{rule_in}
use Rattle.rule_load.specs.Whole.{set_in, load_in, sites_after, words_after}
use Rattle.rule_load.proofs.Ranging.{RuleFits}
use Rattle.rule_load.proofs.Afterwards.{kept_comes, after_sites, after_kept}
use Rattle.meaning_shipped.specs.Words.{sites_then, rules_then, MadeIn, started, site_in, loaded_in}
use Rattle.meaning_shipped.specs.Keeping.{loaded_so}
use Rattle.meaning_shipped.proofs.Handed.{handed_fits}

-- ---- any answer: a refused call changes nothing
pub after_adding : (m : List ℕ) (n : ℕ) (ws : List ℕ) (k at : ℕ) (b : List ℕ) → MadeIn m n ws k →
    MadeIn (after_add m n (added_in m n at b)) (count_add n (added_in m n at b)) ws k
after_adding m n ws k at b M = go (added_in m n at b) refl
  where
    go : (o : Outcome Added) → added_in m n at b ≡ o → MadeIn (after_add m n o) (count_add n o) ws k
    go (done a) e = site_in at b a M e
    go (refused x) e = M

pub after_loading : (m : List ℕ) (n : ℕ) (ws : List ℕ) (k : ℕ) (r : Rule) → RuleFits r → MadeIn m n ws k →
    MadeIn (sites_after m n (load_in m n ws k r)) (sites_then n (load_in m n ws k r)) (words_after ws k (load_in m n ws k r))
    (rules_then k (load_in m n ws k r))
after_loading m n ws k r F M = go (load_in m n ws k r) refl
  where
    go : (o : Outcome Set) → load_in m n ws k r ≡ o → MadeIn (sites_after m n o) (sites_then n o) (words_after ws k o) (rules_then k o)
    go (done g) e = loaded_in r g M F e
    go (refused x) e = M

pub after_handing : (m : List ℕ) (n : ℕ) (ws : List ℕ) (k : ℕ) (items : List ℕ) (place priority count : ℕ) → place < 4294967296 →
    priority < 18446744073709551616 → MadeIn m n ws k →
    MadeIn (sites_after m n (load_in m n ws k (rule_in items place priority count))) (sites_then n (load_in m n ws k (rule_in items place priority count)))
    (words_after ws k (load_in m n ws k (rule_in items place priority count))) (rules_then k (load_in m n ws k (rule_in items place priority count)))
after_handing m n ws k items place priority count p q M = after_loading m n ws k (rule_in items place priority count)
    (handed_fits items place priority count p q) M

-- ---- it is one of paper's made sets
none_made : (m ws : List ℕ) → Made (set_in m 0 ws 0)
unfolding set_in sites_in below kept_first run empty_set
none_made m ws = begun 0 0

-- the site that a body says
pub the_site : (m : List ℕ) (n at : ℕ) (o : Option Site) (a : Added) → add_body m n at o ≡ done a → (s : Site) × (add (sites_in m n) at s ≡ done a)
the_site m n at none a e = absurd (not_refused e)
the_site m n at (some s) a e =
    let d = bind_done (add (sites_in m n) at s) (held_by m at) a e in
    let f = demand_done (leb (length d.0.sites * slot) (length m)) (TooManySites (length d.0.sites) at) _ a d.2 in
    (s, d.1 ∙ ap done (done_once f.1))

site_made : (m : List ℕ) (n : ℕ) (ws : List ℕ) (k at : ℕ) (b : List ℕ) (a : Added) → Made (set_in m n ws k) → added_in m n at b ≡ done a →
    Made (set_in (after_add m n (done a)) (length a.sites) ws k)
unfolding set_in with_sites added_in
site_made m n ws k at b a M e =
    let s = the_site m n at (whole (site_read b)) a e in
    let q : sites_in (after_add m n (done a)) (length a.sites) ≡ a.sites = ap (λ o. sites_in (after_add m n o) (length a.sites)) (sym e) ∙
    after_add_is m n at b a e in
    rw q (site_added at s.0 a M s.1)

loaded_is : (m : List ℕ) (n : ℕ) (ws : List ℕ) (k : ℕ) (r : Rule) (g : Set) → RuleFits r → load_in m n ws k r ≡ done g →
    set_in (sites_after m n (done g)) (length g.sites) (words_after ws k (done g)) (suc k) ≡ g
unfolding set_in with_rule
loaded_is m n ws k r g F e =
    let c = kept_comes m n ws k r g e in
    let t : g.term ≡ 0 = ap (λ (x : Set). x.term) c.after in
    let f : g.flags ≡ 0 = ap (λ (x : Set). x.flags) c.after in
    let s = after_sites m n ws k r g e in
    let q = after_kept m n ws k r g e F in
    rw (s, q) (named t f)
  where
    named : g.term ≡ 0 → g.flags ≡ 0 → record { term = 0; flags = 0; sites = g.sites; kept = g.kept } ≡ g
    named y z = ap (λ (t : ℕ). record { term = t; flags = 0; sites = g.sites; kept = g.kept }) (sym y) ∙
        ap (λ (f : ℕ). record { term = g.term; flags = f; sites = g.sites; kept = g.kept }) (sym z)

pub made_in : {m : List ℕ} {n : ℕ} {ws : List ℕ} {k : ℕ} → MadeIn m n ws k → Made (set_in m n ws k)
made_in (started m ws) = none_made m ws
made_in (site_in {m = m} {n = n} {ws = ws} {k = k} at b a M e) = site_made m n ws k at b a (made_in M) e
made_in (loaded_in {m = m} {n = n} {ws = ws} {k = k} r g M F e) = let q = loaded_is m n ws k r g F e in
    rw q (rule_loaded (written r) (made_in M) (loaded_so m n ws k r g e))

pub sound_in : {m : List ℕ} {n : ℕ} {ws : List ℕ} {k : ℕ} → MadeIn m n ws k → Sound (sites_in m n)
unfolding set_in
sound_in M = made_sound (made_in M)
