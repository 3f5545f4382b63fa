-- What a call that kept its rule did, by paper's `load`: it answered `done` of the same set, and the set's last rule is the kept one.
use Rattle.std.specs.Prelude.{◌≡◌, ◌&&◌, List, [], ◌∷◌, ◌++◌, ℕ, suc, ◌+◌, ◌*◌, min, ◌/◌, length, get_or, ltb, leb}
use Rattle.std.proofs.Common.{sym, ap, ◌∙◌}
use Rattle.std.proofs.lemmas.List.{get_or_at}
use Rattle.paper.specs.declared.Refusal.TheVariants.{TooManySites, TooManyRules}
use Rattle.paper.specs.declared.Rule.{Rule}
use Rattle.paper.specs.Numbers.{max_sites, max_rules, done}
use Rattle.paper.specs.Loading.{Set, written, load, with_rule}
use Rattle.paper.specs.Rules.{no_rule}
use Rattle.paper.proofs.Outcomes.{done_once, bind_done, demand_done}
use Rattle.rule_words.specs.Stored.{base, stride, kept_first}
use Rattle.site_slots.specs.Seeking.{slot}
use Rattle.rule_load.specs.Whole.{set_in, load_in}
use Rattle.rule_load.proofs.Parting.{first_length}
use Rattle.rule_load.proofs.Afterwards.{kept_comes}
use Rattle.meaning.specs.Demand3.{Keeps}

pub loaded_so : (m : List ℕ) (n : ℕ) (ws : List ℕ) (k : ℕ) (r : Rule) (g : Set) → load_in m n ws k r ≡ done g → load (set_in m n ws k) (written r) ≡ done g
unfolding load_in
loaded_so m n ws k r g e =
    let x = demand_done (ltb k max_rules && leb (base k + stride) (length ws)) (TooManyRules (suc (min k max_rules))) _ g e in
    let y = demand_done (leb n max_sites) (TooManySites n r.count) _ g x.1 in
    let z = bind_done (load (set_in m n ws k) (written r)) _ g y.1 in
    let w = demand_done (leb (length z.0.sites * slot) (length m)) (TooManySites (length m / slot + 1) r.count) _ g z.2 in
    z.1 ∙ ap done (done_once w.1)

-- the rule that was kept is the set's last
pub kept_last : (m : List ℕ) (n : ℕ) (ws : List ℕ) (k : ℕ) (r : Rule) (g : Set) → load_in m n ws k r ≡ done g →
    Keeps (set_in m n ws k) (written r) g (get_or g.kept k no_rule)
unfolding with_rule set_in
kept_last m n ws k r g e =
    let C = kept_comes m n ws k r g e in
    let a = ap (λ (x : Set). x.kept) C.after in
    let b = ap (λ (x : Set). get_or x.kept k no_rule) C.after ∙ get_or_at (kept_first ws k) _ [] no_rule k (first_length ws k) in
    record { loaded = loaded_so m n ws k r g e; last = a ∙ ap (λ q. kept_first ws k ++ (q ∷ [])) (sym b) }
