-- The theorems of 01's own examples, end to end. Demand 3 of two trials: "0 = 1, 0 structure of two fields" is kept, "0 structure of one field, site 2 that
-- field, 0 = 2" is refused 6.
-- The comparison, of the rules of the sheet given whole.
use Rattle.std.specs.Prelude.{◌≡◌, refl, true, List, [], ◌∷◌, ℕ, zero, suc}
use Rattle.std.proofs.Common.{inr, arith}
use Rattle.std.proofs.Math.Option.{some}
use mathlib.Core.List.Memᴰ
use Rattle.std.proofs.Math.ListN.{get_elem?}
use Rattle.paper.specs.declared.Constraint.{Constraint}
use Rattle.paper.specs.declared.Constraint.TheVariants.{Struct, ConstBool, ConstInt}
use Rattle.paper.specs.declared.Item.TheVariants.{Is, Equal}
use Rattle.paper.specs.declared.Refusal.TheVariants.{Endless}
use Rattle.paper.specs.Words.{look}
use Rattle.paper.specs.Numbers.{number, refused}
use Rattle.paper.specs.Sites.{argument, extract_struct, Sound}
use Rattle.paper.specs.Inputs.{Value, int, structure, nil, more, count, value_at, shape, struct_field, Given, Input, Meets, Agree, Matches, MatchesKept}
use Rattle.paper.specs.Loading.{Set, Written, Kept, load, Made, begun, site_added, rule_loaded, empty_set, with_sites, all_loading}
use Rattle.paper.proofs.Making.{made_sound}
use Rattle.paper.proofs.Labels.{never}
use Rattle.paper.specs.Rules.{all_rules}
use Rattle.meaning.specs.Answers as A
use Rattle.meaning.specs.Pairs.{masks_covers}
use Rattle.meaning.specs.Overlaps.{no_means, subset_exactly, Answers}
use Rattle.meaning.specs.Demand3.{Unmatched, Keeps, demand_2}

-- "Sites 0 and 1 are Arguments 0 and 1."
abbrev two_arguments : Set
two_arguments = record { term = 0; flags = 0; sites = argument 0 ∷ argument 1 ∷ []; kept = [] }

made : Made two_arguments
unfolding all_loading
made = site_added {g = with_sites (empty_set 0 0) (argument 0 ∷ [])} 0 (argument 1) (record { sites = argument 0 ∷ argument 1 ∷ []; number = 1 })
    (site_added {g = empty_set 0 0} 0 (argument 0) (record { sites = argument 0 ∷ []; number = 0 }) (begun 0 0) refl) refl

sound : Sound two_arguments.sites
sound = made_sound made

abbrev pair_rule : Written
pair_rule = record { place = 1; priority = 0; count = 2; items = Equal 0 1 ∷ Is 0 (Struct 7 2) ∷ [] }

abbrev pair_kept : Kept
pair_kept = record { place = 1; priority = 0; constraints = (0, Struct 7 2) ∷ (1, Struct 7 2) ∷ []; equals = (2, 2) ∷ (3, 3) ∷ (4, 2) ∷ (5, 3) ∷ [] }

abbrev pair_set : Set
pair_set = record {
  term = 0;
  flags = 0;
  sites = argument 0 ∷ argument 1 ∷ extract_struct 0 0 ∷ extract_struct 0 1 ∷ extract_struct 1 0 ∷ extract_struct 1 1 ∷ [];
  kept = pair_kept ∷ [];
}

-- the loader keeps it
pub pair_keeps : Keeps two_arguments pair_rule pair_set pair_kept
unfolding all_loading
pair_keeps = record { loaded = refl; last = refl }

-- every matching input has a structure of two fields at site 1, which no item constrains
pub pair_shape : (at : Given) → Input pair_set.sites at → Matches at pair_rule.items → Meets at 1 (Struct 7 2)
unfolding look
pair_shape = (A.shapes two_arguments pair_rule sound pair_set pair_kept pair_keeps.loaded pair_keeps.last 1 (Struct 7 2)).0 refl

-- and equal first fields, sites 2 and 4
pub pair_fields : (at : Given) → Input pair_set.sites at → Matches at pair_rule.items → Agree at 2 4
unfolding look
pair_fields =
    (A.equals two_arguments pair_rule sound pair_set pair_kept pair_keeps.loaded pair_keeps.last 2 4 (λ e. let z : ◌≡◌ {A = ℕ} 0 1 = cc in omega arith) refl refl).0 (2, refl, refl)

-- but no shape there, and not the first field equal to the second
pub pair_no_shape : (c : Constraint) → ((at : Given) → Input pair_set.sites at → Matches at pair_rule.items → Meets at 2 c) → ⊥
unfolding look
pair_no_shape c h = never ((A.shapes two_arguments pair_rule sound pair_set pair_kept pair_keeps.loaded pair_keeps.last 2 c).1 h)

pub pair_no_equal : ((at : Given) → Input pair_set.sites at → Matches at pair_rule.items → Agree at 2 3) → ⊥
unfolding look
pair_no_equal h =
    let w = (A.equals two_arguments pair_rule sound pair_set pair_kept pair_keeps.loaded pair_keeps.last 2 3 (λ e. omega arith) refl refl).1 h in
    let a : some 2 ≡ some w.0 = w.1 in
    let b : some 3 ≡ some w.0 = w.2 in
    let z : ◌≡◌ {A = ℕ} 2 3 = cc in
    omega arith

-- an input that matches: both arguments are the structure of 1 and 2
abbrev one_two : Value
one_two = structure 7 (more (int 3 0 1) (more (int 3 0 2) nil))

abbrev pub pair_input : Given
pair_input n = get_elem? (one_two ∷ one_two ∷ int 3 0 1 ∷ int 3 0 2 ∷ int 3 0 1 ∷ int 3 0 2 ∷ []) n

pub pair_is_input : Input pair_set.sites pair_input
unfolding struct_field value_at
pair_is_input zero s e = let q : argument 0 ≡ s = cc in rw (← q) (one_two, refl)
pair_is_input (suc zero) s e = let q : argument 1 ≡ s = cc in rw (← q) (one_two, refl)
pair_is_input (suc (suc zero)) s e = let q : extract_struct 0 0 ≡ s = cc in rw (← q) refl
pair_is_input (suc (suc (suc zero))) s e = let q : extract_struct 0 1 ≡ s = cc in rw (← q) refl
pair_is_input (suc (suc (suc (suc zero)))) s e = let q : extract_struct 1 0 ≡ s = cc in rw (← q) refl
pair_is_input (suc (suc (suc (suc (suc zero))))) s e = let q : extract_struct 1 1 ≡ s = cc in rw (← q) refl
pair_is_input (suc (suc (suc (suc (suc (suc n)))))) s e = absurd (never e)

pub pair_matches : Matches pair_input pair_rule.items
unfolding shape count
pair_matches i (Memᴰ.tail (Memᴰ.tail x8)) = elim x8 [ ]
pair_matches i (Memᴰ.head e) = rw e (record { value = one_two; one = refl; other = refl })
pair_matches i (Memᴰ.tail (Memᴰ.head e)) = rw e (record { value = one_two; there = refl; shaped = refl })

-- so it matches the kept rule too
pub pair_matches_kept : MatchesKept pair_input pair_kept
pair_matches_kept = (demand_2 two_arguments pair_rule pair_set pair_kept sound pair_keeps pair_input pair_is_input).0 pair_matches

-- ---- refused 6

abbrev circle_rule : Written
circle_rule = record { place = 1; priority = 0; count = 2; items = Is 0 (Struct 7 1) ∷ Equal 0 2 ∷ [] }

circle_refused : load two_arguments circle_rule ≡ refused (Endless 0)
unfolding all_loading
circle_refused = refl

-- so no finite input matches it
pub circle_unmatched : Unmatched two_arguments circle_rule
unfolding number
circle_unmatched = A.refused_unmatched two_arguments circle_rule sound (Endless 0) circle_refused (inr refl)

-- ---- 01's sheet given whole: rule 10 (priority 1) is "0 is 5", rule 20 (priority 0) is "0 is 5 and 1 is true"; and a rule 30, "0 is 6"

abbrev kept_10 : Kept
kept_10 = record { place = 10; priority = 1; constraints = (0, ConstInt 3 0 5) ∷ []; equals = [] }

abbrev kept_20 : Kept
kept_20 = record { place = 20; priority = 0; constraints = (0, ConstInt 3 0 5) ∷ (1, ConstBool 1 true) ∷ []; equals = [] }

abbrev kept_30 : Kept
kept_30 = record { place = 30; priority = 0; constraints = (0, ConstInt 3 0 6) ∷ []; equals = [] }

abbrev with_kept : List Kept → Set
with_kept ks = record { term = 0; flags = 0; sites = argument 0 ∷ argument 1 ∷ []; kept = ks }

abbrev sheet_set : Set
sheet_set = with_kept (kept_10 ∷ kept_20 ∷ kept_30 ∷ [])

sheet_made : Made sheet_set
unfolding all_loading
sheet_made =
    rule_loaded {g = with_kept (kept_10 ∷ kept_20 ∷ [])} (record { place = 30; priority = 0; count = 1; items = Is 0 (ConstInt 3 0 6) ∷ [] })
    (rule_loaded {g = with_kept (kept_10 ∷ [])} (record { place = 20; priority = 0; count = 2; items = Is 0 (ConstInt 3 0 5) ∷ Is 1 (ConstBool 1 true) ∷ [] })
    (rule_loaded {g = two_arguments} (record { place = 10; priority = 1; count = 1; items = Is 0 (ConstInt 3 0 5) ∷ [] }) made refl) refl) refl

-- "No": no input matches both
pub sheet_no : (at : Given) → MatchesKept at kept_10 → MatchesKept at kept_30 → ⊥
unfolding all_rules
sheet_no = no_means sheet_set sheet_made kept_10 kept_30 (Memᴰ.head refl) (Memᴰ.tail (Memᴰ.tail (Memᴰ.head refl))) refl

-- "Yes, subset": every input of rule 20 matches rule 10
pub sheet_subset : (at : Given) → Input sheet_set.sites at → MatchesKept at kept_20 → MatchesKept at kept_10
unfolding all_rules
sheet_subset = (subset_exactly sheet_set sheet_made kept_10 kept_20 (Memᴰ.head refl) (Memᴰ.tail (Memᴰ.head refl)) refl refl (omega arith)).0 refl

-- "13 0000000A 0001 00000014": so rule 20 never answers
pub sheet_silent : (at : Given) → Answers sheet_set.kept at kept_20 → ⊥
unfolding all_rules
sheet_silent at w =
    let c = masks_covers kept_10 kept_20 refl in
    let h = w.1 kept_10 (Memᴰ.head refl) (c.1 at w.0) in
    let l = c.0 in
    omega arith
