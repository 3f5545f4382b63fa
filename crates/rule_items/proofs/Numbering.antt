-- A site keeps its number when children are added, and the children have theirs.
use mathlib.Core.Path.{◌≡◌, refl, ap}
use mathlib.Core.Option.{Option, none, some}
use mathlib.Core.List.{List, [], ◌∷◌}
use Prim.Native.Nat.{ℕ, ◌+◌, ◌≤◌, ◌<◌}
use native.Mathlib.Omega.{arith}
use lib.ListN.{length, length-append}
use Rattle.std.specs.declared.result.Result.TheVariants.{Err, Ok}
use Rattle.paper.specs.declared.Constraint.{Constraint}
use Rattle.paper.specs.declared.Refusal.{Refusal}
use Rattle.paper.specs.Words.{or_else}
use Rattle.paper.specs.Numbers.{Outcome, done, refused}
use Rattle.paper.specs.Sites.{Site, Sites, child, child_count, children, child_number, number_of, Added, add, add_all}
use Rattle.paper.proofs.Outcomes.{done_once, bind_done}
use Rattle.paper.proofs.Laws.{number_front}
use Rattle.paper.proofs.Adding.{Has, Numbered, nowhere, numbered, Placed, present, next, add_done, add_all_has}
use Rattle.paper.proofs.Closure.{in_below}
use Rattle.rule_children.specs.Tail.{children_as}

number_add : (t : Sites) (at : ℕ) (s : Site) (a : Added) → add t at s ≡ done a → (x : Site) (n : ℕ) → number_of t x ≡ some n → number_of a.sites x ≡ some n
number_add t at s a e x n q = go (add_done t at s a e).how
  where
    go : {u : Sites} {k : ℕ} → Placed t s u k → number_of u x ≡ some n
    go (present h) = q
    go (next r h) = number_front t (s ∷ []) x n q

pub number_all : (t : Sites) (at : ℕ) (l : List Site) (u : Sites) → add_all t at l ≡ done u → (x : Site) (n : ℕ) → number_of t x ≡ some n → number_of u x ≡ some n
unfolding add_all
number_all t at [] u e x n q = let z = done_once e in rw (← z) q
number_all t at (s ∷ l) u e x n q = let y = bind_done (add t at s) (λ a. add_all a.sites at l) u e in number_all y.0.sites at l u y.2 x n (number_add t at s y.0 y.1 x n q)

length_add : (t : Sites) (at : ℕ) (s : Site) (a : Added) → add t at s ≡ done a → length a.sites ≤ length t + 1
length_add t at s a e = go (add_done t at s a e).how
  where
    go : {u : Sites} {k : ℕ} → Placed t s u k → length u ≤ length t + 1
    go (present h) = omega arith
    go (next r h) = let z = length-append t (s ∷ []) in omega arith

-- each adds one site at the most
pub length_all : (t : Sites) (at : ℕ) (l : List Site) (u : Sites) → add_all t at l ≡ done u → length u ≤ length t + length l
unfolding add_all
length_all t at [] u e = let z = ap length (done_once e) in omega arith
length_all t at (s ∷ l) u e =
    let y = bind_done (add t at s) (λ a. add_all a.sites at l) u e in
    let z = length_all y.0.sites at l u y.2 in
    let w = length_add t at s y.0 y.1 in
    omega arith

number_has : (t : Sites) (s : Site) → Has t s → number_of t s ≡ some (or_else (number_of t s) 0)
number_has t s h = go (number_of t s) (numbered t s)
  where
    go : (o : Option ℕ) → Numbered t s o → o ≡ some (or_else o 0)
    go (some k) q = refl
    go none (nowhere f) = absurd (f h.0 h.1)

pub number_child : (t : Sites) (at s : ℕ) (c : Constraint) (u : Sites) → add_all t at (children s c) ≡ done u → (f : ℕ) → f < child_count c → number_of u (child s c f) ≡ some (child_number u s c f)
unfolding children child_number
number_child t at s c u e f h = number_has u (child s c f) (add_all_has t at (children s c) u e (child s c f) (in_below (child_count c) (child s c) f h))

-- what an answer of adding says of the table
pub children_refused : (s : ℕ) (c : Constraint) (o : Outcome Sites) (why : Refusal) → (children_as s c o).outcome ≡ Err why → o ≡ refused why
children_refused s c (done u) why e = let z : ◌≡◌ {A = ℕ} 0 1 = cc in absurd (omega arith)
children_refused s c (refused r) why e = let z : r ≡ why = cc in ap refused z

pub children_to : (s : ℕ) (c : Constraint) (o : Outcome Sites) (total : ℕ) → (children_as s c o).outcome ≡ Ok total → (u : Sites) × (o ≡ done u) × (total ≡ length u)
children_to s c (done u) total e = (u, refl, cc)
children_to s c (refused r) total e = let z : ◌≡◌ {A = ℕ} 0 1 = cc in absurd (omega arith)
