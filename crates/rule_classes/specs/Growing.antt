-- How the classes of parents p grow into those of parents q, by joins that 01 asks for.
use Rattle.std.specs.Prelude.{◌≡◌, Bool, true, false, ◌&&◌, List, ℕ, ◌<◌, eqb}
use Rattle.paper.specs.Sites.{same_constraint}
use Rattle.paper.specs.Loading.{Holder, Together}
use Rattle.classes.specs.Answers.{rep}
use Rattle.classes.specs.Well.{Well}
use Rattle.classes.specs.Equal.{class_count, Only}
use Rattle.rule_rows.specs.Holding.{Held, kid_in, site_of, shape_of, count_of, kid_of, holders_to}

-- u and v are in one class, a lone site being a class of one
abbrev pub One : List ℕ → ℕ → ℕ → Type 0
One p u v = rep p u ≡ rep p v

-- the classes of p hold no more than the least equivalence over E
abbrev pub Right : List (ℕ × ℕ) → List Holder → List ℕ → Type 0
Right E hs p = (u v : ℕ) → One p u v → Together E hs u v

-- k: whether any two classes became one
pub record Grown (p q r : List ℕ) (n : ℕ) (k : Bool) : Type 0 where
  pub well : Well q r n
  pub grows : (u v : ℕ) → One p u v → One q u v
  pub same : k ≡ false → (z : ℕ) → rep q z ≡ rep p z
  pub fewer : k ≡ true → class_count q < class_count p

-- x and y were joined, and nothing else
pub record Equates (p q r : List ℕ) (n x y : ℕ) (k : Bool) : Type 0 where
  pub grown : Grown p q r n k
  pub joins : One q x y
  pub only : (u v : ℕ) → One q u v → Only p x y u v

-- the like-numbered children of rows i and j were joined, the first m of them, and nothing else
pub record JoinsKids (kids p q r : List ℕ) (n i j m : ℕ) (k : Bool) : Type 0 where
  pub grown : Grown p q r n k
  pub joined : (f : ℕ) → f < m → One q (kid_in kids i f) (kid_in kids j f)
  pub sound : (E : List (ℕ × ℕ)) (hs : List Holder) → Right E hs p → ((f : ℕ) → f < m → Together E hs (kid_in kids i f) (kid_in kids j f)) → Right E hs q

-- holders g and h are in one class under equal constraints
unfoldable pub mate : Held → List ℕ → ℕ → ℕ → Bool
mate H p g h = same_constraint (shape_of H g) (shape_of H h) && eqb (rep p (site_of H g)) (rep p (site_of H h))

abbrev pub Kids : Held → List ℕ → ℕ → ℕ → Type 0
Kids H p g h = (f : ℕ) → f < count_of H g → One p (kid_of H g f) (kid_of H h f)

-- the children of h are joined with those of its first mate before it
abbrev pub Rest : Held → List ℕ → ℕ → Type 0
Rest H p h = (g : ℕ) → g < h → mate H p g h ≡ true → ((f : ℕ) → f < g → mate H p f h ≡ false) → Kids H p g h

pub record Meets (H : Held) (p q r : List ℕ) (n : ℕ) (k : Bool) (h : ℕ) : Type 0 where
  pub grown : Grown p q r n k
  pub sound : (E : List (ℕ × ℕ)) (m : ℕ) → h < m → Right E (holders_to H m) p → Right E (holders_to H m) q
  pub rest : k ≡ false → Rest H p h

-- of the first i of m holders
pub record SweptTo (H : Held) (p q r : List ℕ) (n : ℕ) (k : Bool) (m i : ℕ) : Type 0 where
  pub grown : Grown p q r n k
  pub sound : (E : List (ℕ × ℕ)) → Right E (holders_to H m) p → Right E (holders_to H m) q
  pub rest : k ≡ false → (h : ℕ) → h < i → Rest H p h

pub record Closed (H : Held) (p q r : List ℕ) (n m : ℕ) : Type 0 where
  pub well : Well q r n
  pub grows : (u v : ℕ) → One p u v → One q u v
  pub sound : (E : List (ℕ × ℕ)) → Right E (holders_to H m) p → Right E (holders_to H m) q
  pub rest : (h : ℕ) → h < m → Rest H q h
