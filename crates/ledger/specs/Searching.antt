-- Words for lists that std lacks: a test and a change that are told an element's index, and the last element that passes. Assumes nothing.
use Rattle.std.specs.Prelude.{ℕ, suc, Bool, cond, List, [], ◌∷◌, ◌==◌}
use Rattle.std.specs.List.{list_any, enumerate_from}

module _ {X : Type 0} where
  -- whether some element passes together with its index, where the first has index i
  abbrev pub any_indexed : (ℕ → X → Bool) → ℕ → List X → Bool
  any_indexed p i xs = list_any (λ q. p q.0 q.1) (enumerate_from i xs)

  -- the number, counted from 1, of the last element that passes; 0 where none does
  abbrev pub highest : (X → Bool) → List X → ℕ
  highest p [] = 0
  highest p (x ∷ xs) = cond (highest p xs == 0) (cond (p x) 1 0) (suc (highest p xs))

  -- each element changed by a function that is told its index, where the first has index i
  abbrev pub map_indexed : (ℕ → X → X) → ℕ → List X → List X
  map_indexed f i [] = []
  map_indexed f i (x ∷ xs) = f i x ∷ map_indexed f (suc i) xs
