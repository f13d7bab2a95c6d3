-- What a search of the code finds, in the words of the rules. Assumes nothing.
use Rattle.std.proofs.Common.{◌≡◌, ℕ, suc, ◌+◌, ◌<◌, ◌≤◌, Bool, true, false, cond, ◌||◌, ltb, List, [], ◌∷◌, ◌++◌, map, length, Some, None, refl, ap, arith}
use Rattle.std.specs.List.{position, position_or_len}
use Rattle.ledger.specs.Searching.{any_indexed, highest}

-- a search in changed elements is a search for those that pass when changed
pub any_indexed_map : {X Y : Type 0} (f : X → Y) (p : ℕ → Y → Bool) (i : ℕ) (xs : List X) → any_indexed p i (map f xs) ≡ any_indexed (λ k x. p k (f x)) i xs
any_indexed_map f p i [] = refl
any_indexed_map f p i (x ∷ xs) = ap (λ b. p i (f x) || b) (any_indexed_map f p (i + 1) xs)

module _ {X : Type 0} (p : X → Bool) where
  -- what is found at an index is the first that passes, and there is such an index
  pub found_first : (xs : List X) (i : ℕ) → Some i ≡ position p xs → (i ≡ position_or_len p xs) × (i < length xs)
  found_first xs i e = go (ltb (position_or_len p xs) (length xs)) refl e
    where
      go : (b : Bool) → ltb (position_or_len p xs) (length xs) ≡ b → Some i ≡ cond b (Some (position_or_len p xs)) None → (i ≡ position_or_len p xs) × (i < length xs)
      go true t e = (cc, let k : i ≡ position_or_len p xs = cc in grind arith)
      go false t e = (cc, cc)

  pub found_none : (xs : List X) → None ≡ position p xs → length xs ≤ position_or_len p xs
  found_none xs e = go (ltb (position_or_len p xs) (length xs)) refl e
    where
      go : (b : Bool) → ltb (position_or_len p xs) (length xs) ≡ b → None ≡ cond b (Some (position_or_len p xs)) None → length xs ≤ position_or_len p xs
      go true t e = cc
      go false t e = grind arith

  -- one more element at the end is the highest if it passes
  pub highest_push : (xs : List X) (x : X) → highest p (xs ++ x ∷ []) ≡ cond (p x) (suc (length xs)) (highest p xs)
  highest_push [] x = grind arith
  highest_push (y ∷ ys) x = let ih = highest_push ys x in grind arith
