-- A loop that writes f i x over the element x at each place i, told its index: what one turn makes of the list. Assumes nothing.
use Rattle.std.proofs.Common.{◌≡◌, ℕ, zero, suc, ◌+◌, ◌<◌, ◌≤◌, Bool, true, false, cond, ◌||◌, eqb, List, [], ◌∷◌, ◌++◌, length, get_or, take, drop, set, replicate, refl, ap, ◌∙◌, append-nil, arith}
use Rattle.std.proofs.lemmas.List.{take_all, drop_all}
use Rattle.ledger.specs.Searching.{map_indexed}

module _ {X : Type 0} (f : ℕ → X → X) where
  -- the first i elements are changed, where the first of all has index k
  abbrev pub changed_front : ℕ → ℕ → List X → List X
  changed_front k i xs = map_indexed f k (take i xs) ++ drop i xs

  one_more : (k : ℕ) (xs : List X) (i : ℕ) (d : X) → i < length xs → set (changed_front k i xs) i (f (k + i) (get_or (changed_front k i xs) i d)) ≡ changed_front k (suc i) xs
  one_more k [] i d h = absurd (omega arith)
  one_more k (x ∷ xs) zero d h = ap (λ n. f n x ∷ xs) (omega arith)
  one_more k (x ∷ xs) (suc i) d h =
      ap (λ n. f k x ∷ set (changed_front (suc k) i xs) i (f n (get_or (changed_front (suc k) i xs) i d))) (omega arith)
      ∙ ap (λ (ys : List X). f k x ∷ ys) (one_more (suc k) xs i d (omega arith))

  pub map_indexed_more : (xs ys : List X) (i : ℕ) (d y : X) → i < length xs → ys ≡ changed_front 0 i xs → y ≡ f i (get_or ys i d) → set ys i y ≡ changed_front 0 (i + 1) xs
  map_indexed_more xs ys i d y h e r =
      let z : i ≡ 0 + i = omega arith in
      let s : suc i ≡ i + 1 = omega arith in
      ap (set ys i) (r ∙ ap (λ n. f n (get_or ys i d)) z) ∙ ap (λ zs. set zs i (f (0 + i) (get_or zs i d))) e ∙ one_more 0 xs i d h
      ∙ ap (λ n. changed_front 0 n xs) s

  pub map_indexed_all : (xs ys : List X) (i : ℕ) → length xs ≤ i → ys ≡ changed_front 0 i xs → ys ≡ map_indexed f 0 xs
  map_indexed_all xs ys i h e =
      e ∙ ap (λ zs. map_indexed f 0 zs ++ drop i xs) (take_all i xs h) ∙ ap (λ zs. map_indexed f 0 xs ++ zs) (drop_all i xs h) ∙ append-nil (map_indexed f 0 xs)

module _ {X : Type 0} where
  -- two such passes are one
  pub map_indexed_twice : (f g : ℕ → X → X) (i : ℕ) (xs : List X) → map_indexed f i (map_indexed g i xs) ≡ map_indexed (λ k x. f k (g k x)) i xs
  map_indexed_twice f g i [] = refl
  map_indexed_twice f g i (x ∷ xs) = ap (λ ys. f i (g i x) ∷ ys) (map_indexed_twice f g (suc i) xs)

  pub map_indexed_same : (f g : ℕ → X → X) → ((k : ℕ) (x : X) → f k x ≡ g k x) → (i : ℕ) (xs : List X) → map_indexed f i xs ≡ map_indexed g i xs
  map_indexed_same f g h i [] = refl
  map_indexed_same f g h i (x ∷ xs) = ap (λ y. y ∷ map_indexed f (suc i) xs) (h i x) ∙ ap (λ ys. g i x ∷ ys) (map_indexed_same f g h (suc i) xs)

  -- a pass that changes nothing
  pub map_indexed_kept : (i : ℕ) (xs : List X) → map_indexed (λ k x. x) i xs ≡ xs
  map_indexed_kept i [] = refl
  map_indexed_kept i (x ∷ xs) = ap (λ ys. x ∷ ys) (map_indexed_kept (suc i) xs)

  -- a list whose elements are all the same
  pub map_indexed_replicate : (f : ℕ → X → X) (x : X) (i n : ℕ) → map_indexed f i (replicate n x) ≡ map_indexed (λ k y. f k x) i (replicate n x)
  map_indexed_replicate f x i zero = refl
  map_indexed_replicate f x i (suc n) = ap (λ ys. f i x ∷ ys) (map_indexed_replicate f x (suc i) n)

  -- the place n lies in front of those that are passed
  passed : (y : X) (n i : ℕ) (xs : List X) → n < i → map_indexed (λ k x. cond (eqb k n) y x) i xs ≡ xs
  passed y n i [] h = refl
  passed y n i (x ∷ xs) h = let ih = passed y n (suc i) xs (omega arith) in grind arith

  -- one place written, as such a pass
  written_from : (y : X) (n j i : ℕ) (xs : List X) → n ≡ i + j → set xs j y ≡ map_indexed (λ k x. cond (eqb k n) y x) i xs
  written_from y n j i [] e = refl
  written_from y n zero i (x ∷ xs) e = let rest = passed y n (suc i) xs (omega arith) in grind arith
  written_from y n (suc j) i (x ∷ xs) e = let ih = written_from y n j (suc i) xs (omega arith) in grind arith

  pub written_at : (y : X) (n : ℕ) (xs : List X) → set xs n y ≡ map_indexed (λ k x. cond (eqb k n) y x) 0 xs
  written_at y n xs = written_from y n n 0 xs (omega arith)

  -- written by one more entry, which goes to place n
  pub more_written : (y e : X) (o n : ℕ) (a : Bool) → cond (eqb o n) y (cond a y e) ≡ cond (a || eqb n o) y e
  more_written y e o n true = grind arith
  more_written y e o n false = grind arith

  -- written by the entries of one list or of the other
  pub either_written : (y e : X) (a b : Bool) → cond b y (cond a y e) ≡ cond (a || b) y e
  either_written y e true true = refl
  either_written y e true false = refl
  either_written y e false b = refl
