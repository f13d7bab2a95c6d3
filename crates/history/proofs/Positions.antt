-- Where a job stands in a history, and what it finds there.
use Rattle.std.proofs.Common.{◌≡◌, ℕ, ◌+◌, ◌≤◌, Bool, true, false, cond, eqb, ◌⊎◌, List, [], ◌∷◌, Some, None, Option, refl, subst, arith}
use Rattle.std.proofs.lemmas.Bool.Decides.{nat_tests}
use Rattle.history.specs.Histories.{Leaf, wrote, writer_count, leaf_of, earlier, is_before, Fits, Serial}

module _ {V : Type 0} where
  pub job_of_leaf : (h : List (Leaf V)) (j : ℕ) (x : Leaf V) → leaf_of h j ≡ Some x → x.job ≡ j
  job_of_leaf [] j x e = grind arith
  job_of_leaf (z ∷ h) j x e = let k = job_of_leaf h j x in grind (arith, nat_tests)

  -- each leaf of a serial history fits what was answered before it
  pub fits_at : (h : List (Leaf V)) (j : ℕ) (x : Leaf V) → Serial h → leaf_of h j ≡ Some x → Fits x (earlier h j)
  fits_at [] j x s e = grind arith
  fits_at (z ∷ h) j x s e = go (eqb z.job j) e (fits_at h j x s.1)
    where
      go : (b : Bool) → cond b (Some z) (leaf_of h j) ≡ Some x → (leaf_of h j ≡ Some x → Fits x (earlier h j)) → Fits x (cond b h (earlier h j))
      go true e k = let same : z ≡ x = cc in subst (λ y. Fits y h) same s.0
      go false e k = k e

  pub serial_earlier : (h : List (Leaf V)) (j : ℕ) → Serial h → Serial (earlier h j)
  serial_earlier [] j s = tt
  serial_earlier (z ∷ h) j s = go (eqb z.job j) (serial_earlier h j s.1)
    where
      go : (b : Bool) → Serial (earlier h j) → Serial (cond b h (earlier h j))
      go true k = s.1
      go false k = k

  -- a new leaf hides none
  leaf_under : (z : Leaf V) (h : List (Leaf V)) (i : ℕ) (x : Leaf V) → Fits z h → leaf_of h i ≡ Some x → leaf_of (z ∷ h) i ≡ Some x
  leaf_under z h i x f e = let n = f.fresh in grind (arith, nat_tests)

  pub leaf_earlier : (h : List (Leaf V)) (i j : ℕ) (x : Leaf V) → Serial h → leaf_of (earlier h j) i ≡ Some x → leaf_of h i ≡ Some x
  leaf_earlier [] i j x s e = e
  leaf_earlier (z ∷ h) i j x s e = go (eqb z.job j) e (leaf_earlier h i j x s.1)
    where
      go : (b : Bool) → leaf_of (cond b h (earlier h j)) i ≡ Some x → (leaf_of (earlier h j) i ≡ Some x → leaf_of h i ≡ Some x) → leaf_of (z ∷ h) i ≡ Some x
      go true e k = leaf_under z h i x s.0 e
      go false e k = leaf_under z h i x s.0 (k e)

  pub not_before_itself : (h : List (Leaf V)) (j : ℕ) → Serial h → leaf_of (earlier h j) j ≡ None
  not_before_itself [] j s = refl
  not_before_itself (z ∷ h) j s = let k = not_before_itself h j s.1 in let n = s.0.fresh in grind (arith, nat_tests)

  -- of two jobs one was answered first
  pub one_first : (h : List (Leaf V)) (i j : ℕ) (x y : Leaf V) → leaf_of h i ≡ Some x → leaf_of h j ≡ Some y → (i ≡ j → ⊥) → (is_before h i j ≡ true) ⊎ (is_before h j i ≡ true)
  one_first [] i j x y p q apart = grind arith
  one_first (z ∷ h) i j x y p q apart = let k = one_first h i j x y in grind (arith, nat_tests)

  pub count_earlier : (h : List (Leaf V)) (r j : ℕ) (x : Leaf V) → leaf_of h j ≡ Some x → cond (wrote x r) 1 0 + writer_count (earlier h j) r ≤ writer_count h r
  count_earlier [] r j x e = grind arith
  count_earlier (z ∷ h) r j x e = let k = count_earlier h r j x in grind (arith, nat_tests)

  pub leaf_before : (h : List (Leaf V)) (i j : ℕ) (x : Leaf V) → Serial h → leaf_of h i ≡ Some x → is_before h i j ≡ true → leaf_of (earlier h j) i ≡ Some x
  leaf_before h i j x s e b = go (leaf_of (earlier h j) i) refl
    where
      go : (o : Option (Leaf V)) → leaf_of (earlier h j) i ≡ o → leaf_of (earlier h j) i ≡ Some x
      go None n = grind arith
      go (Some y) n = let k = leaf_earlier h i j y s n in cc
