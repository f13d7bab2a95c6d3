-- Lists of jobs: what holds of each pair, one more at the end, all but one, and how long a list without repetition may be.
use Rattle.std.proofs.Common.{◌≡◌, ℕ, zero, suc, ◌<◌, ◌≤◌, Bool, true, false, cond, eqb, ◌≢◌, ◌⊎◌, List, [], ◌∷◌, ◌++◌, length, refl, ap, inl, inr, arith}
use Rattle.std.specs.List.{AllByRecursion}
use Rattle.std.proofs.ByRecursion.{All-weaker, All-push}
use Rattle.protocol.specs.Calls.{without}

abbrev pub Pairwise : (ℕ → ℕ → Type 0) → List ℕ → Type 0
Pairwise R [] = Unit {0}
Pairwise R (x ∷ q) = AllByRecursion (R x) q × Pairwise R q

abbrev pub Among : ℕ → List ℕ → Type 0
Among t [] = ⊥
Among t (x ∷ q) = (t ≡ x) ⊎ Among t q

module _ (P : ℕ → Type 0) where
  pub all_at : (q : List ℕ) (t : ℕ) → AllByRecursion P q → Among t q → P t
  all_at [] t a m = absurd m
  all_at (x ∷ q) t a (inl e) = rw e a.0
  all_at (x ∷ q) t a (inr m) = all_at q t a.1 m

  -- of those that stay, what may fail at j alone
  pub all_without : (j : ℕ) (q : List ℕ) → AllByRecursion (λ x. x ≢ j → P x) q → AllByRecursion P (without j q)
  all_without j [] a = tt
  all_without j (x ∷ q) a = go (eqb x j) (λ e. a.0 (grind arith)) (all_without j q a.1)
    where
      go : (b : Bool) → (b ≡ false → P x) → AllByRecursion P (without j q) → AllByRecursion P (cond b (without j q) (x ∷ without j q))
      go true p r = r
      go false p r = (p refl, r)

module _ (R : ℕ → ℕ → Type 0) where
  pub pairwise_weaker : (P : ℕ → Type 0) (S : ℕ → ℕ → Type 0) → ((t u : ℕ) → P t → P u → R t u → S t u) → (q : List ℕ) → AllByRecursion P q → Pairwise R q → Pairwise S q
  pairwise_weaker P S f [] a o = tt
  pairwise_weaker P S f (x ∷ q) a o = (first q a.1 o.0, pairwise_weaker P S f q a.1 o.1)
    where
      first : (q : List ℕ) → AllByRecursion P q → AllByRecursion (R x) q → AllByRecursion (S x) q
      first [] b s = tt
      first (y ∷ q) b s = (f x y a.0 b.0 s.0, first q b.1 s.1)

  pub pairwise_push : (q : List ℕ) (j : ℕ) → Pairwise R q → AllByRecursion (λ t. R t j) q → Pairwise R (q ++ j ∷ [])
  pairwise_push [] j o a = (tt, tt)
  pairwise_push (x ∷ q) j o a = (All-push (R x) q j o.0 a.0, pairwise_push q j o.1 a.1)

  pub pairwise_without : (j : ℕ) (q : List ℕ) → Pairwise R q → Pairwise R (without j q)
  pairwise_without j [] o = tt
  pairwise_without j (x ∷ q) o = go (eqb x j) (pairwise_without j q o.1)
    where
      go : (b : Bool) → Pairwise R (without j q) → Pairwise R (cond b (without j q) (x ∷ without j q))
      go true r = r
      go false r = (all_without (R x) j q (All-weaker (R x) (λ y. y ≢ j → R x y) (λ y s n. s) q o.0), r)

pub among_push : (q : List ℕ) (j t : ℕ) → (t ≡ j) ⊎ Among t q → Among t (q ++ j ∷ [])
among_push [] j t (inl e) = inl e
among_push [] j t (inr m) = absurd m
among_push (x ∷ q) j t (inl e) = inr (among_push q j t (inl e))
among_push (x ∷ q) j t (inr (inl e)) = inl e
among_push (x ∷ q) j t (inr (inr m)) = inr (among_push q j t (inr m))

pub among_without : (q : List ℕ) (j t : ℕ) → t ≢ j → Among t q → Among t (without j q)
among_without [] j t n m = m
among_without (x ∷ q) j t n m = go (eqb x j) refl m (among_without q j t n)
  where
    go : (b : Bool) → eqb x j ≡ b → (t ≡ x) ⊎ Among t q → (Among t q → Among t (without j q)) → Among t (cond b (without j q) (x ∷ without j q))
    go true e (inl p) f = absurd (grind arith)
    go true e (inr p) f = f p
    go false e (inl p) f = inl p
    go false e (inr p) f = inr (f p)

pub without_absent : (j : ℕ) (q : List ℕ) → AllByRecursion (λ t. t ≢ j) q → without j q ≡ q
without_absent j [] a = refl
without_absent j (t ∷ q) a = let i = without_absent j q a.1 in let n = a.0 in grind arith

-- a list of different numbers below n has at most n of them: without its highest number it has at most n - 1
abbrev pub Different : List ℕ → Type 0
Different q = Pairwise (λ x y. x ≢ y) q

length_without : (j : ℕ) (q : List ℕ) → Different q → length q ≤ suc (length (without j q))
length_without j [] d = omega arith
length_without j (x ∷ q) d = go (eqb x j) refl (length_without j q d.1)
  where
    go : (b : Bool) → eqb x j ≡ b → length q ≤ suc (length (without j q)) → suc (length q) ≤ suc (length (cond b (without j q) (x ∷ without j q)))
    go true e i =
        let s : x ≡ j = grind arith in
        let k : without j q ≡ q = without_absent j q (All-weaker (λ y. x ≢ y) (λ y. y ≢ j) (λ y n m. grind arith) q d.0) in
        omega (arith, ap length k)
    go false e i = omega arith

pub different_few : (n : ℕ) (q : List ℕ) → AllByRecursion (λ x. x < n) q → Different q → length q ≤ n
different_few zero [] a d = omega arith
different_few zero (x ∷ q) a d = absurd (let l = a.0 in omega arith)
different_few (suc n) q a d =
    let fewer = all_without (λ x. x < n) n q (All-weaker (λ x. x < suc n) (λ x. x ≢ n → x < n) (λ x l m. omega arith) q a) in
    let i = different_few n (without n q) fewer (pairwise_without (λ x y. x ≢ y) n q d) in
    omega (arith, length_without n q d)
