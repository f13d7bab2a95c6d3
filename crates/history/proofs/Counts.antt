-- Counting the leaves of a history by their job numbers: so two histories in different orders are compared job by job.
use Rattle.std.proofs.Common.{◌≡◌, ℕ, zero, suc, ◌+◌, ◌<◌, ◌≤◌, cond, ◌⊎◌, List, [], ◌∷◌, length, Some, None, Option, sym, refl, ap, ◌∙◌, subst, inl, inr, arith}
use Rattle.std.specs.List.{cons_option}
use Rattle.std.proofs.lemmas.Bool.{cases_eq}
use Rattle.std.proofs.lemmas.Bool.Decides.{nat_tests}
use Rattle.ledger.specs.Limits.{last_job}
use Rattle.history.specs.Histories.{Leaf, wrote, writer_count, leaf_of, Serial}
use Rattle.history.specs.Layout.{rising, leaves}
use Rattle.history.specs.Laws.{AllArchived}

-- f 0 + .. + f (n - 1)
pub below : ℕ → (ℕ → ℕ) → ℕ
below zero f = 0
below (suc n) f = f n + below n f

pub below_same : (n : ℕ) (f g : ℕ → ℕ) → ((i : ℕ) → f i ≡ g i) → below n f ≡ below n g
unfolding below
below_same zero f g e = refl
below_same (suc n) f g e = let k = below_same n f g e in let m = e n in omega arith

below_none : (n : ℕ) → below n (λ _. 0) ≡ 0
unfolding below
below_none zero = refl
below_none (suc n) = let k = below_none n in omega arith

-- the sums of two functions that differ by c at one place
below_more : (n k c : ℕ) (f g : ℕ → ℕ) → ((i : ℕ) → (i ≡ k → ⊥) → f i ≡ g i) → f k ≡ c + g k → ((k < n) × (below n f ≡ c + below n g)) ⊎ ((n ≤ k) × (below n f ≡ below n g))
unfolding below
below_more zero k c f g e b = inr (omega arith, refl)
below_more (suc n) k c f g e b = elim (below_more n k c f g e b) [
  | inl p ↦ inl (omega arith, (let m = e n (omega arith) in omega arith))
  | inr p ↦ elim (cases_eq n k) [
    | inl q ↦ inl (omega arith, (let m : f n ≡ c + g n = subst (λ z. f z ≡ c + g z) (sym q) b in omega arith))
    | inr q ↦ inr (omega arith, (let m = e n q in omega arith))
  ]
]

below_front : (n : ℕ) (f : ℕ → ℕ) → below (suc n) f ≡ f 0 + below n (λ i. f (suc i))
unfolding below
below_front zero f = refl
below_front (suc n) f = let k = below_front n f in omega arith

module _ {V : Type 0} where
  abbrev pub wrote_if_any : ℕ → Option (Leaf V) → ℕ
  wrote_if_any r None = 0
  wrote_if_any r (Some x) = cond (wrote x r) 1 0

  pub writers_by_job : (r : ℕ) (h : List (Leaf V)) → Serial h → writer_count h r ≡ below (last_job + 1) (λ i. wrote_if_any r (leaf_of h i))
  writers_by_job r [] s = sym (below_none (last_job + 1))
  writers_by_job r (x ∷ h) s =
      let k = writers_by_job r h s.1 in
      let at : wrote_if_any r (leaf_of (x ∷ h) x.job) ≡ cond (wrote x r) 1 0 + wrote_if_any r (leaf_of h x.job) = (let n = s.0.fresh in grind (arith, nat_tests)) in
      let other : (i : ℕ) → (i ≡ x.job → ⊥) → wrote_if_any r (leaf_of (x ∷ h) i) ≡ wrote_if_any r (leaf_of h i) = (λ i apart. grind (arith, nat_tests)) in
      elim (below_more (last_job + 1) x.job (cond (wrote x r) 1 0) (λ i. wrote_if_any r (leaf_of (x ∷ h) i)) (λ i. wrote_if_any r (leaf_of h i)) other at) [
        | inl p ↦ (let m = p.1 in omega arith)
        | inr p ↦ (let m = s.0.small in absurd (omega arith))
      ]

  -- the same of all leaves
  abbrev there : Option (Leaf V) → ℕ
  there None = 0
  there (Some x) = 1

  length_by_job : (h : List (Leaf V)) → Serial h → length h ≡ below (last_job + 1) (λ i. there (leaf_of h i))
  length_by_job [] s = sym (below_none (last_job + 1))
  length_by_job (x ∷ h) s =
      let k = length_by_job h s.1 in
      let at : there (leaf_of (x ∷ h) x.job) ≡ 1 + there (leaf_of h x.job) = (let n = s.0.fresh in grind (arith, nat_tests)) in
      let other : (i : ℕ) → (i ≡ x.job → ⊥) → there (leaf_of (x ∷ h) i) ≡ there (leaf_of h i) = (λ i apart. grind (arith, nat_tests)) in
      elim (below_more (last_job + 1) x.job 1 (λ i. there (leaf_of (x ∷ h) i)) (λ i. there (leaf_of h i)) other at) [
        | inl p ↦ (let m = p.1 in omega arith)
        | inr p ↦ (let m = s.0.small in absurd (omega arith))
      ]

  length-cons_option : (p : Option (Leaf V)) (xs : List (Leaf V)) → length (cons_option p xs) ≡ there p + length xs
  length-cons_option None xs = omega arith
  length-cons_option (Some x) xs = omega arith

  length_rising : (k n : ℕ) (h : List (Leaf V)) → length (rising k n h) ≡ below n (λ i. there (leaf_of h (k + i)))
  unfolding below
  length_rising k zero h = refl
  length_rising k (suc n) h =
      let a = length-cons_option (leaf_of h k) (rising (suc k) n h) in
      let b = length_rising (suc k) n h in
      let c = below_front n (λ i. there (leaf_of h (k + i))) in
      let d : there (leaf_of h (k + 0)) ≡ there (leaf_of h k) = ap (λ i. there (leaf_of h i)) (omega arith) in
      let e = below_same n (λ i. there (leaf_of h (k + suc i))) (λ i. there (leaf_of h (suc k + i))) (λ i. ap (λ m. there (leaf_of h m)) (omega arith)) in
      a ∙ ap (λ m. there (leaf_of h k) + m) (b ∙ sym e) ∙ ap (λ m. m + below n (λ i. there (leaf_of h (k + suc i)))) (sym d) ∙ sym c

  pub all_archived : AllArchived V
  unfolding leaves
  all_archived h s =
      length_rising 0 (last_job + 1) h
      ∙ below_same (last_job + 1) (λ i. there (leaf_of h (0 + i))) (λ i. there (leaf_of h i)) (λ i. ap (λ m. there (leaf_of h m)) (omega arith))
      ∙ sym (length_by_job h s)
