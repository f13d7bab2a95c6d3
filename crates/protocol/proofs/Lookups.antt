-- What is found in the lists of a row and of the ledger, before and after a step.
use Rattle.std.proofs.Common.{◌≡◌, ℕ, zero, suc, ◌+◌, ◌<◌, ◌≤◌, Bool, true, false, cond, ◌&&◌, eqb, ◌≢◌, List, [], ◌∷◌, ◌++◌, map, length, get_or, set, replicate, refl, ap, add-zero, add-suc, suc-add, arith, get_or-set_other, get_or-set_same}
use Rattle.std.specs.List.{list_any}
use Rattle.ledger.specs.Searching.{highest, any_indexed, map_indexed}
use Rattle.ledger.specs.Model.{LedgerModel, versions, first_unseen, has_written, installed_version}
use Rattle.ledger.specs.Writing.{with_place}
use Rattle.ledger.specs.Delivering.{installed}
use Rattle.ledger.specs.declared.job.Read.{Read}
use Rattle.ledger.specs.declared.job.Write.{Write}

pub unseen_push : (xs : List Read) (r v s : ℕ) → first_unseen xs r ≡ 0 → first_unseen (xs ++ record { «record» = r; version = v } ∷ []) s ≡ cond (eqb s r) (suc v) (first_unseen xs s)
unseen_push [] r v s e = grind arith
unseen_push (x ∷ xs) r v s e = let ih = unseen_push xs r v s in grind arith

pub written_with_place : (xs : List Write) (r p s : ℕ) → has_written (with_place xs r p) s ≡ cond (eqb s r) true (has_written xs s)
written_with_place [] r p s = grind arith
written_with_place (x ∷ xs) r p s = let ih = written_with_place xs r p s in grind arith

pub version_with_place : (xs : List Write) (r p s : ℕ) → installed_version (with_place xs r p) s ≡ installed_version xs s
version_with_place [] r p s = grind arith
version_with_place (x ∷ xs) r p s = let ih = version_with_place xs r p s in grind arith

module _ (office : ℕ → ℕ) (ledger : LedgerModel) (o : ℕ) where
  pub written_installed : (xs : List Write) (s : ℕ) → has_written (map (installed office ledger o) xs) s ≡ has_written xs s
  written_installed [] s = refl
  written_installed (x ∷ xs) s = let ih = written_installed xs s in grind arith

  pub version_installed : (xs : List Write) (s : ℕ) → installed_version (map (installed office ledger o) xs) s ≡ cond (eqb (office s) o && has_written xs s) (suc (length (versions ledger s))) (installed_version xs s)
  version_installed [] s = grind arith
  version_installed (x ∷ xs) s = let ih = version_installed xs s in grind arith

-- a test that no listed record passes fails at each
pub no_read_passes : (f : Read → Bool) (xs : List Read) (r : ℕ) → list_any f xs ≡ false → 0 < first_unseen xs r → (z : Read) × (z.«record» ≡ r) × (first_unseen xs r ≡ suc z.version) × (f z ≡ false)
no_read_passes f [] r e l = absurd (grind arith)
no_read_passes f (x ∷ xs) r e l = go (eqb x.«record» r) refl (no_read_passes f xs r)
  where
    go : (b : Bool) → eqb x.«record» r ≡ b → (list_any f xs ≡ false → 0 < first_unseen xs r → (z : Read) × (z.«record» ≡ r) × (first_unseen xs r ≡ suc z.version) × (f z ≡ false)) →
        (z : Read) × (z.«record» ≡ r) × (first_unseen (x ∷ xs) r ≡ suc z.version) × (f z ≡ false)
    go true q ih = (x, grind arith, grind arith, grind arith)
    go false q ih = let y = ih (grind arith) (grind arith) in (y.0, y.1, grind arith, y.3)

pub no_write_passes : (f : Write → Bool) (xs : List Write) (r : ℕ) → list_any f xs ≡ false → has_written xs r ≡ true → (z : Write) × (z.«record» ≡ r) × (f z ≡ false)
no_write_passes f [] r e l = absurd (grind arith)
no_write_passes f (x ∷ xs) r e l = go (eqb x.«record» r) refl (no_write_passes f xs r)
  where
    go : (b : Bool) → eqb x.«record» r ≡ b → (list_any f xs ≡ false → has_written xs r ≡ true → (z : Write) × (z.«record» ≡ r) × (f z ≡ false)) → (z : Write) × (z.«record» ≡ r) × (f z ≡ false)
    go true q ih = (x, grind arith, grind arith)
    go false q ih = ih (grind arith) (grind arith)

module _ {A : Type 0} where
  pub indexed_none : (f : ℕ → A → Bool) (xs : List A) (i k : ℕ) (d : A) → any_indexed f i xs ≡ false → k < length xs → f (i + k) (get_or xs k d) ≡ false
  indexed_none f [] i k d e l = absurd (omega arith)
  indexed_none f (x ∷ xs) i zero d e l = rw (add-zero i) (grind arith)
  indexed_none f (x ∷ xs) i (suc k) d e l = rw (add-suc i k, ← suc-add i k) (indexed_none f xs (suc i) k d (grind arith) (omega arith))

  pub indexed_some : (f : ℕ → A → Bool) (xs : List A) (i : ℕ) (d : A) → any_indexed f i xs ≡ true → (k : ℕ) × (f (i + k) (get_or xs k d) ≡ true)
  indexed_some f [] i d e = absurd (grind arith)
  indexed_some f (x ∷ xs) i d e = go (f i x) refl (indexed_some f xs (suc i) d)
    where
      go : (b : Bool) → f i x ≡ b → (any_indexed f (suc i) xs ≡ true → (k : ℕ) × (f (suc i + k) (get_or xs k d) ≡ true)) → (k : ℕ) × (f (i + k) (get_or (x ∷ xs) k d) ≡ true)
      go true q ih = (0, rw (add-zero i) q)
      go false q ih = let y = ih (grind arith) in (suc y.0, rw (add-suc i y.0, ← suc-add i y.0) y.1)

  pub getD_indexed : (f : ℕ → A → A) (xs : List A) (i k : ℕ) (d : A) → k < length xs → get_or (map_indexed f i xs) k d ≡ f (i + k) (get_or xs k d)
  getD_indexed f [] i k d l = absurd (omega arith)
  getD_indexed f (x ∷ xs) i zero d l = rw (add-zero i)
  getD_indexed f (x ∷ xs) i (suc k) d l = rw (add-suc i k, ← suc-add i k) (getD_indexed f xs (suc i) k d (omega arith))

  pub length_indexed : (f : ℕ → A → A) (xs : List A) (i : ℕ) → length (map_indexed f i xs) ≡ length xs
  length_indexed f [] i = refl
  length_indexed f (x ∷ xs) i = ap suc (length_indexed f xs (suc i))

  pub any_none_at : (f : A → Bool) (xs : List A) (k : ℕ) (d : A) → list_any f xs ≡ false → f d ≡ false → f (get_or xs k d) ≡ false
  any_none_at f [] k d e q = q
  any_none_at f (x ∷ xs) zero d e q = grind arith
  any_none_at f (x ∷ xs) (suc k) d e q = any_none_at f xs k d (grind arith) q

  pub any_none_from : (f : A → Bool) (xs : List A) (d : A) → ((k : ℕ) → f (get_or xs k d) ≡ false) → list_any f xs ≡ false
  any_none_from f [] d h = refl
  any_none_from f (x ∷ xs) d h = let a = h 0 in let b = any_none_from f xs d (λ k. h (suc k)) in grind arith

  pub any_some : (f : A → Bool) (xs : List A) → list_any f xs ≡ true → (z : A) × (f z ≡ true)
  any_some f [] e = absurd (grind arith)
  any_some f (x ∷ xs) e = go (f x) refl (any_some f xs)
    where
      go : (b : Bool) → f x ≡ b → (list_any f xs ≡ true → (z : A) × (f z ≡ true)) → (z : A) × (f z ≡ true)
      go true q ih = (x, q)
      go false q ih = ih (grind arith)

  pub getD_pushed : (xs : List A) (x d : A) (i : ℕ) → i ≤ length xs → get_or (xs ++ x ∷ []) i d ≡ cond (eqb i (length xs)) x (get_or xs i d)
  getD_pushed [] x d zero l = grind arith
  getD_pushed [] x d (suc i) l = absurd (omega arith)
  getD_pushed (y ∷ xs) x d zero l = grind arith
  getD_pushed (y ∷ xs) x d (suc i) l = let ih = getD_pushed xs x d i (omega arith) in grind arith

  pub highest_small : (f : A → Bool) (xs : List A) → highest f xs ≤ length xs
  highest_small f [] = omega arith
  highest_small f (x ∷ xs) = let ih = highest_small f xs in grind arith

  pub highest_passes : (f : A → Bool) (xs : List A) (i : ℕ) (d : A) → highest f xs ≡ suc i → f (get_or xs i d) ≡ true
  highest_passes f [] i d e = absurd (omega arith)
  highest_passes f (x ∷ xs) zero d e = grind arith
  highest_passes f (x ∷ xs) (suc i) d e = highest_passes f xs i d (grind arith)

  pub none_higher : (f : A → Bool) (xs : List A) (i : ℕ) (d : A) → highest f xs ≤ i → i < length xs → f (get_or xs i d) ≡ false
  none_higher f [] i d e l = absurd (omega arith)
  none_higher f (x ∷ xs) zero d e l = grind arith
  none_higher f (x ∷ xs) (suc i) d e l = none_higher f xs i d (grind arith) (omega arith)

  -- what holds of the repeated element and of the default
  pub in_replicate : (P : A → Type 0) (n k : ℕ) (a d : A) → P a → P d → P (get_or (replicate n a) k d)
  in_replicate P zero k a d p q = q
  in_replicate P (suc n) zero a d p q = p
  in_replicate P (suc n) (suc k) a d p q = in_replicate P n k a d p q

  -- one element written
  pub get_d_set : (xs : List A) (j k : ℕ) (x d : A) → j < length xs → get_or (set xs j x) k d ≡ cond (eqb k j) x (get_or xs k d)
  get_d_set xs j k x d l = go (eqb k j) refl
    where
      go : (t : Bool) → eqb k j ≡ t → get_or (set xs j x) k d ≡ cond t x (get_or xs k d)
      go true e = let q : k ≡ j = grind arith in rw q (get_or-set_same xs j x d l)
      go false e = let n : k ≢ j = grind arith in get_or-set_other xs j k x d n
