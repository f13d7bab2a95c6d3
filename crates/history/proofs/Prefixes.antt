-- The archive's bytes determine its leaves: no code of a part is the beginning of another code of it, piece by piece.
use Rattle.std.proofs.Common.{◌≡◌, ℕ, zero, suc, ◌+◌, ◌%◌, ◌<◌, ◌≤◌, List, [], ◌∷◌, ◌++◌, length, take, drop, Some, None, Option, sym, refl, ap, ◌∙◌, subst, inl, inr, append_assoc, arith, take_at, drop_at}
use mathlib.Core.List.{nil≢cons, cons≢nil}
use Rattle.std.specs.List.{flat_map, cons_option, AllByRecursion}
use Rattle.std.proofs.lemmas.Bool.{cases_eq, cases_lt}
use Rattle.std.proofs.lemmas.Bool.Decides.{nat_tests}
use Rattle.encoding.specs.Frames.{counted}
use Rattle.ledger.specs.Limits.{last_job}
use Rattle.ledger.specs.declared.job.JobKind.{JobKind}
use Rattle.ledger.specs.declared.job.JobKind.TheVariants.{Amendment, Inspection}
use Rattle.history.specs.Histories.{Leaf, leaf_of, Serial}
use Rattle.history.specs.Layout.{Coding, leaf_frame, read_bytes, write_bytes, leaf_bytes, rising, leaves, head_bytes, archive_bytes, archive}
use Rattle.history.specs.Laws.{Lawful}
use Rattle.history.proofs.Positions.{fits_at, job_of_leaf}

-- the code of an element ends where it ends, whatever follows
abbrev PrefixFree : {X : Type 0} → (X → List ℕ) → Type 0
PrefixFree {X} f = (x y : X) (s t : List ℕ) → f x ++ s ≡ f y ++ t → (x ≡ y) × (s ≡ t)

module _ {X : Type 0} (f : X → List ℕ) (free : PrefixFree f) where
  joined_free : (xs ys : List X) (s t : List ℕ) → length xs ≡ length ys → flat_map f xs ++ s ≡ flat_map f ys ++ t → (xs ≡ ys) × (s ≡ t)
  joined_free [] [] s t l e = (refl, e)
  joined_free [] (y ∷ ys) s t l e = absurd (omega arith)
  joined_free (x ∷ xs) [] s t l e = absurd (omega arith)
  joined_free (x ∷ xs) (y ∷ ys) s t l e =
      let a = free x y _ _ (sym (append_assoc (f x) (flat_map f xs) s) ∙ e ∙ append_assoc (f y) (flat_map f ys) t) in
      let b = joined_free xs ys s t (omega arith) a.1 in
      (λ i. a.0 i ∷ b.0 i, b.1)

  counted_free : PrefixFree (counted f)
  counted_free xs ys s t e = joined_free xs ys s t (cc) (cc)

read_free : PrefixFree read_bytes
read_free p q s t e = let a : p.«record» ≡ q.«record» = cc in let b : p.version ≡ q.version = cc in (λ i. record { «record» = a i; version = b i }, cc)

kinds_apart : (a b : JobKind) → leaf_frame a % 256 ≡ leaf_frame b % 256 → a ≡ b
kinds_apart Amendment Amendment e = refl
kinds_apart Amendment Inspection e = absurd (omega arith)
kinds_apart Inspection Amendment e = absurd (omega arith)
kinds_apart Inspection Inspection e = refl

module _ {V : Type 0} (C : Coding V) (lawful : Lawful C) where
  value_free : PrefixFree C.bytes
  value_free v w s t e =
      let a = lawful.wide v in let b = lawful.wide w in
      (lawful.apart v w (sym (take_at (C.bytes v) s C.width a) ∙ ap (take C.width) e ∙ take_at (C.bytes w) t C.width b), sym (drop_at (C.bytes v) s C.width a) ∙ ap (drop C.width) e ∙ drop_at (C.bytes w) t C.width b)

  write_free : PrefixFree (write_bytes C)
  write_free p q s t e =
      let a : p.«record» ≡ q.«record» = cc in
      let b : p.version ≡ q.version = cc in
      let c = value_free p.value q.value s t (cc) in
      (λ i. record { «record» = a i; version = b i; value = c.0 i }, c.1)

  leaf_free : (x y : Leaf V) (s t : List ℕ) → x.job ≤ last_job → y.job ≤ last_job → leaf_bytes C x ++ s ≡ leaf_bytes C y ++ t → (x ≡ y) × (s ≡ t)
  leaf_free x y s t l m e =
      let k : leaf_frame x.kind % 256 ≡ leaf_frame y.kind % 256 = cc in
      let j : x.job % 256 ≡ y.job % 256 = cc in
      let job : x.job ≡ y.job = omega arith in
      let kind = kinds_apart x.kind y.kind k in
      let rest : (counted read_bytes x.reads ++ counted (write_bytes C) x.writes) ++ s ≡ (counted read_bytes y.reads ++ counted (write_bytes C) y.writes) ++ t = cc in
      let a = counted_free read_bytes read_free x.reads y.reads _ _ (sym (append_assoc (counted read_bytes x.reads) _ s) ∙ rest ∙ append_assoc (counted read_bytes y.reads) _ t) in
      let b = counted_free (write_bytes C) write_free x.writes y.writes s t a.1 in
      (λ i. record { job = job i; kind = kind i; reads = a.0 i; writes = b.0 i }, b.1)

  leaves_apart : (xs ys : List (Leaf V)) → AllByRecursion (λ x. x.job ≤ last_job) xs → AllByRecursion (λ x. x.job ≤ last_job) ys → flat_map (leaf_bytes C) xs ≡ flat_map (leaf_bytes C) ys → xs ≡ ys
  leaves_apart [] [] a b e = refl
  leaves_apart [] (y ∷ ys) a b e = absurd (nil≢cons e)
  leaves_apart (x ∷ xs) [] a b e = absurd (cons≢nil e)
  leaves_apart (x ∷ xs) (y ∷ ys) a b e =
      let c = leaf_free x y _ _ a.0 b.0 e in
      let d = leaves_apart xs ys a.1 b.1 c.1 in
      λ i. c.0 i ∷ d i

-- a leaf stands in the archive's order where its job number puts it
module _ {V : Type 0} where
  rising_low : (j k n : ℕ) (h : List (Leaf V)) → j < k → leaf_of (rising k n h) j ≡ None
  rising_low j k zero h l = refl
  rising_low j k (suc n) h l = go (leaf_of h k) refl (rising_low j (suc k) n h (omega arith))
    where
      go : (p : Option (Leaf V)) → leaf_of h k ≡ p → leaf_of (rising (suc k) n h) j ≡ None → leaf_of (cons_option p (rising (suc k) n h)) j ≡ None
      go None e r = r
      go (Some x) e r = let m = job_of_leaf h k x e in grind (arith, nat_tests)

  rising_at : (j k n : ℕ) (h : List (Leaf V)) → k ≤ j → j < k + n → leaf_of (rising k n h) j ≡ leaf_of h j
  rising_at j k zero h l m = absurd (omega arith)
  rising_at j k (suc n) h l m = go (leaf_of h k) refl (rising_low j (suc k) n h) (rising_at j (suc k) n h)
    where
      go : (p : Option (Leaf V)) → leaf_of h k ≡ p → (j < suc k → leaf_of (rising (suc k) n h) j ≡ None) → (suc k ≤ j → j < suc k + n → leaf_of (rising (suc k) n h) j ≡ leaf_of h j) → leaf_of (cons_option p (rising (suc k) n h)) j ≡ leaf_of h j
      go None e low at = elim (cases_eq k j) [
        | inl q ↦ low (omega arith) ∙ sym (subst (λ z. leaf_of h z ≡ None) q e)
        | inr q ↦ at (omega arith) (omega arith)
      ]
      go (Some x) e low at = elim (cases_eq k j) [
        | inl q ↦ (let o = job_of_leaf h k x e in let f : leaf_of h j ≡ Some x = subst (λ z. leaf_of h z ≡ Some x) q e in grind (arith, nat_tests))
        | inr q ↦ (let o = job_of_leaf h k x e in let f = at (omega arith) (omega arith) in grind (arith, nat_tests))
      ]

  rising_small : (k n : ℕ) (h : List (Leaf V)) → Serial h → AllByRecursion (λ x. x.job ≤ last_job) (rising k n h)
  rising_small k zero h s = tt
  rising_small k (suc n) h s = go (leaf_of h k) refl (rising_small (suc k) n h s)
    where
      go : (p : Option (Leaf V)) → leaf_of h k ≡ p → AllByRecursion (λ x. x.job ≤ last_job) (rising (suc k) n h) → AllByRecursion (λ x. x.job ≤ last_job) (cons_option p (rising (suc k) n h))
      go None e r = r
      go (Some x) e r = ((fits_at h k x s e).small, r)

  rising_same : (k n : ℕ) (g h : List (Leaf V)) → ((j : ℕ) → leaf_of g j ≡ leaf_of h j) → rising k n g ≡ rising k n h
  rising_same k zero g h e = refl
  rising_same k (suc n) g h e = λ i. cons_option (e k i) (rising_same (suc k) n g h e i)

  leaves_same : (g h : List (Leaf V)) → ((j : ℕ) → leaf_of g j ≡ leaf_of h j) → leaves g ≡ leaves h
  unfolding leaves
  leaves_same g h e = rising_same 0 (last_job + 1) g h e

  no_high_leaf : (j : ℕ) (h : List (Leaf V)) → Serial h → last_job < j → leaf_of h j ≡ None
  no_high_leaf j h s l = go (leaf_of h j) refl
    where
      go : (p : Option (Leaf V)) → leaf_of h j ≡ p → leaf_of h j ≡ None
      go None e = e
      go (Some x) e = let a = (fits_at h j x s e).small in let b = job_of_leaf h j x e in absurd (omega arith)

  leaves_small : (h : List (Leaf V)) → Serial h → AllByRecursion (λ x. x.job ≤ last_job) (leaves h)
  unfolding leaves
  leaves_small h s = rising_small 0 (last_job + 1) h s

  pub leaf_of_leaves : (j : ℕ) (h : List (Leaf V)) → j ≤ last_job → leaf_of (leaves h) j ≡ leaf_of h j
  unfolding leaves
  leaf_of_leaves j h l = rising_at j 0 (last_job + 1) h (omega arith) (omega arith)

  module _ (C : Coding V) (g h : List (Leaf V)) where
    pub archive_same : ((j : ℕ) → leaf_of g j ≡ leaf_of h j) → archive C g ≡ archive C h
    unfolding archive_bytes
    archive_same e = ap (λ ls. head_bytes C (length ls) ++ flat_map (leaf_bytes C) ls) (leaves_same g h e)

    pub archive_apart : Lawful C → Serial g → Serial h → archive C g ≡ archive C h → (j : ℕ) → leaf_of g j ≡ leaf_of h j
    unfolding archive_bytes
    archive_apart lawful sg sh e j =
        let same : leaves g ≡ leaves h = leaves_apart C lawful (leaves g) (leaves h) (leaves_small g sg) (leaves_small h sh) (cc) in
        elim (cases_lt last_job j) [
          | inl l ↦ no_high_leaf j g sg l ∙ sym (no_high_leaf j h sh l)
          | inr l ↦ sym (leaf_of_leaves j g l) ∙ ap (λ ls. leaf_of ls j) same ∙ leaf_of_leaves j h l
        ]
