-- Of two conflicting leaves the versions tell which came first: turned round, one of them would have counted the other among the writers before it.
use Rattle.std.proofs.Common.{◌≡◌, ℕ, suc, ◌+◌, ◌≤◌, Bool, true, false, cond, ◌||◌, eqb, List, [], ◌∷◌, Some, None, Option, inl, inr, arith}
use Rattle.std.specs.List.{AllByRecursion, list_any}
use Rattle.std.proofs.lemmas.Bool.{or_cases, eqb-true}
use Rattle.history.specs.Histories.{Leaf, wrote, used, Conflict, writer_count, leaf_of, earlier, is_before, Fits, Serial}
use Rattle.history.proofs.Positions.{fits_at, serial_earlier, not_before_itself, one_first, count_earlier, leaf_before}

-- two functions that give the version of each element agree at each record of the list
same_at : {Q : Type 0} (number version : Q → ℕ) (f g : ℕ → ℕ) (r : ℕ) (qs : List Q) → list_any (λ q. eqb (number q) r) qs ≡ true → AllByRecursion (λ q. version q ≡ f (number q)) qs → AllByRecursion (λ q. version q ≡ g (number q)) qs → f r ≡ g r
same_at number version f g r [] t a b = grind arith
same_at number version f g r (q ∷ qs) t a b = elim (or_cases (eqb (number q) r) (list_any (λ q. eqb (number q) r) qs) t) [
  | inl e ↦ (let s = eqb-true (number q) r e in let k = a.0 in let m = b.0 in cc)
  | inr e ↦ same_at number version f g r qs e a.1 b.1
]

module _ {V : Type 0} where
  -- the leaf's own versions tell how many wrote r before it
  same_count : (x : Leaf V) (r : ℕ) (g h : List (Leaf V)) → used x r ≡ true → Fits x g → Fits x h → writer_count g r ≡ writer_count h r
  same_count x r g h t p q = elim (or_cases (list_any (λ q. eqb q.«record» r) x.reads) (wrote x r) t) [
    | inl e ↦ same_at (λ q. q.«record») (λ q. q.version) (writer_count g) (writer_count h) r x.reads e p.read q.read
    | inr e ↦ (let k = same_at (λ w. w.«record») (λ w. w.version) (λ s. suc (writer_count g s)) (λ s. suc (writer_count h s)) r x.writes e p.written q.written in omega arith)
  ]

  module _ (g h : List (Leaf V)) (sg : Serial g) (sh : Serial h) (i j : ℕ) (x y : Leaf V) where
    -- not the one order here and the other there
    not_turned : Conflict x y → leaf_of (earlier g j) i ≡ Some x → leaf_of g j ≡ Some y → leaf_of (earlier h i) j ≡ Some y → leaf_of h i ≡ Some x → ⊥
    not_turned c a b p q =
        let r = c.0 in
        let m : writer_count (earlier (earlier g j) i) r ≡ writer_count (earlier h i) r = same_count x r _ _ c.1 (fits_at (earlier g j) i x (serial_earlier g j sg) a) (fits_at h i x sh q) in
        let n : writer_count (earlier g j) r ≡ writer_count (earlier (earlier h i) j) r = same_count y r _ _ c.2 (fits_at g j y sg b) (fits_at (earlier h i) j y (serial_earlier h i sh) p) in
        let k = count_earlier (earlier g j) r i x a in
        let l = count_earlier (earlier h i) r j y p in
        let one : 1 ≤ cond (wrote x r) 1 0 + cond (wrote y r) 1 0 = some (wrote x r) (wrote y r) c.3 in
        omega arith
      where
        some : (s t : Bool) → (s || t) ≡ true → 1 ≤ cond s 1 0 + cond t 1 0
        some true true e = omega arith
        some true false e = omega arith
        some false true e = omega arith
        some false false e = grind arith

    pub kept_order : leaf_of g i ≡ Some x → leaf_of g j ≡ Some y → leaf_of h i ≡ Some x → leaf_of h j ≡ Some y → Conflict x y → is_before g i j ≡ true → is_before h i j ≡ true
    kept_order ig jg ih jh c b =
        let a = leaf_before g i j x sg ig b in
        elim (one_first h i j x y ih jh (λ e. same e a)) [
          | inl t ↦ t
          | inr t ↦ absurd (not_turned c a jg (leaf_before h j i y sh jh t) ih)
        ]
      where
        same : i ≡ j → leaf_of (earlier g j) i ≡ Some x → ⊥
        same e a = let n = not_before_itself g j sg in let z : ◌≡◌ {A = Option (Leaf V)} None (Some x) = cc in grind arith
