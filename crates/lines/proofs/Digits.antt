-- What the digits at the front of some bytes write. Assumes nothing.
use Rattle.std.proofs.Common.{◌≡◌, ℕ, zero, suc, ◌+◌, ◌-◌, ◌*◌, ◌^◌, ◌<◌, ◌≤◌, ◌⊎◌, inl, inr, Bool, true, false, cond, leb, List, [], ◌∷◌, length, get_or, take, drop, Some, None, fold, refl, sym, ◌∙◌, ap, pow-suc, add-one, arith, rules}
use native.Mathlib.Nat.{pow-le-pow_right}
use Rattle.std.proofs.lemmas.Str.Parse.{IsNumeralModel, numerals_by_fold, tells_all_ascii_digits, digit_at, digits_value_short}
use Rattle.std.proofs.lemmas.Bool.{le-leb, lt-leb}
use Rattle.std.proofs.lemmas.List.{length-take-le}
use Rattle.std.proofs.lemmas.List.Sums.{fold_more, prefix_len-le-length}
use Rattle.std.specs.Char.{is_ascii_digit}
use Rattle.std.specs.Str.{all_ascii_digits}
use Rattle.lines.specs.Grammar.{digit_zero, most_digits, written, digits, number}

-- `written` is the value of digits
numerals : IsNumeralModel (λ s. all_ascii_digits s ≡ true) written
numerals = numerals_by_fold _ tells_all_ascii_digits (λ n s. fold (λ m d. m * 10 + (d - digit_zero)) n s) (search rules)

-- the first n digits of s write v
pub record ReadSoFar (s : List ℕ) (n v : ℕ) : Type 0 where
  pub worth : v ≡ written (take n s)
  pub bound : v < 10 ^ n

pub value_bound : {s : List ℕ} {n v : ℕ} → ReadSoFar s n v → n ≤ most_digits → v < 10 ^ most_digits
value_bound {s} {n} {v} h few = let p : 10 ^ n ≤ 10 ^ most_digits = pow-le-pow_right (omega arith) few in omega (arith, h.bound, p)

pub nothing_read : (s : List ℕ) → ReadSoFar s 0 0
nothing_read s = record { worth = refl; bound = omega arith }

pub digit_bounds : (s : List ℕ) (n : ℕ) → all_ascii_digits s ≡ true → n < length s → (48 ≤ get_or s n 0) × (get_or s n 0 ≤ 57)
digit_bounds s n d lt = digit_at s n (numerals.to s d) lt

-- one digit more: n digits below 10 ^ n, and one more, stay below 10 ^ (n + 1)
pub one_more : {s : List ℕ} {n v : ℕ} → ReadSoFar s n v → n < length s → all_ascii_digits s ≡ true → ReadSoFar s (n + 1) (v * 10 + (get_or s n 0 - digit_zero))
one_more {s} {n} {v} h lt d =
    let b = digit_bounds s n d lt in
    let grow : 10 ^ (n + 1) ≡ 10 ^ n * 10 = ap (λ k. 10 ^ k) (add-one n) ∙ pow-suc 10 n in
    record {
      worth = ap (λ m. m * 10 + (get_or s n 0 - digit_zero)) h.worth ∙ sym (fold_more (λ m c. m * 10 + (c - digit_zero)) 0 s n 0 lt);
      bound = omega (arith, h.bound, grow, b.0, b.1);
    }

-- the bytes at the front that are counted as digits
abbrev pub front : List ℕ → List ℕ
front s = take (digits s) s

-- one byte more in front, with t telling whether it is a digit
front_with_byte : (b : ℕ) (t : Bool) (s : List ℕ) → is_ascii_digit b ≡ t → all_ascii_digits (front s) ≡ true → all_ascii_digits (take (cond t (1 + digits s) 0) (b ∷ s)) ≡ true
front_with_byte b true s e ih = let f : 1 + digits s ≡ suc (digits s) = omega arith in rw (f, e, ih) refl
front_with_byte b false s e ih = refl

front_digits : (s : List ℕ) → all_ascii_digits (front s) ≡ true
front_digits [] = refl
front_digits (b ∷ s) = front_with_byte b (is_ascii_digit b) s refl (front_digits s)

pub first_are_digits : (s : List ℕ) (n : ℕ) (ds : List ℕ) → n ≡ digits s → ds ≡ take n s → all_ascii_digits ds ≡ true
first_are_digits s n ds e d = rw (d, e) (front_digits s)

-- digits that are counted no further than k: all, where they are fewer, and no more than there are
counted : (k : ℕ) (s : List ℕ) → (digits (take k s) < k → digits (take k s) ≡ digits s) × (digits (take k s) ≤ digits s)
counted zero s = (λ h. absurd (omega arith), omega arith)
counted (suc k) [] = (λ h. refl, omega arith)
counted (suc k) (b ∷ s) = let ih = counted k s in grind arith

pub all_counted : (s : List ℕ) (n : ℕ) → n ≡ digits (take (most_digits + 1) s) → n ≤ most_digits → n ≡ digits s
all_counted s n e few = e ∙ (counted (most_digits + 1) s).0 (omega (arith, e, few))

pub no_number : (s : List ℕ) (n : ℕ) → n ≡ digits (take (most_digits + 1) s) → (n ≡ 0) ⊎ ((n ≡ 0 → ⊥) × (most_digits < n)) → number s ≡ None
unfolding number
no_number s n e (inl z) = let d : digits s ≡ 0 = sym (all_counted s n e (omega (arith, z))) ∙ z in rw d refl
no_number s n e (inr (some, many)) =
    let more : most_digits < digits s = omega (arith, (counted (most_digits + 1) s).1, e, many) in
    let l : leb (digits s) most_digits ≡ false = lt-leb _ _ more in
    let f : leb 1 (digits s) ≡ true = le-leb _ _ (omega (arith, more)) in
    rw (f, l) refl

-- the number at the front, where there are 1 to 13 digits
pub number_read : (s : List ℕ) (n : ℕ) (ds rest : List ℕ) (v : ℕ) → n ≡ digits s → (n ≡ 0 → ⊥) → n ≤ most_digits → ds ≡ take n s → rest ≡ drop n s → v ≡ written ds → (number s ≡ Some (v, rest)) × (v < 10 ^ most_digits)
unfolding number
number_read s n ds rest v e some few d r w =
    let f : leb 1 n ≡ true = le-leb _ _ (omega arith) in
    let l : leb n most_digits ≡ true = le-leb _ _ few in
    let short : written ds < 10 ^ most_digits = digits_value_short numerals ds most_digits (first_are_digits s n ds e d) (omega (arith, few, ap length d, length-take-le n s (omega (arith, e, prefix_len-le-length is_ascii_digit s)))) in
    (rw (← e, f, l, w, d, r) refl, omega (arith, w, short))
