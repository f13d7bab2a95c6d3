-- The fields of a line, each behind one blank: what src/fields.rt and src/parse.rt read. Assumes nothing.
use Rattle.std.specs.Prelude.{◌≡◌, ℕ, ◌+◌, ◌-◌, ◌*◌, cond, ◌&&◌, List, [], ◌∷◌, take, drop, ℤ, pos, neg_ℤ, Some, None, MatchOption, fold, Option, ◌==◌, nat_le}
use Rattle.std.specs.Char.{is_ascii_digit}
use Rattle.std.specs.List.{prefix_len}

-- the code of a blank
abbrev pub blank : ℕ
blank = 32

-- the code of a minus
abbrev pub minus : ℕ
minus = 45

-- the code of the digit 0
abbrev pub digit_zero : ℕ
digit_zero = 48

-- a number has at most so many digits
abbrev pub most_digits : ℕ
most_digits = 13

-- the number that digits write
abbrev pub written : List ℕ → ℕ
written s = fold (λ n d. n * 10 + (d - digit_zero)) 0 s

-- how many digits stand at the front
abbrev pub digits : List ℕ → ℕ
digits s = prefix_len is_ascii_digit s

-- the number at the front, of 1 to 13 digits, and what stands behind its last digit
unfoldable pub number : List ℕ → Option (ℕ × List ℕ)
number s = cond (nat_le 1 (digits s) && nat_le (digits s) most_digits) (Some (written (take (digits s) s), drop (digits s) s)) None

-- f of what o holds
abbrev pub then : {A B : Type 0} → Option A → (A → Option B) → Option B
then None f = None
then (Some a) f = f a

-- what stands behind the byte b, if that is the first
abbrev pub behind : ℕ → List ℕ → Option (List ℕ)
behind b [] = None
behind b (x ∷ s) = cond (x == b) (Some s) None

-- a number behind one blank
abbrev pub field : List ℕ → Option (ℕ × List ℕ)
field s = then (behind blank s) number

-- a number that was read, with a sign
abbrev pub with_sign : (ℕ → ℤ) → ℕ × List ℕ → Option (ℤ × List ℕ)
with_sign sign p = Some (sign p.0, p.1)

-- a number that may begin with a minus
abbrev pub signed_number : List ℕ → Option (ℤ × List ℕ)
signed_number s = elim (behind minus s) [ None ↦ then (number s) (with_sign pos) | Some t ↦ then (number t) (with_sign (λ n. neg_ℤ (pos n))) ]

-- such a number behind one blank
abbrev pub signed_field : List ℕ → Option (ℤ × List ℕ)
signed_field s = then (behind blank s) signed_number

-- a, if nothing is left over
abbrev pub if_none_left : {A : Type 0} → A → List ℕ → Option A
if_none_left a [] = Some a
if_none_left a (b ∷ s) = None

-- just one number
abbrev pub one_field : List ℕ → Option ℕ
one_field s = then (field s) (λ p. if_none_left p.0 p.1)

-- just two numbers
abbrev pub two_fields : List ℕ → Option (ℕ × ℕ)
two_fields s = then (field s) (λ p. then (field p.1) (λ q. if_none_left (p.0, q.0) q.1))

-- just a currency and units, which may begin with a minus
abbrev pub amount_fields : List ℕ → Option (ℕ × ℤ)
amount_fields s = then (field s) (λ p. then (signed_field p.1) (λ q. if_none_left (p.0, q.0) q.1))

-- r is what a reader takes at the front of the bytes before, and after is what it leaves of them, if it takes something
abbrev pub Taken : {A : Type 0} → (List ℕ → Option (A × List ℕ)) → List ℕ → List ℕ → Option A → Type 0
Taken reader before after r = MatchOption r (reader before ≡ None) (λ a. reader before ≡ Some (a, after))
