-- A number comes back from its little_endian bytes, and bytes from their number; what lists of bytes and frames keep.
use Rattle.std.proofs.Common.{◌≡◌, ℕ, zero, suc, ◌+◌, ◌*◌, ◌/◌, ◌%◌, ◌^◌, ◌<◌, List, [], ◌∷◌, length, get_or, take, drop, refl, ap, ◌∙◌, arith}
use Rattle.std.specs.Int.{byte_worth, sum_through}
use Rattle.std.proofs.Math.Nat.{pow-suc}
use native.Mathlib.Nat.{pow-succ'}
use Rattle.encoding.specs.Bytes.{little_endian, from_little_endian, Octets}

-- a number that fits the width comes back
pub number_of_little_endian : (k n : ℕ) → n < 256 ^ k → from_little_endian (little_endian k n) ≡ n
number_of_little_endian zero n h = omega arith
number_of_little_endian (suc k) n h =
    let r = number_of_little_endian k (n / 256) (omega (arith, pow-succ' 256 k)) in
    omega arith

-- one byte more in front: the byte, and the number of the bytes behind it
digit : (b m : ℕ) → b < 256 → (b + 256 * m) % 256 ≡ b
digit b m h = omega arith

rest : (b m : ℕ) → b < 256 → (b + 256 * m) / 256 ≡ m
rest b m h = omega arith

-- so many bytes come back
pub little_endian_of_number : (k : ℕ) (s : List ℕ) → Octets s → length s ≡ k → little_endian k (from_little_endian s) ≡ s
little_endian_of_number zero [] o e = refl
little_endian_of_number zero (b ∷ bs) o e = absurd (omega arith)
little_endian_of_number (suc k) [] o e = absurd (omega arith)
little_endian_of_number (suc k) (b ∷ bs) o e =
    let r : length bs ≡ k = omega arith in
    ap (λ d. d ∷ little_endian k ((b + 256 * from_little_endian bs) / 256)) (digit b (from_little_endian bs) o.0)
    ∙ ap (λ m. b ∷ little_endian k m) (rest b (from_little_endian bs) o.0)
    ∙ ap (λ t. b ∷ t) (little_endian_of_number k bs o.1 r)

-- so many bytes hold a number that fits
pub number_small : (k : ℕ) (s : List ℕ) → Octets s → length s ≡ k → from_little_endian s < 256 ^ k
number_small zero [] o e = omega arith
number_small zero (b ∷ bs) o e = absurd (omega arith)
number_small (suc k) [] o e = absurd (omega arith)
number_small (suc k) (b ∷ bs) o e = let r = number_small k bs o.1 (omega arith) in omega (arith, o.0, pow-succ' 256 k)

-- a list is one of bytes if each place holds one
pub octets : (s : List ℕ) → ((i : ℕ) → get_or s i 0 < 256) → Octets s
octets [] h = tt
octets (b ∷ bs) h = (h 0, octets bs (λ i. h (suc i)))

pub octets_take : (n : ℕ) (s : List ℕ) → Octets s → Octets (take n s)
octets_take zero s o = tt
octets_take (suc n) [] o = tt
octets_take (suc n) (b ∷ bs) o = (o.0, octets_take n bs o.1)

pub octets_drop : (n : ℕ) (s : List ℕ) → Octets s → Octets (drop n s)
octets_drop zero s o = o
octets_drop (suc n) [] o = tt
octets_drop (suc n) (b ∷ bs) o = octets_drop n bs o.1

-- the library's word for the number that bytes hold means the same: the first byte apart, the others are worth 256 times as much
first_apart : (f : ℕ → ℕ) (k : ℕ) → sum_through f (suc k) ≡ f 0 + sum_through (λ i. f (suc i)) k
first_apart f zero = refl
first_apart f (suc k) = let r = first_apart f k in omega arith

scaled : (f g : ℕ → ℕ) → ((i : ℕ) → g i ≡ 256 * f i) → (k : ℕ) → sum_through g k ≡ 256 * sum_through f k
scaled f g e zero = e 0
scaled f g e (suc k) = let r = scaled f g e k in let q = e (suc k) in omega arith

worth_next : (i b : ℕ) → byte_worth (suc i) b ≡ 256 * byte_worth i b
worth_next zero b = omega arith
worth_next (suc i) b = ap (λ m. b * m) (pow-suc 256 (suc i)) ∙ grind arith

pub number_is : (k : ℕ) (s : List ℕ) → length s ≡ suc k → sum_through (λ i. byte_worth i (get_or s i 0)) k ≡ from_little_endian s
number_is k [] e = absurd (omega arith)
number_is zero (b ∷ []) e = omega arith
number_is zero (b ∷ c ∷ bs) e = absurd (omega arith)
number_is (suc k) (b ∷ bs) e =
    let f : ℕ → ℕ = λ i. byte_worth i (get_or bs i 0) in
    let r : sum_through f k ≡ from_little_endian bs = number_is k bs (omega arith) in
    first_apart (λ i. byte_worth i (get_or (b ∷ bs) i 0)) k
    ∙ ap (λ m. b + m) (scaled f (λ i. byte_worth (suc i) (get_or bs i 0)) (λ i. worth_next i (get_or bs i 0)) k ∙ ap (λ m. 256 * m) r)
