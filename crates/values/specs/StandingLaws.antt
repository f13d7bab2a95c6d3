-- A standing is its two numbers; its bytes and its cell give it back.
use Rattle.std.specs.Prelude.{◌≡◌, ℕ, ◌<◌, ◌≤◌, Bool, true, false, ltb, leb, List, [], ◌∷◌, length, take, drop, Some, ◌==◌, nat_le, nat_lt, slice_index, refl}
use Rattle.std.proofs.Common.{sym, ap, ◌∙◌, arith}
use mathlib.Core.HLevel.{is_prop→PathP}
use Rattle.std.proofs.Math.Bridge.{le_prop}
use Rattle.std.proofs.lemmas.List.{length-drop, take_all}
use Rattle.std.proofs.lemmas.Bool.{eq-eqb, ltb-false, leb-false, cond-true}
use Rattle.std.specs.Option.{option_map}
use Rattle.encoding.specs.Bytes.{little_endian, from_little_endian, Octets}
use Rattle.values.specs.Limits.{days, most_reason}
use Rattle.values.specs.Standings.{day_tested, day_of, reason_tested, reason_of, standing_of, standing_state, standing_number, standing_bytes, standing_in, standing_cell, standing_in_cell}
use Rattle.values.specs.declared.standing.Day.{Day}
use Rattle.values.specs.declared.standing.Reason.{Reason}
use Rattle.values.specs.declared.standing.Standing.{Standing}
use Rattle.values.specs.declared.standing.Standing.TheVariants.{Lodged, Released, Stopped}
use Rattle.values.specs.declared.standing.StandingCell.{StandingCell}
use Rattle.encoding.proofs.BytesLaws.{number_of_little_endian, little_endian_of_number, octets_drop}

-- days and reasons with equal numbers are equal, since each limit has one proof at most
pub day_ext : (a b : Day) → a.number ≡ b.number → a ≡ b
day_ext a b p = λ i. record { number = p i; fits = is_prop→PathP (λ j. p j < days) (λ j. le_prop) a.fits b.fits i }

pub reason_ext : (a b : Reason) → a.number ≡ b.number → a ≡ b
reason_ext a b p = λ i. record { number = p i; small = is_prop→PathP (λ j. p j ≤ most_reason) (λ j. le_prop) a.small b.small i }

day_tested_is : (d : Day) (n : ℕ) (b : Bool) (e : ltb n days ≡ b) → d.number ≡ n → day_tested n b e ≡ Some d
day_tested_is d n true e f = ap (λ x. Some x) (day_ext _ d (sym f))
day_tested_is d n false e f = absurd (omega (arith, ltb-false n days e, d.fits))

-- a day is the day with its number
pub day_of_is : (d : Day) (n : ℕ) → d.number ≡ n → day_of n ≡ Some d
day_of_is d n f = day_tested_is d n (nat_lt n days) refl f

reason_tested_is : (r : Reason) (n : ℕ) (b : Bool) (e : leb n most_reason ≡ b) → r.number ≡ n → reason_tested n b e ≡ Some r
reason_tested_is r n true e f = ap (λ x. Some x) (reason_ext _ r (sym f))
reason_tested_is r n false e f = absurd (omega (arith, leb-false n most_reason e, r.small))

-- a reason is the reason with its number
pub reason_of_is : (r : Reason) (n : ℕ) → r.number ≡ n → reason_of n ≡ Some r
reason_of_is r n f = reason_tested_is r n (nat_le n most_reason) refl f

-- a standing is the standing of its numbers
pub standing_of_is : (v : Standing) → standing_of (standing_state v) (standing_number v) ≡ Some v
standing_of_is (Lodged d) = ap (option_map (λ x. Lodged x)) (day_of_is d d.number refl)
standing_of_is (Released d) = ap (option_map (λ x. Released x)) (day_of_is d d.number refl)
standing_of_is (Stopped r) = ap (option_map (λ x. Stopped x)) (reason_of_is r r.number refl)

-- the numbers of a standing that is made from numbers
pub standing_of_some : (k n : ℕ) (v : Standing) → standing_of k n ≡ Some v → (standing_state v ≡ k) × (standing_number v ≡ n)
standing_of_some k n v h = grind arith

-- the bytes are the state's number and four bytes of the day or the reason
reason_bytes : (n : ℕ) → n ≤ most_reason → n ∷ 0 ∷ 0 ∷ 0 ∷ [] ≡ little_endian 4 n
reason_bytes n h =
    let o : Octets (n ∷ 0 ∷ 0 ∷ 0 ∷ []) = (omega arith, (omega arith, (omega arith, (omega arith, tt)))) in
    let u : from_little_endian (n ∷ 0 ∷ 0 ∷ 0 ∷ []) ≡ n = omega arith in
    sym (little_endian_of_number 4 (n ∷ 0 ∷ 0 ∷ 0 ∷ []) o refl) ∙ ap (little_endian 4) u

pub bytes_are : (v : Standing) → standing_bytes v ≡ standing_state v ∷ little_endian 4 (standing_number v)
bytes_are (Lodged d) = refl
bytes_are (Released d) = refl
bytes_are (Stopped r) = ap (λ x. 3 ∷ x) (reason_bytes r.number r.small)

number_small : (v : Standing) → standing_number v < days
number_small (Lodged d) = d.fits
number_small (Released d) = d.fits
number_small (Stopped r) = omega (arith, r.small)

pub bytes_length : (v : Standing) → length (standing_bytes v) ≡ 5
bytes_length v = ap length (bytes_are v)

pub parsed_bytes : (v : Standing) → standing_in (standing_bytes v) ≡ Some v
parsed_bytes v = ap standing_in (bytes_are v) ∙ ap (standing_of (standing_state v)) (number_of_little_endian 4 (standing_number v) (number_small v)) ∙ standing_of_is v

first_rest : (s : List ℕ) → 0 < length s → slice_index s 0 ∷ drop 1 s ≡ s
first_rest [] h = absurd (omega arith)
first_rest (b ∷ bs) h = refl

pub bytes_parsed : (s : List ℕ) (v : Standing) → Octets s → standing_in s ≡ Some v → standing_bytes v ≡ s
bytes_parsed s v o e =
    let t : (length s ≡ 5) × (standing_of (slice_index s 0) (from_little_endian (drop 1 s)) ≡ Some v) = grind arith in
    let m = standing_of_some (slice_index s 0) (from_little_endian (drop 1 s)) v t.1 in
    let back : length (drop 1 s) ≡ 4 = omega (arith, t.0, length-drop 1 s) in
    bytes_are v
    ∙ ap (λ k. k ∷ little_endian 4 (standing_number v)) m.0
    ∙ ap (λ n. slice_index s 0 ∷ little_endian 4 n) m.1
    ∙ ap (λ x. slice_index s 0 ∷ x) (little_endian_of_number 4 (drop 1 s) (octets_drop 1 s o) back)
    ∙ first_rest s (omega (arith, t.0))

pub cell_restored : (c : StandingCell) (v : Standing) → standing_in_cell c ≡ Some v → standing_cell v ≡ c
cell_restored c v e = let m = standing_of_some c.state c.number v e in λ i. record { state = m.0 i; number = m.1 i }

-- the standing in five bytes, from the two numbers that the code reads
pub standing_in_is : (s : List ℕ) (k n : ℕ) → length s ≡ 5 → k ≡ slice_index s 0 → n ≡ from_little_endian (take 4 (drop 1 s)) → standing_in s ≡ standing_of k n
standing_in_is s k n e f g =
    let t : take 4 (drop 1 s) ≡ drop 1 s = take_all 4 (drop 1 s) (omega (arith, length-drop 1 s)) in
    cond-true (length s == 5) _ _ (eq-eqb _ _ e)
    ∙ ap (λ x. standing_of x (from_little_endian (drop 1 s))) (sym f)
    ∙ ap (standing_of k) (sym (g ∙ ap from_little_endian t))
