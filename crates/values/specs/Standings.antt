-- Standings: which there are, the bytes and the cell of each, and back; src/standing/kind.rt cites it. Assumes nothing.
use Rattle.std.specs.Prelude.{◌≡◌, ℕ, Bool, true, false, cond, List, [], ◌∷◌, length, drop, Some, None, Option, ◌==◌, nat_le, nat_lt, slice_index, refl}
use Rattle.std.proofs.lemmas.Bool.{ltb-true, leb-true}
use Rattle.std.specs.Option.{option_map}
use Rattle.encoding.specs.Bytes.{little_endian, from_little_endian}
use Rattle.values.specs.Limits.{days, most_reason}
use Rattle.values.specs.declared.standing.Day.{Day}
use Rattle.values.specs.declared.standing.Reason.{Reason}
use Rattle.values.specs.declared.standing.Standing.{Standing}
use Rattle.values.specs.declared.standing.Standing.TheVariants.{Lodged, Released, Stopped}
use Rattle.values.specs.declared.standing.StandingCell.{StandingCell}

-- the day, by how the test of its number came out
abbrev pub day_tested : (n : ℕ) (b : Bool) → nat_lt n days ≡ b → Option Day
day_tested n true e = Some (record { number = n; fits = ltb-true n days e })
day_tested n false e = None

-- the day with a number
abbrev pub day_of : ℕ → Option Day
day_of n = day_tested n (nat_lt n days) refl

-- the reason, by how the test of its number came out
abbrev pub reason_tested : (n : ℕ) (b : Bool) → nat_le n most_reason ≡ b → Option Reason
reason_tested n true e = Some (record { number = n; small = leb-true n most_reason e })
reason_tested n false e = None

-- the reason with a number
abbrev pub reason_of : ℕ → Option Reason
reason_of n = reason_tested n (nat_le n most_reason) refl

-- the standing that the number of a state and the number of a day or a reason mean
abbrev pub standing_of : ℕ → ℕ → Option Standing
standing_of k n =
    cond (k == 1) (option_map (λ d. Lodged d) (day_of n))
    (cond (k == 2) (option_map (λ d. Released d) (day_of n))
    (cond (k == 3) (option_map (λ r. Stopped r) (reason_of n)) None))

abbrev pub standing_state : Standing → ℕ
standing_state (Lodged d) = 1
standing_state (Released d) = 2
standing_state (Stopped r) = 3

abbrev pub standing_number : Standing → ℕ
standing_number (Lodged d) = d.number
standing_number (Released d) = d.number
standing_number (Stopped r) = r.number

abbrev pub standing_bytes : Standing → List ℕ
standing_bytes (Lodged d) = 1 ∷ little_endian 4 d.number
standing_bytes (Released d) = 2 ∷ little_endian 4 d.number
standing_bytes (Stopped r) = 3 ∷ r.number ∷ 0 ∷ 0 ∷ 0 ∷ []

-- the standing that bytes hold; a number of four bytes that is at most 99 is one byte and three zero bytes
abbrev pub standing_in : List ℕ → Option Standing
standing_in s = cond (length s == 5) (standing_of (slice_index s 0) (from_little_endian (drop 1 s))) None

abbrev pub standing_cell : Standing → StandingCell
standing_cell v = record { state = standing_state v; number = standing_number v }

-- the standing that a cell holds
abbrev pub standing_in_cell : StandingCell → Option Standing
standing_in_cell c = standing_of c.state c.number

abbrev pub spare_standing : Standing
spare_standing = Stopped (record { number = 0; small = leb-true 0 most_reason refl })
