-- The limits that amounts and standings keep; src/amount.rt and src/standing.rt cite it. Assumes nothing.
use Rattle.std.specs.Prelude.{ℕ, ℤ, pos, negsuc}

-- -999,999,999,999: `negsuc n` is one below -n
abbrev pub least_units : ℤ
least_units = negsuc 999999999998

abbrev pub most_units : ℤ
most_units = pos 999999999999

-- how many days there are: those whose number has four bytes
abbrev pub days : ℕ
days = 4294967296

abbrev pub most_reason : ℕ
most_reason = 99
