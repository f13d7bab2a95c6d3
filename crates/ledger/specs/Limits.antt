-- The bounds of the ledger, each in one place. Assumes nothing.
use Rattle.std.specs.Prelude.{ℕ, cond, ◌==◌, nat_lt}

-- job numbers run from 0 to here
abbrev pub last_job : ℕ
last_job = 255

-- record numbers run from 0 to here
abbrev pub last_record : ℕ
last_record = 63

-- how many records a job may list as read, and how many as written
abbrev pub most_listed : ℕ
most_listed = 8

-- how many versions a record may have; version 0, blank, is not among them
abbrev pub most_versions : ℕ
most_versions = 32

abbrev pub most_offices : ℕ
most_offices = 8

-- a house has 1 to 8 offices, whatever number it is built with
abbrev pub offices_built : ℕ → ℕ
offices_built n = cond (n == 0) 1 (cond (nat_lt most_offices n) most_offices n)
