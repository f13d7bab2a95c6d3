-- Which office owns a record; `src/office.rt` and the calls that go by offices cite it. Assumes nothing.
use Rattle.std.specs.Prelude.{ℕ, Bool, ◌%◌, ◌==◌}
use Rattle.ledger.specs.declared.offices.Offices.{Offices}

-- record r belongs to the office whose number is the remainder of r by the number of offices
abbrev pub office_of : Offices → ℕ → ℕ
office_of offices r = r % offices.count

-- record r belongs to office o
abbrev pub owns : Offices → ℕ → ℕ → Bool
owns offices o r = office_of offices r == o
