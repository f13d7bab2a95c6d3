-- The calls of the house: for each, what it tells and how the house stands afterwards unless it was refused. `src/house.rt` cites it. Assumes nothing.
use Rattle.std.specs.Prelude.{ℕ, List, [], ◌∷◌, ◌++◌, length, Ok, Err, Result}
use Rattle.shelves.specs.Adding.{place_told, fetched}
use Rattle.shelves.specs.declared.fault.ShelfFault.{ShelfFault}
use Rattle.ledger.specs.Model.{row}
use Rattle.ledger.specs.Opening.{open_fault, open_done, withdraw_fault, withdraw_done}
use Rattle.ledger.specs.Reading.{read_fault, read_source, read_done}
use Rattle.ledger.specs.Writing.{write_fault, write_done}
use Rattle.ledger.specs.declared.job.JobKind.{JobKind}
use Rattle.house.specs.Faults.{after_checks}
use Rattle.house.specs.Model.{HouseModel, with_ledger}
use Rattle.house.specs.declared.fault.Fault.{Fault}
use Rattle.house.specs.declared.fault.Fault.TheVariants as fault
use Rattle.ledger.specs.declared.reading.Reading.{Reading}
use Rattle.ledger.specs.declared.reading.Reading.TheVariants as reading

-- what a write tells of what its shelf told
abbrev pub shelved : Result ℕ ShelfFault → Result (Unit {0}) Fault
shelved (Ok place) = Ok tt
shelved (Err f) = Err (fault.Shelf f)

module _ {V : Type 0} where
  -- open

  abbrev pub open_told : HouseModel V → ℕ → Result (Unit {0}) Fault
  open_told m j = after_checks (open_fault m.ledger j) (Ok tt)

  abbrev pub open_after : HouseModel V → ℕ → JobKind → HouseModel V
  open_after m j k = with_ledger m (open_done m.ledger k j)

  -- withdraw

  abbrev pub withdraw_told : HouseModel V → ℕ → Result (Unit {0}) Fault
  withdraw_told m j = after_checks (withdraw_fault m.ledger j) (Ok tt)

  abbrev pub withdraw_after : HouseModel V → ℕ → HouseModel V
  withdraw_after m j = with_ledger m (withdraw_done m.ledger j)

  -- read: the value is fetched before anything is listed

  abbrev pub own_reading : Result V ShelfFault → Result (Reading V) Fault
  own_reading (Ok v) = Ok (reading.Own v)
  own_reading (Err f) = Err (fault.Shelf f)

  abbrev pub version_reading : ℕ → Result V ShelfFault → Result (Reading V) Fault
  version_reading n (Ok v) = Ok (reading.Version n v)
  version_reading n (Err f) = Err (fault.Shelf f)

  abbrev pub reading_from : List V → Reading ℕ → Result (Reading V) Fault
  reading_from items reading.Blank = Ok reading.Blank
  reading_from items (reading.Own place) = own_reading (fetched items place)
  reading_from items (reading.Version number place) = version_reading number (fetched items place)

  abbrev pub read_told : HouseModel V → ℕ → ℕ → Result (Reading V) Fault
  read_told m j r = after_checks (read_fault m.ledger j r) (reading_from m.items (read_source m.ledger (row m.ledger j) r))

  abbrev pub read_after : HouseModel V → ℕ → ℕ → HouseModel V
  read_after m j r = with_ledger m (read_done m.ledger j r)

  -- write: the value joins the end of the shelf, and the ledger lists its place

  abbrev pub write_told : HouseModel V → ℕ → ℕ → Result (Unit {0}) Fault
  write_told m j r = after_checks (write_fault m.ledger j r) (shelved (place_told m.items m.room))

  abbrev pub write_after : HouseModel V → ℕ → ℕ → V → HouseModel V
  write_after m j r v =
      record { offices = m.offices; ledger = write_done m.ledger j r (length m.items); items = m.items ++ v ∷ []; room = m.room }
