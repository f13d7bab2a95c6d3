-- What the code of the archive goes by: the rows. A job whose row is answered has a leaf. `src/archiving.rt` cites it. Assumes nothing.
-- In a house that calls have led to it is the archive of `Archiving`, since there the answered rows are those of the answered jobs: `rows_archived` of the crate `law` says so.
use Rattle.std.specs.Prelude.{ℕ, Bool, cond, List, length, Ok, Err, Result, nat_lt}
use Rattle.encoding.specs.Outputs.{in_front}
use Rattle.shelves.specs.declared.fault.ShelfFault.TheVariants.{NoSuchPlace}
use Rattle.history.specs.Layout.{Coding, archive_bytes}
use Rattle.archive.specs.Leaves.{row_leaves, lacks_value}
use Rattle.house.specs.Faults.{kept}
use Rattle.house.specs.Model.{HouseModel}
use Rattle.house.specs.declared.fault.Fault.{Fault}
use Rattle.house.specs.declared.fault.Fault.TheVariants as fault

-- the shelf lacks a value of an answered row
abbrev pub rows_lack : {V : Type 0} → HouseModel V → Bool
rows_lack m = lacks_value (length m.items) m.ledger.rows

module _ {V : Type 0} (C : Coding V) where
  -- the leaves of the answered rows, in rising job number, as bytes
  abbrev pub rows_archive : HouseModel V → List ℕ
  rows_archive m = archive_bytes C (row_leaves m.items 0 m.ledger.rows)

  -- into a buffer of so many bytes: the size, or the size that it needs
  abbrev pub rows_told : HouseModel V → ℕ → Result ℕ Fault
  rows_told m room =
      cond (rows_lack m) (Err (fault.Shelf NoSuchPlace))
      (cond (nat_lt room (length (rows_archive m))) (Err (fault.ShortBuffer (length (rows_archive m)))) (Ok (length (rows_archive m))))

  -- the archive lies in front, and the bytes behind it stay
  abbrev pub rows_buffer : HouseModel V → List ℕ → List ℕ
  rows_buffer m buffer = kept (rows_told m (length buffer)) buffer (in_front (rows_archive m) buffer)
