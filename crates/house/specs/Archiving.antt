-- The archive of a house by its answered jobs: its leaves, its bytes, what the call tells and what the buffer then holds. Runs and the law go by it; the code goes by `RowArchiving`. Assumes nothing.
use Rattle.std.specs.Prelude.{ℕ, Bool, cond, List, ◌++◌, map, length, drop, Ok, Err, Result, nat_lt}
use Rattle.std.specs.List.{list_any}
use Rattle.shelves.specs.declared.fault.ShelfFault.TheVariants.{NoSuchPlace}
use Rattle.ledger.specs.Model.{row}
use Rattle.history.specs.Histories.{Leaf}
use Rattle.history.specs.Layout.{Coding, archive}
use Rattle.archive.specs.Leaves.{leaf_writes, lacks_write}
use Rattle.house.specs.Faults.{kept}
use Rattle.house.specs.Model.{HouseModel}
use Rattle.house.specs.declared.fault.Fault.{Fault}
use Rattle.house.specs.declared.fault.Fault.TheVariants as fault

module _ {V : Type 0} where
  -- the leaf of a job, by its row
  abbrev pub job_leaf : HouseModel V → ℕ → Leaf V
  job_leaf m j =
      record { job = j; kind = (row m.ledger j).kind; reads = (row m.ledger j).reads; writes = leaf_writes m.items (row m.ledger j).writes }

  -- the leaves of the answered jobs, the newest answer first
  abbrev pub house_leaves : HouseModel V → List (Leaf V)
  house_leaves m = map (job_leaf m) m.ledger.answered

  -- the shelf lacks a value of an answered job, which no run meets
  abbrev pub lacks_value : HouseModel V → Bool
  lacks_value m = list_any (λ j. lacks_write (length m.items) (row m.ledger j).writes) m.ledger.answered

module _ {V : Type 0} (C : Coding V) where
  abbrev pub house_archive : HouseModel V → List ℕ
  house_archive m = archive C (house_leaves m)

  -- into a buffer of n bytes: the size, or the size that it needs
  abbrev pub archive_told : HouseModel V → ℕ → Result ℕ Fault
  archive_told m n =
      cond (lacks_value m) (Err (fault.Shelf NoSuchPlace))
      (cond (nat_lt n (length (house_archive m))) (Err (fault.ShortBuffer (length (house_archive m)))) (Ok (length (house_archive m))))

  -- the archive lies in front, and the bytes behind it stay
  abbrev pub buffer_after : HouseModel V → List ℕ → List ℕ
  buffer_after m buffer = kept (archive_told m (length buffer)) buffer (house_archive m ++ drop (length (house_archive m)) buffer)
