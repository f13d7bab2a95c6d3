-- The numbers of a shelf's refusals; src/fault.rt cites it. Assumes nothing.
use Rattle.std.specs.Prelude.{ℕ}
use Rattle.shelves.specs.declared.fault.ShelfFault.{ShelfFault}
use Rattle.shelves.specs.declared.fault.ShelfFault.TheVariants.{Full, NoSuchPlace}

abbrev pub shelf_fault_number : ShelfFault → ℕ
shelf_fault_number Full = 13
shelf_fault_number NoSuchPlace = 21
