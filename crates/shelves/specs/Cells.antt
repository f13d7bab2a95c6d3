-- What a cell shelf means: the values in its first cells, and what adding leaves in the cells; src/cell_shelf.rt cites it. Assumes nothing.
use Rattle.std.specs.Prelude.{ℕ, min, List, map, length, take, slice_set}
use Rattle.std.specs.Option.{unwrap_or}
use Rattle.values.specs.declared.value.Value.{Ghosts as Kind}
use Rattle.shelves.specs.Adding.{if_full}
use Rattle.shelves.specs.Room.{room_of}
use Rattle.shelves.specs.declared.cell_shelf.CellShelf.{CellShelf}

module _ {V C : Type 0} where
  -- how many values there is room for
  abbrev pub cell_room : CellShelf V C → ℕ
  cell_room s = room_of (length s.cells.now)

  module _ (kind : Kind V C) where
    -- the value that a cell holds, or the spare value where it holds none
    abbrev pub value_in : C → V
    value_in c = unwrap_or (kind.restored c) kind.fallback

    -- the values in the first n cells, as far as there is room
    abbrev pub values_in : ℕ → List C → List V
    values_in n cs = map value_in (take (min n (room_of (length cs))) cs)

    abbrev pub cell_items : CellShelf V C → List V
    cell_items s = values_in s.len s.cells.now

    -- the lent cells, once a value was added
    abbrev pub cells_after_add : CellShelf V C → V → List C
    cells_after_add s value = if_full (cell_items s) (cell_room s) s.cells.now (slice_set s.cells.now (length (cell_items s)) (kind.cell value))
