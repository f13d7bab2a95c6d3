-- How many bytes a leaf takes, by its row alone; `src/size.rt` cites it. Assumes nothing.
use Rattle.std.specs.Prelude.{ℕ, ◌+◌, ◌*◌, length}
use Rattle.ledger.specs.Model.{RowModel}

-- the bytes of the leaf of a row: frame head, job number and two counts take 10
abbrev pub row_size : ℕ → RowModel → ℕ
row_size width x = 10 + (2 * length x.reads + (2 + width) * length x.writes)
