-- What the tables of the code mean; every contract of the ledger goes by it. A view, and no `Model` of the tables, since the archive and the house read their fields. Assumes nothing.
use Rattle.std.specs.Prelude.{map, reverse}
use Rattle.ledger.specs.Bounded.{elements}
use Rattle.ledger.specs.Model.{RowModel, LedgerModel}
use Rattle.ledger.specs.declared.job.Row.{Row}
use Rattle.ledger.specs.declared.ledger.Ledger.{Ledger}

abbrev pub row_view : Row → RowModel
row_view x = record { kind = x.kind; state = x.state; reads = elements x.reads; writes = elements x.writes; exchanges = x.exchanges }

abbrev pub view : Ledger → LedgerModel
view l = record { rows = map row_view l.rows; records = map (λ versions. versions.items) l.records; answered = reverse l.answered.items }
