-- The rules of write; `src/writing.rt` cites them. Assumes nothing.
use Rattle.std.specs.Prelude.{ℕ, cond, not, ◌&&◌, List, [], ◌∷◌, length, None, Option, ◌==◌, nat_le, nat_lt}
use Rattle.ledger.specs.Limits.{last_job, last_record, most_listed}
use Rattle.ledger.specs.Faults.{refuse_if}
use Rattle.ledger.specs.Model.{RowModel, LedgerModel, row, put_row, is_never_opened, has_written}
use Rattle.ledger.specs.Opening.{open_amendment}
use Rattle.ledger.specs.declared.fault.LedgerFault.{LedgerFault}
use Rattle.ledger.specs.declared.fault.LedgerFault.TheVariants as fault
use Rattle.ledger.specs.declared.job.Write.{Write}

abbrev pub write_fault : LedgerModel → ℕ → ℕ → Option LedgerFault
write_fault l j r =
    refuse_if (nat_lt last_job j) fault.JobNumber
    (refuse_if (nat_lt last_record r) fault.RecordNumber
    (refuse_if (is_never_opened (row l j).state) fault.NeverOpened
    (open_amendment (row l j)
    (refuse_if (not (has_written (row l j).writes r) && nat_le most_listed (length (row l j).writes)) fault.TooManyWrites None))))

-- a second write of a record replaces the place of the first; a first one joins the end
abbrev pub with_place : List Write → ℕ → ℕ → List Write
with_place [] r p = record { «record» = r; place = p; version = 0 } ∷ []
with_place (x ∷ xs) r p = cond (x.«record» == r) (record { «record» = r; place = p; version = x.version } ∷ xs) (x ∷ with_place xs r p)

abbrev pub with_write : RowModel → ℕ → ℕ → RowModel
with_write x r p = record { kind = x.kind; state = x.state; reads = x.reads; writes = with_place x.writes r p; exchanges = x.exchanges }

-- the value of the write lies at place p of the shelf
abbrev pub write_done : LedgerModel → ℕ → ℕ → ℕ → LedgerModel
write_done l j r p = put_row l j (with_write (row l j) r p)
