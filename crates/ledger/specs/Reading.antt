-- The rules of read; `src/reading.rt` cites them. Assumes nothing.
use Rattle.std.specs.Prelude.{ℕ, zero, suc, pred, Bool, cond, not, ◌&&◌, [], ◌∷◌, ◌++◌, length, None, Option, ◌==◌, nat_le, nat_lt, slice_index_or}
use Rattle.ledger.specs.Searching.{highest}
use Rattle.ledger.specs.Limits.{last_job, last_record, most_listed}
use Rattle.ledger.specs.Faults.{refuse_if}
use Rattle.ledger.specs.Model.{RowModel, LedgerModel, row, versions, put_row, is_amendment, is_never_opened, is_open, is_answered, first_unseen, has_written, written_place}
use Rattle.ledger.specs.declared.fault.LedgerFault.{LedgerFault}
use Rattle.ledger.specs.declared.fault.LedgerFault.TheVariants as fault
use Rattle.ledger.specs.declared.job.Version.{Version}
use Rattle.ledger.specs.declared.reading.Reading.{Reading}
use Rattle.ledger.specs.declared.reading.Reading.TheVariants as reading

-- an inspection sees the newest version whose job is answered, an amendment the newest that is installed
abbrev pub newest_answered : LedgerModel → ℕ → ℕ
newest_answered l r = highest (λ v. is_answered (row l v.job).state) (versions l r)

abbrev pub newest : LedgerModel → RowModel → ℕ → ℕ
newest l x r = cond (is_amendment x.kind) (length (versions l r)) (newest_answered l r)

-- the job has neither read nor written the record, so that a read lists it
abbrev pub is_new_read : RowModel → ℕ → Bool
is_new_read x r = first_unseen x.reads r == 0 && not (has_written x.writes r)

-- the checks by the job's row: it is open, and a first reading finds room in its list
abbrev pub open_checked : RowModel → ℕ → Option LedgerFault
open_checked x r =
    refuse_if (is_never_opened x.state) fault.NeverOpened
    (refuse_if (not (is_open x.state)) fault.WrongState
    (refuse_if (is_new_read x r && nat_le most_listed (length x.reads)) fault.TooManyReads None))

abbrev pub read_fault : LedgerModel → ℕ → ℕ → Option LedgerFault
read_fault l j r = refuse_if (nat_lt last_job j) fault.JobNumber (refuse_if (nat_lt last_record r) fault.RecordNumber (open_checked (row l j) r))

-- a listed record is read again at its listed version
abbrev pub version_read : LedgerModel → RowModel → ℕ → ℕ
version_read l x r = cond (first_unseen x.reads r == 0) (newest l x r) (pred (first_unseen x.reads r))

abbrev pub no_version : Version
no_version = record { job = 0; place = 0 }

abbrev pub version_source : LedgerModel → ℕ → ℕ → Reading ℕ
version_source l r zero = reading.Blank
version_source l r (suc i) = reading.Version (suc i) (slice_index_or (versions l r) i no_version).place

-- where the value lies that a read tells: the job's own write comes first
abbrev pub read_source : LedgerModel → RowModel → ℕ → Reading ℕ
read_source l x r = cond (has_written x.writes r) (reading.Own (written_place x.writes r)) (version_source l r (version_read l x r))

-- the row with one more listed read
abbrev pub with_read : RowModel → ℕ → ℕ → RowModel
with_read x r v =
    record { kind = x.kind; state = x.state; reads = x.reads ++ record { «record» = r; version = v } ∷ []; writes = x.writes; exchanges = x.exchanges }

-- the first reading is listed
abbrev pub read_done : LedgerModel → ℕ → ℕ → LedgerModel
read_done l j r = cond (is_new_read (row l j) r) (put_row l j (with_read (row l j) r (newest l (row l j) r))) l
