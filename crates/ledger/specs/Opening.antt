-- The rules of open and withdraw; `src/opening.rt` cites them. Assumes nothing.
use Rattle.std.specs.Prelude.{ℕ, not, [], None, Option, nat_lt}
use Rattle.ledger.specs.Limits.{last_job}
use Rattle.ledger.specs.Faults.{refuse_if}
use Rattle.ledger.specs.Model.{RowModel, LedgerModel, row, put_row, with_state, all_idle, is_amendment, is_never_opened, is_open}
use Rattle.ledger.specs.declared.fault.LedgerFault.{LedgerFault}
use Rattle.ledger.specs.declared.fault.LedgerFault.TheVariants as fault
use Rattle.ledger.specs.declared.job.JobKind.{JobKind}
use Rattle.ledger.specs.declared.job.State.TheVariants.{Open, Ended}

-- a job number is taken at most once
abbrev pub open_fault : LedgerModel → ℕ → Option LedgerFault
open_fault l j = refuse_if (nat_lt last_job j) fault.JobNumber (refuse_if (not (is_never_opened (row l j).state)) fault.JobTaken None)

abbrev pub newly_opened : JobKind → RowModel
newly_opened k = record { kind = k; state = Open; reads = []; writes = []; exchanges = all_idle }

abbrev pub open_done : LedgerModel → JobKind → ℕ → LedgerModel
open_done l k j = put_row l j (newly_opened k)

-- the checks that most calls begin with: there is such a job number, and it was opened
abbrev pub known_job : LedgerModel → ℕ → Option LedgerFault → Option LedgerFault
known_job l j later = refuse_if (nat_lt last_job j) fault.JobNumber (refuse_if (is_never_opened (row l j).state) fault.NeverOpened later)

-- the checks of a call that is for an open amendment: withdraw and hand in have no others
abbrev pub open_amendment : RowModel → Option LedgerFault → Option LedgerFault
open_amendment x later = refuse_if (not (is_amendment x.kind)) fault.WrongKind (refuse_if (not (is_open x.state)) fault.WrongState later)

abbrev pub withdraw_fault : LedgerModel → ℕ → Option LedgerFault
withdraw_fault l j = known_job l j (open_amendment (row l j) None)

abbrev pub withdraw_done : LedgerModel → ℕ → LedgerModel
withdraw_done l j = put_row l j (with_state (row l j) Ended)
