-- What the questions tell; `src/questions.rt` cites it. Assumes nothing.
use Rattle.std.specs.Prelude.{ℕ, List, reverse, length, None, Result, nat_le, nat_lt, slice_index}
use Rattle.ledger.specs.Limits.{last_record}
use Rattle.ledger.specs.Faults.{refuse_if, told}
use Rattle.ledger.specs.Model.{LedgerModel, row, versions}
use Rattle.ledger.specs.Opening.{known_job}
use Rattle.ledger.specs.declared.fault.LedgerFault.{LedgerFault}
use Rattle.ledger.specs.declared.fault.LedgerFault.TheVariants as fault
use Rattle.ledger.specs.declared.job.State.{State}

abbrev pub state_told : LedgerModel → ℕ → Result State LedgerFault
state_told l j = told (known_job l j None) (row l j).state

-- the newest installed version; 0 where there is none
abbrev pub newest_told : LedgerModel → ℕ → Result ℕ LedgerFault
newest_told l r = told (refuse_if (nat_lt last_record r) fault.RecordNumber None) (length (versions l r))

-- the answered jobs in the order of their answers
abbrev pub answers : LedgerModel → List ℕ
answers l = reverse l.answered

abbrev pub answer_count : LedgerModel → ℕ
answer_count l = length (answers l)

-- the first answer is number 0
abbrev pub answer_told : LedgerModel → ℕ → Result ℕ LedgerFault
answer_told l n = told (refuse_if (nat_le (answer_count l) n) fault.NoSuchAnswer None) (slice_index (answers l) n)
