-- The ledger's calls as values, and its runs: lists of any calls to a new ledger; `src/lib.rt` and the runs of the house cite it. Assumes nothing.
use Rattle.std.specs.Prelude.{ℕ, cond, List, [], ◌∷◌, ◌++◌, Option, ◌==◌}
use Rattle.ledger.specs.Faults.{guarded}
use Rattle.ledger.specs.Model.{LedgerModel, new_ledger, row, is_accepted}
use Rattle.ledger.specs.Opening.{open_fault, open_done, withdraw_fault, withdraw_done}
use Rattle.ledger.specs.Reading.{read_fault, read_done}
use Rattle.ledger.specs.Writing.{write_fault, write_done}
use Rattle.ledger.specs.Delivering.{hand_in_fault, hand_in_done, deliver_fault, deliver_done}
use Rattle.ledger.specs.Answering.{collect_fault, collect_done, close_fault, close_done}
use Rattle.ledger.specs.declared.fault.LedgerFault.{LedgerFault}
use Rattle.ledger.specs.declared.job.JobKind.{JobKind}

-- the first number is the job; a write has the place of its value, and a delivery its office
pub data LedgerCall : Type 0 where
  call_open : ℕ → JobKind → LedgerCall
  call_read : (job «record» : ℕ) → LedgerCall
  call_write : (job «record» place : ℕ) → LedgerCall
  call_hand_in call_collect call_close call_withdraw : ℕ → LedgerCall
  call_deliver : (job office : ℕ) → LedgerCall

abbrev pub job_of : LedgerCall → ℕ
job_of (call_open j k) = j
job_of (call_read j r) = j
job_of (call_write j r p) = j
job_of (call_hand_in j) = j
job_of (call_collect j) = j
job_of (call_close j) = j
job_of (call_withdraw j) = j
job_of (call_deliver j o) = j

-- `offices` is the number of offices, `office r` the office of record r
module _ (offices : ℕ) (office : ℕ → ℕ) where
  abbrev pub fault_of : LedgerModel → LedgerCall → Option LedgerFault
  fault_of l (call_open j k) = open_fault l j
  fault_of l (call_read j r) = read_fault l j r
  fault_of l (call_write j r p) = write_fault l j r
  fault_of l (call_hand_in j) = hand_in_fault l j
  fault_of l (call_collect j) = collect_fault l j
  fault_of l (call_close j) = close_fault l j
  fault_of l (call_withdraw j) = withdraw_fault l j
  fault_of l (call_deliver j o) = deliver_fault offices l j o

  -- what a call makes of the ledger if it is not refused
  abbrev pub done_by : LedgerModel → LedgerCall → LedgerModel
  done_by l (call_open j k) = open_done l k j
  done_by l (call_read j r) = read_done l j r
  done_by l (call_write j r p) = write_done l j r p
  done_by l (call_hand_in j) = hand_in_done office l j
  done_by l (call_collect j) = collect_done l j
  done_by l (call_close j) = close_done l j
  done_by l (call_withdraw j) = withdraw_done l j
  done_by l (call_deliver j o) = deliver_done office l j o

  abbrev pub ledger_after : LedgerModel → LedgerCall → LedgerModel
  ledger_after l c = guarded (fault_of l c) l (done_by l c)

-- all but job j
abbrev pub without : ℕ → List ℕ → List ℕ
without j [] = []
without j (x ∷ q) = cond (x == j) (without j q) (x ∷ without j q)

-- the line has the accepted and unanswered jobs in the order of their decisions: in a step of job j that leads from `before` to `after`
-- a job that becomes accepted joins the end, and one that is so no more leaves
abbrev pub line_after : LedgerModel → LedgerModel → ℕ → List ℕ → List ℕ
line_after before after j q =
    cond (is_accepted (row before j).state)
    (cond (is_accepted (row after j).state) q (without j q))
    (cond (is_accepted (row after j).state) (q ++ j ∷ []) q)

-- any calls, accepted and refused ones, to a new ledger lead to this ledger with this line
pub data Reached (offices : ℕ) (office : ℕ → ℕ) : LedgerModel → List ℕ → Type 0 where
  new : Reached offices office new_ledger []
  next : {l : LedgerModel} {q : List ℕ} → Reached offices office l q → (c : LedgerCall) →
      Reached offices office (ledger_after offices office l c) (line_after l (ledger_after offices office l c) (job_of c) q)
