-- What a refusal is numbered, and what it leaves; the calls of the ledger cite it. Assumes nothing.
use Rattle.std.specs.Prelude.{ℕ, Bool, cond, Some, None, Ok, Err, Option, Result}
use Rattle.ledger.specs.declared.fault.LedgerFault.{LedgerFault}
use Rattle.ledger.specs.declared.fault.LedgerFault.TheVariants.{JobNumber, JobTaken, RecordNumber, OfficeNumber, NeverOpened, WrongKind, WrongState, TooManyReads, TooManyWrites, NoMessage, Undecided, Held, NoSuchAnswer}

abbrev pub ledger_fault_number : LedgerFault → ℕ
ledger_fault_number JobNumber = 1
ledger_fault_number JobTaken = 2
ledger_fault_number RecordNumber = 3
ledger_fault_number OfficeNumber = 4
ledger_fault_number NeverOpened = 5
ledger_fault_number WrongKind = 6
ledger_fault_number WrongState = 7
ledger_fault_number TooManyReads = 8
ledger_fault_number TooManyWrites = 9
ledger_fault_number NoMessage = 10
ledger_fault_number Undecided = 11
ledger_fault_number Held = 12
ledger_fault_number NoSuchAnswer = 22

module _ {Fault : Type 0} where
  -- one check: the fault where the test is true, and else what the later checks find
  abbrev pub refuse_if : Bool → Fault → Option Fault → Option Fault
  refuse_if test fault later = cond test (Some fault) later

  -- what a call tells: its refusal, or else the answer
  abbrev pub told : {A : Type 0} → Option Fault → A → Result A Fault
  told None answer = Ok answer
  told (Some fault) answer = Err fault

  -- how things stand after a call: a refusal leaves them as they were
  abbrev pub guarded : {X : Type 0} → Option Fault → X → X → X
  guarded None before after = after
  guarded (Some fault) before after = before
