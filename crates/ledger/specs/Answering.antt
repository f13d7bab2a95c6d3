-- The rules of collect and close, and of who holds a job back; `src/answering.rt` and `src/order.rt` cite them. Assumes nothing.
use Rattle.std.specs.Prelude.{ℕ, ◌+◌, Bool, cond, not, ◌&&◌, ◌||◌, List, ◌∷◌, length, Some, None, Option, ◌==◌, nat_le, nat_lt, slice_set}
use Rattle.std.specs.List.{list_any}
use Rattle.ledger.specs.Searching.{any_indexed}
use Rattle.ledger.specs.Limits.{last_job}
use Rattle.ledger.specs.Faults.{refuse_if}
use Rattle.ledger.specs.Model.{RowModel, LedgerModel, row, put_row, with_state, is_amendment, is_open, is_accepted, first_unseen, installed_version}
use Rattle.ledger.specs.Opening.{known_job}
use Rattle.ledger.specs.Delivering.{waits}
use Rattle.ledger.specs.declared.fault.LedgerFault.{LedgerFault}
use Rattle.ledger.specs.declared.fault.LedgerFault.TheVariants as fault
use Rattle.ledger.specs.declared.job.Collected.{Collected}
use Rattle.ledger.specs.declared.job.Collected.TheVariants as collect
use Rattle.ledger.specs.declared.job.State.{State}
use Rattle.ledger.specs.declared.job.State.TheVariants.{NeverOpened, Open, Voting, Accepted, Dropped, Answered, Ended}

-- job u precedes job t in record r: u's installed version is at or below the one that t read, or below the one that t installed,
-- or the version that u read is below the one that t installed
abbrev pub precedes_in : RowModel → RowModel → ℕ → Bool
precedes_in u t r =
    (nat_lt 0 (installed_version u.writes r) &&
    (nat_lt (installed_version u.writes r) (first_unseen t.reads r) || nat_lt (installed_version u.writes r) (installed_version t.writes r))) ||
    (nat_lt 0 (first_unseen u.reads r) && nat_le (first_unseen u.reads r) (installed_version t.writes r))

abbrev pub precedes : RowModel → RowModel → Bool
precedes u t = list_any (λ z. precedes_in u t z.«record») u.writes || list_any (λ z. precedes_in u t z.«record») u.reads

-- an open inspection, or an accepted job that is not yet answered
abbrev pub is_pending : RowModel → Bool
is_pending x = (is_open x.state && not (is_amendment x.kind)) || is_accepted x.state

-- another job that is pending precedes it
abbrev pub is_held : LedgerModel → ℕ → Bool
is_held l j = any_indexed (λ k y. not (k == j) && (is_pending y && precedes y (row l j))) 0 l.rows

-- what collect refuses of a job by its state, whether a message of it waits, and whether it is held
abbrev pub collect_state_fault : State → Bool → Bool → Option LedgerFault
collect_state_fault NeverOpened waiting held = Some fault.NeverOpened
collect_state_fault Open waiting held = Some fault.WrongState
collect_state_fault Voting waiting held = Some fault.Undecided
collect_state_fault Accepted waiting held = refuse_if waiting fault.Undecided (refuse_if held fault.Held None)
collect_state_fault (Dropped m) waiting held = refuse_if waiting fault.Undecided None
collect_state_fault Answered waiting held = Some fault.WrongState
collect_state_fault Ended waiting held = Some fault.WrongState

abbrev pub collect_fault : LedgerModel → ℕ → Option LedgerFault
collect_fault l j =
    known_job l j
    (refuse_if (not (is_amendment (row l j).kind)) fault.WrongKind (collect_state_fault (row l j).state (list_any waits (row l j).exchanges) (is_held l j)))

-- the list of answers has room for every job number; that a longer one is never wanted is shown of every run
abbrev pub with_answer : List ℕ → ℕ → List ℕ
with_answer js j = cond (nat_lt (length js) (last_job + 1)) (j ∷ js) js

abbrev pub answer_done : LedgerModel → ℕ → LedgerModel
answer_done l j = record { rows = slice_set l.rows j (with_state (row l j) Answered); records = l.records; answered = with_answer l.answered j }

-- an accepted job is answered, a dropped one ended
abbrev pub collect_done : LedgerModel → ℕ → LedgerModel
collect_done l j = cond (is_accepted (row l j).state) (answer_done l j) (put_row l j (with_state (row l j) Ended))

-- what collect tells of a job by its state; in a state other than accepted and dropped it is refused, so that nothing is told
abbrev pub collected : State → Collected
collected NeverOpened = collect.Answered
collected Open = collect.Answered
collected Voting = collect.Answered
collected Accepted = collect.Answered
collected (Dropped m) = collect.Dropped m
collected Answered = collect.Answered
collected Ended = collect.Answered

-- close answers an inspection; nothing holds it
abbrev pub close_fault : LedgerModel → ℕ → Option LedgerFault
close_fault l j = known_job l j (refuse_if (is_amendment (row l j).kind) fault.WrongKind (refuse_if (not (is_open (row l j).state)) fault.WrongState None))

abbrev pub close_done : LedgerModel → ℕ → LedgerModel
close_done l j = answer_done l j
