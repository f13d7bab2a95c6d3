-- The ledger as its rules see it: plain lists of rows, of versions and of answered jobs. All rules of the ledger speak of it. Assumes nothing.
use Rattle.std.specs.Prelude.{ℕ, suc, ◌+◌, Bool, true, false, cond, ◌||◌, List, [], ◌∷◌, replicate, None, ◌==◌, nat_lt, slice_index_or, slice_set}
use Rattle.ledger.specs.Limits.{last_job, last_record, most_offices}
use Rattle.ledger.specs.declared.job.JobKind.{JobKind}
use Rattle.ledger.specs.declared.job.JobKind.TheVariants.{Amendment, Inspection}
use Rattle.ledger.specs.declared.job.State.{State}
use Rattle.ledger.specs.declared.job.State.TheVariants.{NeverOpened, Open, Voting, Accepted, Dropped, Answered, Ended}
use Rattle.ledger.specs.declared.job.Read.{Read}
use Rattle.ledger.specs.declared.job.Write.{Write}
use Rattle.ledger.specs.declared.job.Version.{Version}
use Rattle.ledger.specs.declared.message.Exchange.{Exchange}

-- one job: the lists are in the order of first use, and `exchanges` has one entry for each office
pub record RowModel : Type 0 where
  pub kind : JobKind
  pub state : State
  pub reads : List Read
  pub writes : List Write
  pub exchanges : List Exchange

-- `records` has the versions of each record, version 1 first; `answered` has the answered jobs, the newest first
pub record LedgerModel : Type 0 where
  pub rows : List RowModel
  pub records : List (List Version)
  pub answered : List ℕ

-- nothing waits, and no vote stands
abbrev pub idle : Exchange
idle = record { waiting = None; vote = None }

abbrev pub all_idle : List Exchange
all_idle = replicate most_offices idle

-- the row of a job number that no call has taken
abbrev pub unused : RowModel
unused = record { kind = Amendment; state = NeverOpened; reads = []; writes = []; exchanges = all_idle }

abbrev pub new_ledger : LedgerModel
new_ledger = record { rows = replicate (last_job + 1) unused; records = replicate (last_record + 1) []; answered = [] }

-- what is read behind the last row
abbrev pub no_row : RowModel
no_row = record { kind = Amendment; state = NeverOpened; reads = []; writes = []; exchanges = [] }

abbrev pub row : LedgerModel → ℕ → RowModel
row l j = slice_index_or l.rows j no_row

abbrev pub versions : LedgerModel → ℕ → List Version
versions l r = slice_index_or l.records r []

abbrev pub exchange : RowModel → ℕ → Exchange
exchange x o = slice_index_or x.exchanges o idle

-- one row replaced: every other row, the versions and the answers stay
abbrev pub put_row : LedgerModel → ℕ → RowModel → LedgerModel
put_row l j x = record { rows = slice_set l.rows j x; records = l.records; answered = l.answered }

abbrev pub with_state : RowModel → State → RowModel
with_state x s = record { kind = x.kind; state = s; reads = x.reads; writes = x.writes; exchanges = x.exchanges }

abbrev pub is_amendment : JobKind → Bool
is_amendment Amendment = true
is_amendment Inspection = false

abbrev pub is_never_opened : State → Bool
is_never_opened NeverOpened = true
is_never_opened Open = false
is_never_opened Voting = false
is_never_opened Accepted = false
is_never_opened (Dropped m) = false
is_never_opened Answered = false
is_never_opened Ended = false

abbrev pub is_open : State → Bool
is_open NeverOpened = false
is_open Open = true
is_open Voting = false
is_open Accepted = false
is_open (Dropped m) = false
is_open Answered = false
is_open Ended = false

abbrev pub is_accepted : State → Bool
is_accepted NeverOpened = false
is_accepted Open = false
is_accepted Voting = false
is_accepted Accepted = true
is_accepted (Dropped m) = false
is_accepted Answered = false
is_accepted Ended = false

abbrev pub is_answered : State → Bool
is_answered NeverOpened = false
is_answered Open = false
is_answered Voting = false
is_answered Accepted = false
is_answered (Dropped m) = false
is_answered Answered = true
is_answered Ended = false

-- the first version of record r that the listed read of it did not see, one more than the version read; 0 where r is not listed
abbrev pub first_unseen : List Read → ℕ → ℕ
first_unseen [] r = 0
first_unseen (x ∷ xs) r = cond (x.«record» == r) (suc x.version) (first_unseen xs r)

abbrev pub has_written : List Write → ℕ → Bool
has_written [] r = false
has_written (x ∷ xs) r = cond (x.«record» == r) true (has_written xs r)

-- the version that the listed write of record r became; 0 where r is not listed or not yet installed
abbrev pub installed_version : List Write → ℕ → ℕ
installed_version [] r = 0
installed_version (x ∷ xs) r = cond (x.«record» == r) x.version (installed_version xs r)

-- the place of the value that the listed write of record r has; 0 where r is not listed
abbrev pub written_place : List Write → ℕ → ℕ
written_place [] r = 0
written_place (x ∷ xs) r = cond (x.«record» == r) x.place (written_place xs r)

-- the record is read or written by the job
abbrev pub is_listed : RowModel → ℕ → Bool
is_listed x r = nat_lt 0 (first_unseen x.reads r) || has_written x.writes r
