-- The rules of hand in and deliver: two-phase commit between a job and the offices of its records. `office r` is the office of record r. Assumes nothing.
use Rattle.std.specs.Prelude.{ℕ, suc, Bool, true, false, cond, not, ◌&&◌, ◌||◌, List, [], ◌∷◌, ◌++◌, map, length, is_some, Some, None, Option, ◌==◌, nat_eq, nat_lt, slice_set}
use Rattle.std.specs.List.{list_any}
use Rattle.ledger.specs.Searching.{any_indexed, map_indexed}
use Rattle.ledger.specs.Limits.{last_job, most_versions}
use Rattle.ledger.specs.Faults.{refuse_if}
use Rattle.ledger.specs.Model.{RowModel, LedgerModel, row, versions, exchange, put_row, idle, all_idle, is_amendment, is_never_opened, has_written, written_place, is_listed}
use Rattle.ledger.specs.Opening.{withdraw_fault}
use Rattle.ledger.specs.declared.fault.LedgerFault.{LedgerFault}
use Rattle.ledger.specs.declared.fault.LedgerFault.TheVariants as fault
use Rattle.ledger.specs.declared.job.Mark.{Mark}
use Rattle.ledger.specs.declared.job.Mark.TheVariants.{Conflict, Stale, Full}
use Rattle.ledger.specs.declared.job.State.{State}
use Rattle.ledger.specs.declared.job.State.TheVariants.{NeverOpened, Open, Voting, Accepted, Dropped, Answered, Ended}
use Rattle.ledger.specs.declared.job.Write.{Write}
use Rattle.ledger.specs.declared.job.Version.{Version}
use Rattle.ledger.specs.declared.message.Vote.{Vote}
use Rattle.ledger.specs.declared.message.Vote.TheVariants.{Yes, Refused}
use Rattle.ledger.specs.declared.message.Outcome.{Outcome}
use Rattle.ledger.specs.declared.message.Outcome.TheVariants.{Commit, Abort}
use Rattle.ledger.specs.declared.message.Message.{Message}
use Rattle.ledger.specs.declared.message.Message.TheVariants.{Prepare, Vote as VoteCast, Decision}
use Rattle.ledger.specs.declared.message.Exchange.{Exchange}

-- what may pass between a job and an office

abbrev pub prepare_waits : Exchange
prepare_waits = record { waiting = Some Prepare; vote = None }

-- the office has voted, and its vote waits
abbrev pub vote_waits : Vote → Exchange
vote_waits v = record { waiting = Some (VoteCast v); vote = Some v }

abbrev pub vote_noted : Vote → Exchange
vote_noted v = record { waiting = None; vote = Some v }

abbrev pub waits : Exchange → Bool
waits e = is_some e.waiting

abbrev pub is_yes : Option Vote → Bool
is_yes None = false
is_yes (Some Yes) = true
is_yes (Some (Refused m)) = false

-- the office holds the job's records while its yes stands
abbrev pub holds : Exchange → Bool
holds e = is_yes e.vote

abbrev pub with_exchange : RowModel → ℕ → Exchange → RowModel
with_exchange x o e = record { kind = x.kind; state = x.state; reads = x.reads; writes = x.writes; exchanges = slice_set x.exchanges o e }

-- a vote is noted; with the last, the job is decided

abbrev pub refusal : Option Vote → Option Mark
refusal None = None
refusal (Some Yes) = None
refusal (Some (Refused m)) = Some m

abbrev pub first_of : Option Mark → Option Mark → Option Mark
first_of None later = later
first_of (Some m) later = Some m

-- the mark of the lowest-numbered office that refused
abbrev pub first_refusal : List Exchange → Option Mark
first_refusal [] = None
first_refusal (e ∷ es) = first_of (refusal e.vote) (first_refusal es)

abbrev pub decided_state : Option Mark → State
decided_state None = Accepted
decided_state (Some m) = Dropped m

abbrev pub outcome : Option Mark → Outcome
outcome None = Commit
outcome (Some m) = Abort

-- the decision waits at each office that voted
abbrev pub decision_for : Outcome → Option Vote → Option Message
decision_for d None = None
decision_for d (Some v) = Some (Decision d)

abbrev pub decision_waits : Outcome → Exchange → Exchange
decision_waits d e = record { waiting = decision_for d e.vote; vote = e.vote }

abbrev pub decided : Option Mark → RowModel → RowModel
decided m x =
    record { kind = x.kind; state = decided_state m; reads = x.reads; writes = x.writes; exchanges = map (decision_waits (outcome m)) x.exchanges }

-- the last vote is noted when no message of the job waits any more
abbrev pub counted : RowModel → RowModel
counted x = cond (list_any waits x.exchanges) x (decided (first_refusal x.exchanges) x)

abbrev pub is_empty : {A : Type 0} → List A → Bool
is_empty [] = true
is_empty (x ∷ xs) = false

-- an installed version joins the end; a record that has all its versions stays, which no run meets
abbrev pub with_version : List Version → Version → List Version
with_version vs v = cond (nat_lt (length vs) most_versions) (vs ++ v ∷ []) vs

module _ (office : ℕ → ℕ) where
  -- hand in

  abbrev pub is_concerned : RowModel → ℕ → Bool
  is_concerned x o = list_any (λ y. nat_eq (office y.«record») o) x.reads || list_any (λ y. nat_eq (office y.«record») o) x.writes

  -- a prepare waits at every office of a listed record
  abbrev pub prepares : RowModel → List Exchange
  prepares x = map_indexed (λ o e. cond (is_concerned x o) prepare_waits idle) 0 all_idle

  -- a job with no record is decided on the spot, and accepted
  abbrev pub handed_in : RowModel → RowModel
  handed_in x =
      record { kind = x.kind; state = cond (is_empty x.reads && is_empty x.writes) Accepted Voting; reads = x.reads; writes = x.writes; exchanges = prepares x }

  abbrev pub hand_in_done : LedgerModel → ℕ → LedgerModel
  hand_in_done l j = put_row l j (handed_in (row l j))

  -- a prepare: the office votes on its own records alone

  -- job y holds, at this office, a record that job x wrote, or holds for writing one that x read
  abbrev pub conflicts : RowModel → ℕ → RowModel → Bool
  conflicts x o y =
      holds (exchange y o) &&
      (list_any (λ z. (office z.«record» == o) && is_listed y z.«record») x.writes ||
      list_any (λ z. (office z.«record» == o) && has_written y.writes z.«record») x.reads)

  abbrev pub has_conflict : LedgerModel → ℕ → ℕ → Bool
  has_conflict l j o = any_indexed (λ k y. not (k == j) && conflicts (row l j) o y) 0 l.rows

  -- a record that the job read has a newer version than the listed one
  abbrev pub is_stale : LedgerModel → ℕ → ℕ → Bool
  is_stale l j o = list_any (λ z. (office z.«record» == o) && not (z.version == length (versions l z.«record»))) (row l j).reads

  abbrev pub is_full : LedgerModel → ℕ → ℕ → Bool
  is_full l j o = list_any (λ z. (office z.«record» == o) && most_versions == length (versions l z.«record»)) (row l j).writes

  abbrev pub vote_of : LedgerModel → ℕ → ℕ → Vote
  vote_of l j o = cond (has_conflict l j o) (Refused Conflict) (cond (is_stale l j o) (Refused Stale) (cond (is_full l j o) (Refused Full) Yes))

  -- a decision to commit: each written record of this office gets one version more

  abbrev pub installed : LedgerModel → ℕ → Write → Write
  installed l o w =
      cond (office w.«record» == o) (record { «record» = w.«record»; place = w.place; version = suc (length (versions l w.«record»)) }) w

  abbrev pub row_installed : LedgerModel → RowModel → ℕ → RowModel
  row_installed l x o =
      record { kind = x.kind; state = x.state; reads = x.reads; writes = map (installed l o) x.writes; exchanges = slice_set x.exchanges o idle }

  -- what job j with these writes makes of the versions of record r
  abbrev pub record_installed : List Write → ℕ → ℕ → ℕ → List Version → List Version
  record_installed ws j o r vs = cond (office r == o && has_written ws r) (with_version vs (record { job = j; place = written_place ws r })) vs

  abbrev pub records_installed : LedgerModel → ℕ → ℕ → List (List Version)
  records_installed l j o = map_indexed (record_installed (row l j).writes j o) 0 l.records

  abbrev pub install_done : LedgerModel → ℕ → ℕ → LedgerModel
  install_done l j o =
      record { rows = slice_set l.rows j (row_installed l (row l j) o); records = records_installed l j o; answered = l.answered }

  -- the job's state and the waiting message together decide what a delivery does; a message that does not fit the state changes nothing, and no run meets one

  abbrev pub delivered_voting : Message → LedgerModel → ℕ → ℕ → LedgerModel
  delivered_voting Prepare l j o = put_row l j (with_exchange (row l j) o (vote_waits (vote_of l j o)))
  delivered_voting (VoteCast v) l j o = put_row l j (counted (with_exchange (row l j) o (vote_noted v)))
  delivered_voting (Decision d) l j o = l

  abbrev pub accepted_decision : Outcome → LedgerModel → ℕ → ℕ → LedgerModel
  accepted_decision Commit l j o = install_done l j o
  accepted_decision Abort l j o = l

  abbrev pub delivered_accepted : Message → LedgerModel → ℕ → ℕ → LedgerModel
  delivered_accepted Prepare l j o = l
  delivered_accepted (VoteCast v) l j o = l
  delivered_accepted (Decision d) l j o = accepted_decision d l j o

  -- the office's holds for the job end
  abbrev pub dropped_decision : Outcome → LedgerModel → ℕ → ℕ → LedgerModel
  dropped_decision Commit l j o = l
  dropped_decision Abort l j o = put_row l j (with_exchange (row l j) o idle)

  abbrev pub delivered_dropped : Message → LedgerModel → ℕ → ℕ → LedgerModel
  delivered_dropped Prepare l j o = l
  delivered_dropped (VoteCast v) l j o = l
  delivered_dropped (Decision d) l j o = dropped_decision d l j o

  abbrev pub delivered : State → Message → LedgerModel → ℕ → ℕ → LedgerModel
  delivered NeverOpened m l j o = l
  delivered Open m l j o = l
  delivered Voting m l j o = delivered_voting m l j o
  delivered Accepted m l j o = delivered_accepted m l j o
  delivered (Dropped k) m l j o = delivered_dropped m l j o
  delivered Answered m l j o = l
  delivered Ended m l j o = l

  abbrev pub delivered_if : State → Option Message → LedgerModel → ℕ → ℕ → LedgerModel
  delivered_if s None l j o = l
  delivered_if s (Some m) l j o = delivered s m l j o

  abbrev pub deliver_done : LedgerModel → ℕ → ℕ → LedgerModel
  deliver_done l j o = delivered_if (row l j).state (exchange (row l j) o).waiting l j o

-- a job is handed in under the same conditions under which it may be withdrawn
abbrev pub hand_in_fault : LedgerModel → ℕ → Option LedgerFault
hand_in_fault l j = withdraw_fault l j

abbrev pub deliver_fault : ℕ → LedgerModel → ℕ → ℕ → Option LedgerFault
deliver_fault offices l j o =
    refuse_if (nat_lt last_job j) fault.JobNumber
    (refuse_if (not (nat_lt o offices)) fault.OfficeNumber
    (refuse_if (is_never_opened (row l j).state) fault.NeverOpened
    (refuse_if (not (is_amendment (row l j).kind)) fault.WrongKind
    (refuse_if (not (waits (exchange (row l j) o))) fault.NoMessage None))))
