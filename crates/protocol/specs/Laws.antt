-- What every run of the ledger keeps; `src/lib.rt` cites it. Assumes nothing of a run: any calls, on any number of offices from 1 to 8.
use Rattle.std.specs.Prelude.{◌≡◌, ℕ, suc, ◌+◌, ◌<◌, ◌≤◌, Bool, true, false, cond, ◌≢◌, ◌⊎◌, List, [], ◌∷◌, length, Some, None}
use Rattle.ledger.specs.Limits.{last_job, most_versions, most_offices}
use Rattle.ledger.specs.Model.{LedgerModel, row, versions, exchange, first_unseen, has_written, installed_version}
use Rattle.ledger.specs.Delivering.{waits}
use Rattle.ledger.specs.Answering.{is_held, collect_fault, close_fault}
use Rattle.ledger.specs.declared.job.JobKind.TheVariants.{Inspection}
use Rattle.ledger.specs.declared.job.State.{State}
use Rattle.ledger.specs.declared.job.State.TheVariants.{NeverOpened, Open, Voting, Accepted, Dropped, Answered, Ended}
use Rattle.ledger.specs.declared.message.Outcome.TheVariants.{Commit, Abort}
use Rattle.ledger.specs.declared.message.Message.{Message}
use Rattle.ledger.specs.declared.message.Message.TheVariants.{Prepare, Vote as VoteCast, Decision}
use Rattle.protocol.specs.Calls.{LedgerCall, job_of, ledger_after, Reached}

-- a step changes its own job's row and no other, whatever ledger it starts from
abbrev pub OtherRowsStay : Type 0
OtherRowsStay =
    (offices : ℕ) (office : ℕ → ℕ) (l : LedgerModel) (c : LedgerCall) (k : ℕ) → k ≢ job_of c → row (ledger_after offices office l c) k ≡ row l k

-- P holds of each ledger that calls lead to, with its line
abbrev pub InEveryRun : ((ℕ → ℕ) → LedgerModel → List ℕ → Type 0) → Type 0
InEveryRun P =
    (offices : ℕ) (office : ℕ → ℕ) → offices ≤ most_offices → ((r : ℕ) → office r < most_offices) →
    (l : LedgerModel) (q : List ℕ) → Reached offices office l q → P office l q

-- the cases that no run meets, in which the rules say something all the same

abbrev pub is_ballot : Message → Bool
is_ballot Prepare = true
is_ballot (VoteCast v) = true
is_ballot (Decision d) = false

abbrev pub is_commit_message : Message → Bool
is_commit_message Prepare = false
is_commit_message (VoteCast v) = false
is_commit_message (Decision Commit) = true
is_commit_message (Decision Abort) = false

abbrev pub is_abort_message : Message → Bool
is_abort_message Prepare = false
is_abort_message (VoteCast v) = false
is_abort_message (Decision Commit) = false
is_abort_message (Decision Abort) = true

-- the messages that a delivery does something with, by the job's state
abbrev pub message_fits : State → Message → Bool
message_fits NeverOpened m = false
message_fits Open m = false
message_fits Voting m = is_ballot m
message_fits Accepted m = is_commit_message m
message_fits (Dropped k) m = is_abort_message m
message_fits Answered m = false
message_fits Ended m = false

-- every waiting message fits the state of its job
abbrev pub MessagesFit : Type 0
MessagesFit = InEveryRun (λ office l q. (j o : ℕ) (m : Message) → (exchange (row l j) o).waiting ≡ Some m → message_fits (row l j).state m ≡ true)

-- where a decision to commit waits, no record that it installs has all its versions
abbrev pub RecordsHaveRoom : Type 0
RecordsHaveRoom =
    InEveryRun (λ office l q.
    (j o r : ℕ) → (exchange (row l j) o).waiting ≡ Some (Decision Commit) → office r ≡ o → has_written (row l j).writes r ≡ true →
    length (versions l r) < most_versions)

-- where a job can be answered, the list of answers has room for it
abbrev pub AnswersHaveRoom : Type 0
AnswersHaveRoom = InEveryRun (λ office l q. (j : ℕ) → (collect_fault l j ≡ None) ⊎ (close_fault l j ≡ None) → length l.answered < last_job + 1)

-- what the protocol is for

-- how many of these jobs wrote the record
abbrev pub writers : LedgerModel → List ℕ → ℕ → ℕ
writers l [] r = 0
writers l (j ∷ js) r = cond (has_written (row l j).writes r) 1 0 + writers l js r

-- of jobs in the order of their answers, the newest first: each installed and read what those answered before it leave, as if they had run one after another
abbrev pub InSeries : LedgerModel → List ℕ → Type 0
InSeries l [] = Unit {0}
InSeries l (j ∷ js) =
    ((r : ℕ) →
    (has_written (row l j).writes r ≡ true → installed_version (row l j).writes r ≡ suc (writers l js r)) ×
    (0 < first_unseen (row l j).reads r → first_unseen (row l j).reads r ≡ suc (writers l js r))) ×
    InSeries l js

abbrev pub AnswersInSeries : Type 0
AnswersInSeries = InEveryRun (λ office l q. InSeries l l.answered)

-- no inspection is open and no message waits
pub record Calm (l : LedgerModel) : Type 0 where
  pub closed : (j : ℕ) → (row l j).kind ≡ Inspection → (row l j).state ≢ Open
  pub silent : (j o : ℕ) → waits (exchange (row l j) o) ≡ false

-- then the first of the line is accepted, nothing holds it back, and it can be collected
abbrev pub FirstCollectable : Type 0
FirstCollectable =
    InEveryRun (λ office l q.
    Calm l → (t : ℕ) (ts : List ℕ) → q ≡ t ∷ ts → ((row l t).state ≡ Accepted) × (is_held l t ≡ false) × (collect_fault l t ≡ None))
