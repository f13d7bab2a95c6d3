-- The number by which a state is told; `src/job.rt` cites it. Assumes nothing.
use Rattle.std.specs.Prelude.{ℕ}
use Rattle.ledger.specs.declared.job.State.{State}
use Rattle.ledger.specs.declared.job.State.TheVariants.{NeverOpened, Open, Voting, Accepted, Dropped, Answered, Ended}

-- a dropped job is told with its mark as well
abbrev pub state_number : State → ℕ
state_number NeverOpened = 0
state_number Open = 1
state_number Voting = 2
state_number Accepted = 3
state_number (Dropped mark) = 4
state_number Answered = 5
state_number Ended = 6
