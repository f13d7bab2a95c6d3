-- What the questions of the house tell; `src/questions.rt` cites it. Assumes nothing.
use Rattle.std.specs.Prelude.{ℕ, List, Ok, Err, Result}
use Rattle.ledger.specs.Questions.{state_told, newest_told, answers, answer_count, answer_told}
use Rattle.ledger.specs.declared.fault.LedgerFault.{LedgerFault}
use Rattle.ledger.specs.declared.job.State.{State}
use Rattle.house.specs.Model.{HouseModel}
use Rattle.house.specs.declared.fault.Fault.{Fault}
use Rattle.house.specs.declared.fault.Fault.TheVariants as fault

-- what the ledger told, its refusal carried whole
abbrev pub carried : {A : Type 0} → Result A LedgerFault → Result A Fault
carried (Ok a) = Ok a
carried (Err f) = Err (fault.Ledger f)

module _ {V : Type 0} where
  abbrev pub job_state_told : HouseModel V → ℕ → Result State Fault
  job_state_told m j = carried (state_told m.ledger j)

  abbrev pub newest_version_told : HouseModel V → ℕ → Result ℕ Fault
  newest_version_told m r = carried (newest_told m.ledger r)

  -- the answered jobs in the order of their answers
  abbrev pub answered_jobs : HouseModel V → List ℕ
  answered_jobs m = answers m.ledger

  abbrev pub answered_count_told : HouseModel V → ℕ
  answered_count_told m = answer_count m.ledger

  -- the first answer is number 0
  abbrev pub answered_at_told : HouseModel V → ℕ → Result ℕ Fault
  answered_at_told m n = carried (answer_told m.ledger n)
