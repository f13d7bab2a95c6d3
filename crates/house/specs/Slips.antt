-- What opening by slip tells; `src/slip.rt` cites it. Assumes nothing.
use Rattle.std.specs.Prelude.{ℕ, false, Ok, Err, Result}
use Rattle.house.specs.declared.fault.Fault.{Fault}
use Rattle.house.specs.declared.slip.Slip.{Slip}

-- the slip of the job, if it was opened
abbrev pub slip_told : Result (Unit {0}) Fault → ℕ → Result Slip Fault
slip_told (Ok x) j = Ok (record { job = j; spent = false })
slip_told (Err f) j = Err f
