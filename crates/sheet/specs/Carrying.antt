-- What a line tells in a house of amounts, and how the house stands then; `src/carry_out.rt` cites it. Assumes nothing.
use Rattle.std.specs.Prelude.{ℕ, List, ℤ, Ok, Err, Result}
use Rattle.values.specs.Amounts.{amount_from_numbers}
use Rattle.values.specs.declared.amount.Amount.{Amount}
use Rattle.values.specs.declared.fault.ValueFault.{ValueFault}
use Rattle.ledger.specs.declared.job.JobKind.TheVariants.{Amendment, Inspection}
use Rattle.lines.specs.Commands.{parsed}
use Rattle.lines.specs.declared.command.Command.{Command}
use Rattle.lines.specs.declared.command.Command.TheVariants as command
use Rattle.lines.specs.declared.command.LineFault.{LineFault}
use Rattle.house.specs.Calls.{open_told, open_after, withdraw_told, withdraw_after, read_told, read_after, write_told, write_after}
use Rattle.house.specs.Committing.{hand_in_told, hand_in_after, deliver_told, deliver_after, collect_told, collect_after, close_told, close_after}
use Rattle.house.specs.Faults.{kept}
use Rattle.house.specs.Model.{HouseModel}
use Rattle.house.specs.declared.fault.Fault.{Fault}
use Rattle.house.specs.declared.fault.Fault.TheVariants as fault
use Rattle.sheet.specs.declared.answer.Answer.{Answer}
use Rattle.sheet.specs.declared.answer.Answer.TheVariants as answer
use Rattle.sheet.specs.declared.refusal.Cause.{Cause}
use Rattle.sheet.specs.declared.refusal.Cause.TheVariants as cause

-- a write of the amount, if the two numbers are one's
abbrev pub write_told_of : Result Amount ValueFault → HouseModel Amount → ℕ → ℕ → Result (Unit {0}) Fault
write_told_of (Ok a) m j r = write_told m j r
write_told_of (Err f) m j r = Err (fault.Value f)

abbrev pub write_after_of : Result Amount ValueFault → HouseModel Amount → ℕ → ℕ → HouseModel Amount
write_after_of (Ok a) m j r = kept (write_told m j r) m (write_after m j r a)
write_after_of (Err f) m j r = m

abbrev pub write_amount_told : HouseModel Amount → ℕ → ℕ → ℕ → ℤ → Result (Unit {0}) Fault
write_amount_told m j r c u = write_told_of (amount_from_numbers c u) m j r

abbrev pub write_amount_after : HouseModel Amount → ℕ → ℕ → ℕ → ℤ → HouseModel Amount
write_amount_after m j r c u = write_after_of (amount_from_numbers c u) m j r

-- what the house told, as the answer of a command
abbrev pub told_by : {T : Type 0} → (T → Answer) → Result T Fault → Result Answer Cause
told_by answer_of (Ok x) = Ok (answer_of x)
told_by answer_of (Err f) = Err (cause.House f)

-- the same of a call that tells nothing
abbrev pub done : Result (Unit {0}) Fault → Result Answer Cause
done r = told_by (λ _. answer.Done) r

abbrev pub command_told : HouseModel Amount → Command → Result Answer Cause
command_told m (command.OpenAmendment j) = done (open_told m j)
command_told m (command.OpenInspection j) = done (open_told m j)
command_told m (command.Read j r) = told_by answer.Read (read_told m j r)
command_told m (command.Write j r c u) = done (write_amount_told m j r c u)
command_told m (command.HandIn j) = done (hand_in_told m j)
command_told m (command.Deliver j o) = done (deliver_told m j o)
command_told m (command.Collect j) = told_by answer.Collected (collect_told m j)
command_told m (command.Close j) = done (close_told m j)
command_told m (command.Withdraw j) = done (withdraw_told m j)

abbrev pub command_after : HouseModel Amount → Command → HouseModel Amount
command_after m (command.OpenAmendment j) = kept (open_told m j) m (open_after m j Amendment)
command_after m (command.OpenInspection j) = kept (open_told m j) m (open_after m j Inspection)
command_after m (command.Read j r) = kept (read_told m j r) m (read_after m j r)
command_after m (command.Write j r c u) = write_amount_after m j r c u
command_after m (command.HandIn j) = kept (hand_in_told m j) m (hand_in_after m j)
command_after m (command.Deliver j o) = kept (deliver_told m j o) m (deliver_after m j o)
command_after m (command.Collect j) = kept (collect_told m j) m (collect_after m j)
command_after m (command.Close j) = kept (close_told m j) m (close_after m j)
command_after m (command.Withdraw j) = kept (withdraw_told m j) m (withdraw_after m j)

abbrev pub told_of : Result Command LineFault → HouseModel Amount → Result Answer Cause
told_of (Ok c) m = command_told m c
told_of (Err f) m = Err (cause.Line f)

abbrev pub after_of : Result Command LineFault → HouseModel Amount → HouseModel Amount
after_of (Ok c) m = command_after m c
after_of (Err f) m = m

abbrev pub line_told : HouseModel Amount → List ℕ → Result Answer Cause
line_told m line = told_of (parsed line) m

abbrev pub line_after : HouseModel Amount → List ℕ → HouseModel Amount
line_after m line = after_of (parsed line) m
