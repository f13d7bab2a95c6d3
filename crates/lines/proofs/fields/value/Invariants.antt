use Rattle.lines.proofs.Digits.{ReadSoFar}
use Rattle.lines.proofs.fields.value.Given as goal

abbrev pub invariant-loop-digit : goal.invariant-loop-digit
invariant-loop-digit l = ReadSoFar l.digits l.digit-index l.value
