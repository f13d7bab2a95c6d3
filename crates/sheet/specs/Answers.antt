-- The text of what a command tells; `src/answer.rt` cites it. Assumes nothing.
use Rattle.std.specs.Prelude.{ℕ, List, [], ◌++◌, codes, decimal}
use Rattle.std.specs.Fmt.{signed_decimal}
use Rattle.values.specs.Currencies.{currency_number}
use Rattle.values.specs.declared.amount.Amount.{Amount}
use Rattle.ledger.specs.Marks.{mark_number}
use Rattle.ledger.specs.declared.job.Collected.{Collected}
use Rattle.ledger.specs.declared.job.Collected.TheVariants.{Answered, Dropped}
use Rattle.ledger.specs.declared.reading.Reading.{Reading}
use Rattle.ledger.specs.declared.reading.Reading.TheVariants.{Blank, Own, Version}
use Rattle.sheet.specs.declared.answer.Answer.{Answer}
use Rattle.sheet.specs.declared.answer.Answer.TheVariants as answer

-- currency number and units
abbrev pub amount_text : Amount → List ℕ
amount_text a = decimal (currency_number a.currency) ++ (codes " " ++ signed_decimal a.units)

-- `own`, or the version, and then the amount unless the version is blank
abbrev pub reading_text : Reading Amount → List ℕ
reading_text Blank = codes " 0"
reading_text (Own a) = codes " own " ++ amount_text a
reading_text (Version n a) = codes " " ++ (decimal n ++ (codes " " ++ amount_text a))

-- `answered`, or `dropped` and the mark
abbrev pub collected_text : Collected → List ℕ
collected_text Answered = codes " answered"
collected_text (Dropped mark) = codes " dropped " ++ decimal (mark_number mark)

abbrev pub answer_text : Answer → List ℕ
answer_text answer.Done = []
answer_text (answer.Read r) = reading_text r
answer_text (answer.Collected c) = collected_text c
