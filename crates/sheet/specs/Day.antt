-- The text of a whole day; `src/day.rt` cites it. Assumes nothing.
use Rattle.std.specs.Prelude.{◌≡◌, ℕ, ◌+◌, List, [], ◌∷◌, ◌++◌, take, Ok, Err, OnOk, codes, decimal, Result, String, string_bytes}
use Rattle.values.specs.declared.amount.Amount.{Amount}
use Rattle.lines.specs.Cutting.{lines_of, most_input}
use Rattle.house.specs.Questions.{answered_jobs}
use Rattle.house.specs.Model.{HouseModel, built}
use Rattle.sheet.specs.Answers.{answer_text}
use Rattle.sheet.specs.Carrying.{line_told, line_after}
use Rattle.sheet.specs.Refusals.{refusal_text, numbered}
use Rattle.sheet.specs.declared.answer.Answer.{Answer}
use Rattle.sheet.specs.declared.refusal.Refusal.{Refusal}

-- where r is no refusal, the bytes stand behind the text before, and that is the text after
abbrev pub Appended : {T E Z : Type 0} → Result T E → String Z → String Z → List ℕ → Type 0
Appended r before after bytes = OnOk r (string_bytes after ≡ string_bytes before ++ bytes)

-- line number, `ok` and what was told; or the refusal
abbrev pub line_text : ℕ → Result Answer Refusal → List ℕ
line_text n (Ok a) = decimal n ++ (codes " ok" ++ (answer_text a ++ codes "\n"))
line_text n (Err r) = refusal_text r ++ codes "\n"

abbrev pub jobs_text : List ℕ → List ℕ
jobs_text [] = []
jobs_text (j ∷ js) = (codes " " ++ decimal j) ++ jobs_text js

-- `end` and the answered jobs in order
unfoldable pub end_text : List ℕ → List ℕ
end_text js = codes "end" ++ (jobs_text js ++ codes "\n")

-- the lines, of which the first has number n, in a house that stands at m
unfoldable pub lines_text : ℕ → HouseModel Amount → List (List ℕ) → List ℕ
lines_text n m [] = end_text (answered_jobs m)
lines_text n m (l ∷ ls) = line_text n (numbered n (line_told m l)) ++ lines_text (n + 1) (line_after m l) ls

-- a house of 2 offices over a byte shelf of 1,024 bytes, which has room for 64 amounts
abbrev pub house_of_day : HouseModel Amount
house_of_day = built 2 [] 64

-- what is printed of an input
abbrev pub day_text : List ℕ → List ℕ
day_text input = lines_text 1 house_of_day (lines_of (take most_input input))
