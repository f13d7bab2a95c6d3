use Rattle.std.proofs.Common.{◌≡◌, ◌+◌, ◌++◌, take, string_bytes}
use Rattle.lines.specs.Cutting.{lines_of, most_input}
use Rattle.house.specs.Model.{model}
use Rattle.sheet.specs.Day.{lines_text}
use Rattle.sheet.proofs.day.write_lines.Given as goal

-- what is written and what is left to write are the whole
abbrev pub invariant-loop-i : goal.invariant-loop-i
invariant-loop-i g l =
    string_bytes l.text ++ lines_text (l.i-iterator.count + 1) (model g.S.Shelf l.house) (lines_of l.i-iterator.iter.rest.now)
    ≡ string_bytes l.initial.text ++ lines_text 1 (model g.S.Shelf l.initial.house) (lines_of (take most_input l.input))
