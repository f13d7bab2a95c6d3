use Rattle.std.proofs.Common.{append_assoc, rules}
use Rattle.sheet.specs.Day.{end_text}
use Rattle.sheet.proofs.day.write_end.Goals as goal

pub returns : goal.returns
unfolding end_text
returns c = search (rules, append_assoc)
