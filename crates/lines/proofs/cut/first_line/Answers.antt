use Rattle.std.proofs.Common.{arith}
use Rattle.std.proofs.lemmas.Grind.{common_steps}
use Rattle.std.proofs.lemmas.List.{take_rest}
use Rattle.lines.proofs.Cuts.{first_line_cut}
use Rattle.lines.proofs.cut.first_line.Goals as goal

pub returns-in-Some-clause-value : goal.returns-in-Some-clause-value
returns-in-Some-clause-value c = let cut = first_line_cut c.args.input.now _ c.in-Some.ensures in grind (arith, common_steps, take_rest)

pub returns-in-None-2-clause-value : goal.returns-in-None-2-clause-value
returns-in-None-2-clause-value c = let cut = first_line_cut c.args.input.now _ c.in-None.ensures in grind (arith, common_steps)
