use Rattle.std.proofs.Common.{◌+◌, ◌∙◌}
use Rattle.house.specs.Model.{model}
use Rattle.sheet.proofs.Texts.{line_written, end_written}
use Rattle.sheet.proofs.day.write_lines.Goals as goal

pub loop-i-preserved : goal.loop-i-preserved
loop-i-preserved g c =
    line_written _ _ c.in-Some.i c.loop-i.i-iterator.count _ (model g.S.Shelf c.loop-i.house) _ _ _ _ _ _ c.in-Some.ensures.steps c.carry_out_line.ensures.told c.at_line-answer.ensures c.carry_out_line.ensures.after c.in_ok-write.ensures.bytes
    ∙ c.loop-i.invariant

pub returns : goal.returns
returns g c =
    end_written c.write_end.result _ _ _ (c.loop-i.i-iterator.count + 1) (model g.S.Shelf c.loop-i.house) _ _ c.in-None.ensures.steps.0 c.answered.ensures c.loop-i.invariant c.write_end.ensures
