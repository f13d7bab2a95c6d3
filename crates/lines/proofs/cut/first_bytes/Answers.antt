use Rattle.lines.proofs.Cuts.{first_or_all}
use Rattle.lines.proofs.cut.first_bytes.Goals as goal

pub returns : goal.returns
returns c = first_or_all c.args.input _ _ c.get.ensures.lookup c.unwrap_or.ensures
