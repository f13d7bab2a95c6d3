use Rattle.std.proofs.Common.{◌∙◌, arith}
use Rattle.ledger.proofs.Conflicts.{conflict_by_rows}
use Rattle.ledger.proofs.ledger.Ledger.has_conflict.Goals as goal

pub returns : goal.returns
returns c = c.some_conflicts.ensures ∙ conflict_by_rows c.args.office.offices c.args.self.now c.args.job c.args.office.number _ (omega arith)
