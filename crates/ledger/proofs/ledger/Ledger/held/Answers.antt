use Rattle.std.proofs.Common.{◌∙◌, arith}
use Rattle.ledger.proofs.Holds.{held_by_rows}
use Rattle.ledger.proofs.ledger.Ledger.held.Goals as goal

pub returns : goal.returns
returns c = c.some_holds_back.ensures ∙ held_by_rows c.args.self.now c.args.job _ (omega arith)
