use Rattle.law.proofs.Lawfulness.{ledger_reached}
use Rattle.law.proofs.ledger_reached.Goals as goal

pub returns : goal.returns
returns g c = ledger_reached _
